-- What a client gets that asks for page after page of a customer's devices.
use Rattle.std.specs.Option.{option_map_or}
use Rattle.std.specs.Prelude.{List, Option, Some, [], suc, zero, ◌++◌, ℕ}
use Rattle.office_tables.specs.declared.rows.Device.{Device}
use Rattle.office_rules.specs.Prelude.{devices_behind, next_page, on_page}

-- the devices of so many pages at most, of which the first begins behind a chip, and each other one
-- where the page before says
abbrev pub on_pages : ℕ → Option (List ℕ) → List Device → List Device
on_pages zero after devices = []
on_pages (suc n) after devices = on_page (devices_behind after devices)
    ++ option_map_or (λ chip. on_pages n (Some chip) devices)
    (next_page (devices_behind after devices)) []

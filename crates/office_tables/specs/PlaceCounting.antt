-- What counts of the places of orders are made of: their key, and what one device takes.
use Rattle.std.specs.Prelude.{◌&&◌, ℕ, List, if◌then◌else◌}
use Rattle.std.specs.Ordering.{ordering_then}
use Rattle.std.specs.declared.cmp.Ordering.{Ordering}
use Rattle.office_tables.specs.declared.rows.OfCustomer.{OfCustomer}
use Rattle.office_tables.specs.declared.rows.Device.{Device}
use Rattle.office_tables.specs.OrderPlaces.{takes_place}
use Rattle.office_tables.specs.Tables.{is_of, text_cmp}

-- pairs of texts, as customers with their orders: by the first and then by the second
abbrev pub text_pair_cmp : List ℕ × List ℕ → List ℕ × List ℕ → Ordering
text_pair_cmp a b = ordering_then (text_cmp a.0 b.0) (text_cmp a.1 b.1)

-- what a device takes of a customer's order
abbrev pub place_of_device : List ℕ → List ℕ → OfCustomer Device → ℕ
place_of_device customer order o = if is_of customer o && takes_place order o.row then 1 else 0

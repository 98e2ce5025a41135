-- What is counted of an order: its devices by the columns of their states, and its serial numbers that aren't given.
use Rattle.std.specs.Prelude.{◌≡◌, ℕ, ◌==◌, Bool, List, [], ◌∷◌, codes, length, filter, map, sum, take, bytes_eq, is_some}
use Rattle.std.specs.List.{range_with_len}
use Rattle.id_ranges.specs.Prelude.{Range, TextSet, numbers, is_unused}
use Rattle.office_tables.specs.declared.rows.Order.{Order}
use Rattle.office_tables.specs.declared.rows.Device.{Device}
use Rattle.office_tables.specs.Prelude.{Tables, given_at, rows_of, state_row}
use Rattle.yield_counts.specs.declared.count.OrderCounts.{OrderCounts}

-- whether a serial number of an issuer is given
abbrev pub HasIssued : Type 0
HasIssued = List ℕ → List ℕ → Bool

-- whether a serial number is given, by any customer
abbrev pub has_issued_in : Tables → HasIssued
has_issued_in t issuer serial = is_some (given_at issuer serial t)

-- the devices of an order
abbrev pub devices_of : List ℕ → List Device → List Device
devices_of order devices = filter (λ d. bytes_eq order d.order) devices

-- how many devices are in a state of this column
abbrev pub count_in : List Device → ℕ → ℕ
count_in devices column = length (filter (λ d. (state_row d.state).column == column) devices)

-- the columns of states, by their names
abbrev pub state_names : List (List ℕ)
state_names =
    codes "registered" ∷ codes "planned" ∷ codes "settled" ∷ codes "identified" ∷ codes "shipped" ∷ codes "quarantined" ∷ codes "scrapped" ∷ []

-- their places among each other
abbrev pub columns : List ℕ
columns = range_with_len 0 (length state_names)

-- how many devices of these columns take a place of their order: those in all but the last two, of the quarantined and of the scrapped ones
abbrev pub places_in : List ℕ → ℕ
places_in numbers = sum (take 5 numbers)

-- how many numbers of a range have a serial number that isn't given
abbrev pub count_unused : TextSet → Range → ℕ
count_unused given range = length (filter (is_unused given range) (numbers range))

-- how many of an order's serial numbers aren't given in its issuer, whoever gave the others
abbrev pub serials_left : HasIssued → Order → ℕ
serials_left given o = count_unused (given o.issuer) o.range

-- what is counted of a customer's order with this name and range of an issuer is what the tables have of it
pub record AreCountsOf (customer order issuer : List ℕ) (range : Range) (t : Tables) (counts : OrderCounts) : Type 0 where
  pub devices : counts.devices ≡ map (count_in (devices_of order (rows_of customer t.devices))) columns
  pub left : counts.left ≡ count_unused (has_issued_in t issuer) range

-- What a yield report counts of the orders of a customer.
use Rattle.std.specs.Prelude.{ℕ, ◌+◌, List, [], ◌∷◌, ◌++◌, length, map, slice_index, sum_by}
use Rattle.std.specs.List.{range_with_len}
use Rattle.office_tables.specs.declared.rows.Order.{Order}
use Rattle.office_tables.specs.declared.rows.Device.{Device}
pub use Rattle.yield_counts.specs.Counts.{columns, count_in, count_unused, devices_of, HasIssued, has_issued_in, serials_left, state_names}

-- the numbers of an order among all devices of its customer: its quantity, its devices by column, and its serial numbers left
abbrev pub yield_of : HasIssued → List Device → Order → List ℕ
yield_of given devices o = o.range.quantity ∷ (map (count_in (devices_of o.name devices)) columns ++ serials_left given o ∷ [])

-- the numbers of a line, in the order of their names
abbrev pub Yield : Type 0
Yield = List ℕ

-- how many numbers a line has: the quantity, one a column, and how many are left
abbrev pub number_count : ℕ
number_count = length state_names + 2

-- the sum of the numbers at a place
abbrev pub sum_at : List Yield → ℕ → ℕ
sum_at ys place = sum_by (λ y. slice_index y place) ys

-- the sums at each place
abbrev pub total : List Yield → Yield
total ys = map (sum_at ys) (range_with_len 0 number_count)

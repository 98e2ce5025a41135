-- The numbers of devices that are kept, and when they are right.
use Rattle.std.specs.Prelude.{◌≡◌, ◌==◌, ◌&&◌, ℕ, List, Option, Some, None, replicate, length, bytes_eq, option_map, unwrap_or, slice_index}
use Rattle.std.specs.Prelude.{slice_set, if◌then◌else◌}
use Rattle.std.specs.BTreeMap.{get}
use Rattle.office_tables.specs.Prelude.{one_more, rows_of, state_row, text_cmp}
use Rattle.office_tables.specs.declared.rows.DeviceState.{DeviceState}
use Rattle.office_tables.specs.declared.rows.OfCustomer.{OfCustomer}
use Rattle.office_tables.specs.declared.rows.Device.{Device}
use Rattle.yield_counts.specs.Counts.{count_in, devices_of, state_names}
use Rattle.yield_counts.specs.declared.columns.OrderColumns.{OrderColumns}
use Rattle.yield_counts.specs.declared.devices.DeviceCounts.{DeviceCounts}

-- no devices in any column
abbrev pub no_devices : List ℕ
no_devices = replicate (length state_names) 0

-- the numbers that are kept of an order, none where there is nothing
abbrev pub columns_at : List ℕ → OrderColumns → List ℕ
columns_at order c = unwrap_or (get text_cmp c.orders order) no_devices

-- the number that is kept of an order and a column
abbrev pub count_at : List ℕ → ℕ → OrderColumns → ℕ
count_at order column c = slice_index (columns_at order c) column

-- the numbers with one device more in a state, if the tables have room for its number
abbrev pub with_one : DeviceState → List ℕ → Option (List ℕ)
with_one state numbers =
    let column = (state_row state).column in
    option_map (slice_set numbers column) (one_more (slice_index numbers column))

-- what a device counts for an order and a column
abbrev pub in_column : List ℕ → ℕ → Device → ℕ
in_column order column d = if bytes_eq order d.order && ((state_row d.state).column == column) then 1 else 0

-- what it counts, if there is one
abbrev pub taken_in_column : List ℕ → ℕ → Option Device → ℕ
taken_in_column order column None = 0
taken_in_column order column (Some d) = in_column order column d

-- the numbers that are kept of an order, if its customer was counted
abbrev pub columns_known : List ℕ → List ℕ → DeviceCounts → Option (List ℕ)
columns_known customer order c = option_map (columns_at order) (get text_cmp c.customers customer)

-- how many devices of a customer's order are in a column
abbrev pub count_of : List ℕ → List ℕ → ℕ → List (OfCustomer Device) → ℕ
count_of customer order column rows = count_in (devices_of order (rows_of customer rows)) column

-- each number is that of a customer's devices
abbrev pub AreColumnsOf : List ℕ → List (OfCustomer Device) → OrderColumns → Type 0
AreColumnsOf customer rows c = (order : List ℕ) (column : ℕ) → count_at order column c ≡ count_of customer order column rows

-- the numbers of each customer that was counted are right
abbrev pub AreCounted : List (OfCustomer Device) → DeviceCounts → Type 0
AreCounted rows c = (customer : List ℕ) (orders : OrderColumns) → get text_cmp c.customers customer ≡ Some orders → AreColumnsOf customer rows orders

-- What one row adds while rows are walked over.
use Rattle.std.specs.Prelude.{◌≡◌, ◌+◌, ◌-◌, ℕ, Bool, true, false, List, is_some, if◌then◌else◌}
use Rattle.std.specs.Ordering.{is_lt}
use Rattle.office_tables.specs.Prelude.{text_cmp}
use Rattle.office_tables.specs.declared.rows.OfCustomer.{OfCustomer}
use Rattle.office_tables.specs.declared.rows.Device.{Device}
use Rattle.yield_counts.specs.Counting.{count_at, in_column}
use Rattle.yield_counts.specs.Serials.{has_serial}
use Rattle.yield_counts.specs.declared.walks.DeviceScan.{DeviceScan}
use Rattle.yield_counts.specs.declared.walks.SerialScan.{SerialScan}

-- the device is counted in its order and column; or there was no room for it, and the walk ends
pub record CountsDevice (old : DeviceScan) (row : OfCustomer Device) (goes_on : Bool) (new : DeviceScan) : Type 0 where
  pub counted : goes_on ≡ true → (order : List ℕ) (column : ℕ) → count_at order column new.orders
      ≡ count_at order column old.orders + in_column order column row.row
  pub same : goes_on ≡ true → new.failed ≡ old.failed
  pub failed : goes_on ≡ false → is_some new.failed ≡ true

-- the serial number is taken, where the range has it; or it stands behind the range's last one, and the walk ends
pub record TakesSerial (old : SerialScan) (serial : List ℕ) (goes_on : Bool) (new : SerialScan) : Type 0 where
  pub range : new.range ≡ old.range
  pub last : new.last ≡ old.last
  pub left : goes_on ≡ true → new.left ≡ old.left - (if has_serial old.range serial then 1 else 0)
  pub same : goes_on ≡ false → new.left ≡ old.left
  pub behind : goes_on ≡ false → is_lt (text_cmp old.last serial) ≡ true

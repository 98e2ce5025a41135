-- The devices that take a place of an order, counted by a walk.
use Rattle.std.specs.Prelude.{◌≡◌, ◌+◌, ◌<◌, ◌^◌, Bool, true, if◌then◌else◌}
use Rattle.office_tables.specs.declared.rows.OfCustomer.{OfCustomer}
use Rattle.office_tables.specs.declared.rows.Device.{Device}
use Rattle.office_tables.specs.Prelude.{takes_place}
use Rattle.memory_keeper.specs.declared.devices.PlaceScan.{PlaceScan}

-- the device is counted where it takes a place of the order, as far as that is no large number, and the walk goes on
pub record CountsPlace (old : PlaceScan) (row : OfCustomer Device) (goes_on : Bool) (new : PlaceScan) : Type 0 where
  pub all : goes_on ≡ true
  pub order : new.order ≡ old.order
  pub taken : old.taken < 2 ^ 63 → new.taken ≡ old.taken + (if takes_place old.order row.row then 1 else 0)

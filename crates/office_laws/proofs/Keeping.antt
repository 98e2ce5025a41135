-- What a step keeps of its device.
use Rattle.std.proofs.Common.{◌≡◌, ◌++◌, ℕ, true, List, [], ◌∷◌, Some, is_some}
use Rattle.fusemap_core.specs.Prelude.{Map}
use Rattle.fuse_image.specs.Prelude.{IsImageWithin}
use Rattle.office_laws.proofs.Types.{Device, Entry, OfCustomer, DeviceStep}
use Rattle.office_tables.specs.Prelude.{state_row}
use Rattle.office_rules.specs.Prelude.{known_of}
use Rattle.office_laws.specs.Prelude.{FitsFuseMap}

-- chip, order, map, the serial number that it has and what is known to be burnt; and what its map
-- asks of the device and its ledger holds of it with the step's entry
pub record Keeps (m : Map) (d : Device) (step : DeviceStep) : Type 0 where
  pub chip : step.device.chip ≡ d.chip
  pub order : step.device.order ≡ d.order
  pub map : step.device.map ≡ d.map
  pub serial : (serial : List ℕ) → d.serial ≡ Some serial → step.device.serial ≡ Some serial
  pub burnt : IsImageWithin (known_of m d) (known_of m step.device)
  pub numbered : is_some step.device.serial ≡ true → (state_row step.device.state).may_have_serial ≡ true
  pub kept : (es : List (OfCustomer Entry)) (e : OfCustomer Entry) → e.row.bits ≡ step.bits
      → e.row.keys ≡ step.keys → FitsFuseMap m d es → FitsFuseMap m step.device (es ++ e ∷ [])

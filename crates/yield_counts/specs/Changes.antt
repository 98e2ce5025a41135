-- The devices that a list of writes puts, and what is put in place of what.
use Rattle.std.specs.Prelude.{◌≡◌, ◌<◌, List, [], ◌∷◌, filter_map, find, length, Option, Some, None}
use Rattle.office_tables.specs.declared.rows.OfCustomer.{OfCustomer}
use Rattle.office_tables.specs.declared.rows.Device.{Device}
use Rattle.office_tables.specs.declared.rows.Write.{Write}
use Rattle.office_tables.specs.declared.rows.Write.TheVariants.{AddDevice, PutDevice}
use Rattle.office_tables.specs.Prelude.{is_device}
use Rattle.yield_counts.specs.declared.written.DeviceAnswer.{DeviceAnswer}
use Rattle.yield_counts.specs.declared.written.PutDevices.{PutDevices}
use Rattle.yield_counts.specs.declared.written.PutDevices.TheVariants.{Nothing, One, Several}

-- the device that a write puts
abbrev pub put_of : Write → Option (OfCustomer Device)
put_of (AddDevice d) = Some d
put_of (PutDevice d) = Some d
put_of _ = None

-- whether a list of devices has none, one or more, and the one
abbrev pub AreAmong : PutDevices → List (OfCustomer Device) → Type 0
AreAmong Nothing devices = devices ≡ []
AreAmong (One d) devices = devices ≡ d.now ∷ []
AreAmong Several devices = 1 < length devices

-- what the writes put, and in the place of what: of several this says nothing
abbrev pub IsChangeOf : List Write → List (OfCustomer Device) → PutDevices → Option (OfCustomer Device) → Type 0
IsChangeOf writes rows Nothing old = filter_map put_of writes ≡ []
IsChangeOf writes rows (One d) old =
    (filter_map put_of writes ≡ d.now ∷ []) × (old ≡ find (is_device d.now.customer d.now.row.chip) rows)
IsChangeOf writes rows Several old = Unit {0}

-- the answer is what the rows have for its key
abbrev pub IsAnswerOf : Option DeviceAnswer → List (OfCustomer Device) → Type 0
IsAnswerOf None rows = Unit {0}
IsAnswerOf (Some a) rows = find (is_device a.customer a.chip) rows ≡ a.row

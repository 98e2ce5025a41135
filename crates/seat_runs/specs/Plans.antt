-- What a plan's reply says is to be burnt, in the device's row, and what ends that.
use Rattle.std.specs.FinSet as set
use Rattle.std.specs.Prelude.{◌≡◌, ◌⊎◌, ℕ, Bool, true, false, bytes_eq, List, Option, Some, option_map}
use Rattle.http_replies.specs.Prelude.{Answer as Response}
use Rattle.fusemap_core.specs.Prelude.{Map}
use Rattle.fuse_columns.specs.Prelude.{pending_in}
use Rattle.fuse_image.specs.declared.image.Image.{Image}
use Rattle.fuse_image.specs.declared.pending.Pending.{Pending}
use Rattle.fuse_image.specs.Prelude.{IsImageWithin}
use Rattle.fuse_plan.specs.Prelude.{with_batch}
use Rattle.office_tables.specs.declared.rows.Device.{Device}
use Rattle.office_tables.specs.declared.rows.DeviceState.TheVariants.{AwaitingFirst, AwaitingSecond}
use Rattle.office_tables.specs.Prelude.{Tables, device_at, state_row}
use Rattle.office_commands.specs.declared.command.Action.TheVariants.{Plan, ReadBack, Scrap}
use Rattle.office_commands.specs.declared.command.Change.TheVariants.{Act}
use Rattle.office_commands.specs.declared.command.Command.{Command}
use Rattle.office_commands.specs.declared.command.Command.TheVariants.{Change}
use Rattle.office_commands.specs.Prelude.{acceptance, plan_body}
use Rattle.office_rules.specs.Prelude.{known_of, map_named, state_of_pending}
use Rattle.office_laws.specs.Prelude.{Exchange, Wanted, asks}
use Rattle.seat_core.specs.declared.request.Answered.{Answered}
use Rattle.seat_runs.specs.Moments.{IsDoneThen, IsMomentOf, Moment, MomentOf}
use Rattle.seat_runs.specs.Turns.{StationRun}

-- the device of a customer's chip
abbrev pub device_of : List ℕ → List ℕ → Tables → Option Device
device_of customer chip t = option_map (λ d. d.row) (device_at customer chip t)

-- something may still be to be burnt of the device
abbrev pub IsAwaiting : Device → Type 0
IsAwaiting d = (d.state ≡ AwaitingFirst) ⊎ (d.state ≡ AwaitingSecond)

-- the command plans what is to be burnt of the chip
abbrev pub is_plan : List ℕ → Command → Bool
is_plan chip (Change (Act other (Plan wishes))) = bytes_eq chip other
is_plan chip command = false

-- the command reads the chip back, or scraps it
abbrev pub is_end : List ℕ → Command → Bool
is_end chip (Change (Act other (ReadBack blocks))) = bytes_eq chip other
is_end chip (Change (Act other Scrap)) = bytes_eq chip other
is_end chip command = false

-- a command that passes this test is asked for
abbrev pub asks_for : (Command → Bool) → Wanted → Bool
asks_for test (asks request) = test request.command
asks_for test other = false

-- in the run a seat of the customer read the chip back, or scrapped it
pub record HasEnd (customer chip : List ℕ) (xs : List Exchange) (t t2 : Tables) : Type 0 where
  pub moment : Moment xs t t2
  pub its : moment.exchange.0.section.name ≡ customer
  pub ends : asks_for (is_end chip) moment.exchange.0.wanted ≡ true
  pub done : IsDoneThen moment

-- What this reply to a plan says is to be burnt is pending of the chip's device, by its fuse map.
pub record IsRecorded (customer chip : List ℕ) (reply : Response) (t : Tables) : Type 0 where
  pub device : Device
  pub there : device_of customer chip t ≡ Some device
  pub by_map : Map
  pub named : map_named customer device.map t ≡ Some by_map
  pub work : Pending
  pub pending : pending_in by_map device.todo ≡ work
  pub state : device.state ≡ state_of_pending work
  pub tells : reply ≡ acceptance (plan_body by_map work device.state)

-- all that is burnt of a device or is to be burnt, by its row
abbrev pub expected_of : Map → Device → Image
expected_of m d = with_batch (known_of m d)
    (set.union (pending_in m d.todo).first (pending_in m d.todo).second) (pending_in m d.todo).keys

-- All of it is so still by the row of the chip's device, unless the device was quarantined or
-- scrapped.
pub record StaysExpected (customer chip : List ℕ) (m : Map) (d : Device) (t2 : Tables) : Type 0
  where
    pub later : Device
    pub there : device_of customer chip t2 ≡ Some later
    pub map : later.map ≡ d.map
    pub expected : (state_row later.state).is_given_up ≡ false
        → IsImageWithin (expected_of m d) (expected_of m later)

-- the device's row stays as it is, until the chip is read back or scrapped
abbrev pub StaysUntilEnd : List ℕ → List ℕ → Device → List Exchange → Tables → Tables → Type 0
StaysUntilEnd customer chip d xs t t2 =
    IsAwaiting d → (device_of customer chip t2 ≡ Some d) ⊎ HasEnd customer chip xs t t2

-- The plan of a chip that the station told as done is recorded at its moment, and stays so: as it
-- is until the chip is read back or scrapped, and from then on as burnt or to be burnt.
pub record IsPlanRecorded (s : StationRun) (told : Answered) (chip : List ℕ) : Type 0 where
  pub moment : MomentOf s
  pub told_of : IsMomentOf s told moment
  pub recorded : IsRecorded s.customer chip moment.exchange.1 moment.new
  pub stays : StaysUntilEnd s.customer chip recorded.device moment.behind moment.new s.office.new
  pub expected : StaysExpected s.customer chip recorded.by_map recorded.device s.office.new

-- How long a connection may wait for its client.
use Rattle.std.specs.Prelude.{ℕ, ◌≡◌, ◌≢◌, ◌-◌, ◌*◌, ◌≤◌, ◌⊎◌, IsTrue}
use Rattle.std.specs.Duration.{as_nanos}
use Rattle.std.specs.Time.{instant_nanos}
use Rattle.std.specs.declared.time.Instant.{Instant}
use Rattle.station_cli.specs.declared.patience.Awaited.{Awaited}
use Rattle.station_cli.specs.declared.patience.Awaited.TheVariants.{FirstByte, NextRequest, RestOfRequest}
use Rattle.station_cli.specs.declared.patience.Bounds.{Bounds}
use Rattle.station_cli.specs.declared.patience.NextRead.{NextRead}
use Rattle.station_cli.specs.declared.patience.NextRead.TheVariants.{Look, End}
use Rattle.station_cli.specs.declared.patience.Wait.{Wait}

-- how many nanoseconds lie between two moments
abbrev pub passed : Instant → Instant → ℕ
passed earlier later = instant_nanos later - instant_nanos earlier

-- a connection of which no request is under way gives way to another: where it says nothing for one
-- wait, and where the other one has waited for its turn
abbrev pub GivesWay : Bounds → Wait → Instant → Type 0
GivesWay bounds wait now = IsTrue wait.another_waits
    × ((as_nanos bounds.slice ≤ passed wait.since now) ⊎ (as_nanos bounds.turn ≤ passed wait.another_since now))

-- the wait for this is too long: a connection that says nothing gives way to another, and ends where
-- none waits; and a request is whole in time
abbrev pub IsTooLong : Bounds → Wait → Instant → Awaited → Type 0
IsTooLong bounds wait now FirstByte =
    (IsTrue wait.another_waits × (as_nanos bounds.first_byte ≤ passed wait.since now)) ⊎ (as_nanos bounds.silence ≤ passed wait.since now)
IsTooLong bounds wait now NextRequest = GivesWay bounds wait now ⊎ (as_nanos bounds.silence ≤ passed wait.since now)
IsTooLong bounds wait now RestOfRequest = as_nanos bounds.request ≤ passed wait.since now

-- the connection has lasted too long, where another waits
abbrev pub IsOutOfTime : Bounds → Wait → Instant → Type 0
IsOutOfTime bounds wait now = IsTrue wait.another_waits × (as_nanos bounds.connection ≤ passed wait.opened now)

-- the turn of a connection whose next request was read already is over: another one waits, and has
-- waited for its turn, or the connection has lasted too long for it
abbrev pub IsTurnOver : Bounds → Wait → Instant → Type 0
IsTurnOver bounds wait now = (IsTrue wait.another_waits × (as_nanos bounds.turn ≤ passed wait.another_since now)) ⊎ IsOutOfTime bounds wait now

-- the client is waited for no longer
abbrev pub IsOver : Bounds → Wait → Instant → Type 0
IsOver bounds wait now =
    IsTooLong bounds wait now wait.awaited ⊎ IsOutOfTime bounds wait now

-- what was sent before is read: where no request is under way, and the connection has its time
abbrev pub MayLook : Bounds → Wait → Instant → Type 0
MayLook bounds wait now = (wait.awaited ≢ RestOfRequest) × ¬ IsOutOfTime bounds wait now

-- what is done for a client next: it is waited for while its time isn't over; then what it has sent
-- is read, or nothing more
abbrev pub IsNextRead : Bounds → Wait → Instant → NextRead → Type 0
IsNextRead bounds wait now NextRead.Wait = ¬ IsOver bounds wait now
IsNextRead bounds wait now Look = IsOver bounds wait now × MayLook bounds wait now
IsNextRead bounds wait now End = IsOver bounds wait now × ¬ MayLook bounds wait now

-- the bounds of the program, in nanoseconds: waits of 50 milliseconds, a turn of 400, two seconds for a
-- first byte where another waits, ten for each request and each reply, and a minute in all
pub record AreOfProgram (bounds : Bounds) : Type 0 where
  pub slice : as_nanos bounds.slice ≡ 50 * 1_000_000
  pub turn : as_nanos bounds.turn ≡ 400 * 1_000_000
  pub first_byte : as_nanos bounds.first_byte ≡ 2 * 1_000_000_000
  pub silence : as_nanos bounds.silence ≡ 10 * 1_000_000_000
  pub request : as_nanos bounds.request ≡ 10 * 1_000_000_000
  pub reply : as_nanos bounds.reply ≡ 10 * 1_000_000_000
  pub connection : as_nanos bounds.connection ≡ 60 * 1_000_000_000

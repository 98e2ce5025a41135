-- What a step of a station is.
use Rattle.std.specs.Prelude.{◌≡◌, ℕ, ◌+◌, nat_le, if◌then◌else◌, List, [], None}
use Rattle.seat_core.specs.declared.act.Act.{Act}
use Rattle.seat_core.specs.declared.station.Place.TheVariants.{Unknown}
use Rattle.seat_core.specs.declared.station.Station.{Station}
use Rattle.seat_core.specs.declared.station.Waiting.TheVariants.{Nothing}
use Rattle.seat_core.specs.Aside.{aside_with}

-- what an event leaves of a station, and what the station does, in order
pub record Step : Type 0 where
  pub left : Station
  pub acts : List Act

-- the station does this, and is so then
abbrev pub does : List Act → Station → Step
does acts left = record { left = left; acts = acts }

-- a station that has no file, and hasn't started
pub record IsNew (s : Station) : Type 0 where
  pub place : s.file.place ≡ Unknown
  pub aside : s.file.aside ≡ []
  pub last : s.file.last ≡ None
  pub stop : s.file.stop ≡ None
  pub waiting : s.waiting ≡ Nothing

-- a station that keeps this request aside too
abbrev pub with_aside : Station → ℕ → Station
with_aside s request =
    record s { file = record s.file { aside = aside_with request s.file.aside } }

-- The number after this one. The greatest is 2 ^ 53 - 1; there is none after the one behind it.
abbrev pub number_after : ℕ → ℕ
number_after number = if nat_le number 9007199254740991 then number + 1 else 9007199254740992

-- The status with which asking ends.
use Rattle.std.specs.Prelude.{ℕ, ◌+◌, nat_lt, if◌then◌else◌}
use Rattle.seat_ask.specs.declared.end.End.{End}
use Rattle.seat_ask.specs.declared.end.End.TheVariants.{Done, Refused, Stopped, Unsure, Waits}

-- 0 where the request was done, and 100 and the refusal's number where it was refused and not done
abbrev pub status_of : End → ℕ
status_of Done = 0
status_of (Refused code) = if nat_lt code 51 then 100 + code else 100
status_of Stopped = 3
status_of Unsure = 4
status_of Waits = 5

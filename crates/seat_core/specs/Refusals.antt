-- A refusal came (the API's page, "The protocol of a seat" and "A late copy").
use Rattle.std.specs.Prelude.{ℕ, ◌-◌, ◌==◌, ◌&&◌, nat_lt, Bool, true, false, if◌then◌else◌, [], ◌∷◌, length, Option, None, Some}
use Rattle.seat_core.specs.declared.act.Act.TheVariants.{Write, LogOutcome, Send, Tell, Show}
use Rattle.seat_core.specs.declared.act.Trouble.TheVariants.{Stopped, Unsure}
use Rattle.seat_core.specs.declared.request.Outcome.TheVariants.{NotDone}
use Rattle.seat_core.specs.declared.request.Sent.{Sent}
use Rattle.seat_core.specs.declared.request.Stop.{Stop}
use Rattle.seat_core.specs.declared.station.Place.{Place}
use Rattle.seat_core.specs.declared.station.Place.TheVariants.{Free, UnderWay}
use Rattle.seat_core.specs.declared.station.Station.{Station}
use Rattle.seat_core.specs.declared.station.Waiting.{Waiting}
use Rattle.seat_core.specs.declared.station.Waiting.TheVariants.{Nothing, Once, Again, Kept, Number}
use Rattle.seat_core.specs.Aside.{aside_with}
use Rattle.seat_core.specs.Steps.{Step, does}
use Rattle.seat_core.specs.Starts.{number_step}
use Rattle.seat_core.specs.Replies.{silence_step, untried_request}

-- The request under way was refused: the log has the refusal first, then the file has the request
-- aside, as a copy of it may still come. The number stays.
abbrev pub aside_step : Station → Sent → ℕ → Step
aside_step s sent code =
    does (LogOutcome sent.number (NotDone code) ∷ Write ∷ Tell sent.request (NotDone code) ∷ [])
    (record {
      file = record s.file {
        place = Free sent.number;
        aside = aside_with sent.request s.file.aside;
      };
      waiting = Nothing;
    })

-- The station stops. A request that was sent once is in the log with its refusal, and is kept aside;
-- one that may have been sent before stays under way, as it may be done.
abbrev pub stop_step : Station → Sent → Bool → ℕ → Stop → Step
stop_step s sent true code stop = does (Write ∷ Show (Stopped stop) ∷ [])
    (record { file = record s.file { stop = Some stop }; waiting = Nothing })
stop_step s sent false code stop =
    does (LogOutcome sent.number (NotDone code) ∷ Write ∷ Show (Stopped stop) ∷ [])
    (record {
      file = record s.file {
        place = Free sent.number;
        aside = aside_with sent.request s.file.aside;
        stop = Some stop;
      };
      waiting = Nothing;
    })

-- The number was accepted with another request (12): the station sends those that it kept aside, one
-- after another. So many weren't tried yet. Where none is left, it stops.
abbrev pub probe_of : Station → Sent → Bool → ℕ → Option ℕ → Step
probe_of s sent again untried None =
    stop_step s sent again 12 (record { code = 12; expected = 0 })
probe_of s sent again untried (Some request) =
    does (Send (record { number = sent.number; request = request }) ∷ [])
    (record s { waiting = Kept untried again })

abbrev pub probe_step : Station → Sent → Bool → ℕ → Step
probe_step s sent again untried =
    probe_of s sent again untried (untried_request s.file.aside untried)

-- The request under way was refused. 11 and 12 are of its number. A refusal of 1 to 10 comes before
-- the number is looked at, so of one that may have been sent before it doesn't say that it wasn't
-- done then. Behind any other the request is kept aside.
abbrev pub request_refusal : Station → Sent → Bool → Stop → Step
request_refusal s sent again refusal =
    if refusal.code == 11 then stop_step s sent again 11 refusal
    else (if refusal.code == 12 then probe_step s sent again (length s.file.aside)
    else (if again && nat_lt refusal.code 11 then does (Show (Unsure refusal.code) ∷ []) s
    else aside_step s sent refusal.code))

-- A request that was kept aside was refused. As 12 it isn't the one that was accepted. One of 1 to 10
-- says nothing. Any other is of a store in which the number isn't the last one any more.
abbrev pub probe_refusal : Station → Sent → ℕ → Bool → Stop → Step
probe_refusal s sent untried again refusal =
    if nat_lt refusal.code 11 then does (Show (Unsure refusal.code) ∷ []) s
    else (if refusal.code == 12 then probe_step s sent again (untried - 1)
    else stop_step s sent again 12 refusal)

-- A refusal of what was sent last.
abbrev pub refusal_at : Station → Waiting → Place → Stop → Step
refusal_at s Once (UnderWay sent) refusal = request_refusal s sent false refusal
refusal_at s Again (UnderWay sent) refusal = request_refusal s sent true refusal
refusal_at s (Kept untried again) (UnderWay sent) refusal =
    probe_refusal s sent untried again refusal
refusal_at s Number place refusal = number_step s refusal.code refusal.expected
refusal_at s waiting place refusal = does [] s

-- A refusal by its number, and with the number that it says is expected. 50 says that nothing was
-- done, for now.
abbrev pub refusal_step : Station → ℕ → ℕ → Step
refusal_step s code expected = if code == 50 then silence_step s
    else refusal_at s s.waiting s.file.place (record { code = code; expected = expected })

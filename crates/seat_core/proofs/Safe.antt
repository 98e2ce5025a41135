-- Each step writes what it changes before it sends, and sends what is written.
use Rattle.std.proofs.Common.{◌≡◌, ℕ, ◌-◌, Bool, true, false, [], ◌∷◌, length, Option, None, Some, refl, inl, inr}
use Rattle.std.specs.Prelude.{if◌then◌else◌, slice_get}
use Rattle.seat_core.specs.declared.act.Act.TheVariants.{Show}
use Rattle.seat_core.specs.declared.act.Trouble.{Trouble}
use Rattle.seat_core.specs.declared.act.Trouble.TheVariants.{Unsure}
use Rattle.seat_core.specs.declared.event.Event.{Event}
use Rattle.seat_core.specs.declared.event.Event.TheVariants.{Start, Want, Accept, Refuse, Miss, GiveUp, Look}
use Rattle.seat_core.specs.declared.request.Sent.{Sent}
use Rattle.seat_core.specs.declared.request.Stop.{Stop}
use Rattle.seat_core.specs.declared.station.Place.{Place}
use Rattle.seat_core.specs.declared.station.Place.TheVariants.{Unknown, Free, UnderWay}
use Rattle.seat_core.specs.declared.station.Station.{Station}
use Rattle.seat_core.specs.declared.station.Waiting.{Waiting}
use Rattle.seat_core.specs.declared.station.Waiting.TheVariants.{Nothing, Once, Again, Kept, Number}
use Rattle.seat_core.specs.Steps.{Step, does, with_aside}
use Rattle.seat_core.specs.Starts.{number_at, number_step, request_at, resumption, start_at}
use Rattle.seat_core.specs.Replies.{patience_at, probe_reply, probe_silence, reply_at, silence_at, silence_step, untried_request}
use Rattle.seat_core.specs.Refusals.{aside_step, probe_of, probe_refusal, probe_step, refusal_at, request_refusal, stop_step}
use Rattle.seat_core.specs.Events.{step_of}
use Rattle.seat_core.specs.Safety.{IsSafe}

-- of either of two
either : (s : Station) (b : Bool) (x y : Step) → IsSafe s x → IsSafe s y → IsSafe s (if b then x else y)
either s true x y p q = p
either s false x y p q = q

-- a person is shown something, and that is all
shows_safe : (s : Station) (trouble : Trouble) → IsSafe s (does (Show trouble ∷ []) s)
shows_safe s trouble = record { written = refl; first = refl; sent = tt }

start_safe : (s : Station) (stop : Option Stop) (place : Place) → s.file.place ≡ place
    → IsSafe s (start_at s stop place)
start_safe s (Some stop) place e = record { written = refl; first = refl; sent = tt }
start_safe s None Unknown e = record { written = refl; first = refl; sent = tt }
start_safe s None (Free number) e = record { written = refl; first = refl; sent = tt }
start_safe s None (UnderWay sent) e = record { written = refl; first = refl; sent = (inl e, tt) }

request_safe : (s : Station) (request : ℕ) (stop : Option Stop) (place : Place) (waiting : Waiting)
    → IsSafe s (request_at s request stop place waiting)
request_safe s request (Some stop) place waiting = record { written = refl; first = refl; sent = tt }
request_safe s request None (Free number) Nothing =
    record { written = tt; first = refl; sent = (inl refl, tt) }
request_safe s request None place waiting = record { written = refl; first = refl; sent = tt }

-- whatever station goes on, its file is written
resumption_safe : (s kept : Station) (number expected : ℕ) → IsSafe s (resumption kept number expected)
resumption_safe s kept number expected = record { written = tt; first = refl; sent = tt }

number_at_safe : (s : Station) (place : Place) (expected : ℕ) → IsSafe s (number_at s place expected)
number_at_safe s Unknown expected = record { written = tt; first = refl; sent = tt }
number_at_safe s (Free number) expected = resumption_safe s s number expected
number_at_safe s (UnderWay sent) expected = resumption_safe s (with_aside s sent.request) sent.number expected

number_safe : (s : Station) (code expected : ℕ) → IsSafe s (number_step s code expected)
number_safe s code expected =
    either s _ _ _ (number_at_safe s s.file.place expected) (shows_safe s (Unsure code))

-- one of those aside is sent
probe_silence_safe : (s : Station) (sent : Sent) (index : ℕ) (found : Option ℕ)
    → s.file.place ≡ UnderWay sent → slice_get s.file.aside index ≡ found
    → IsSafe s (probe_silence s sent.number found)
probe_silence_safe s sent index None e is = record { written = refl; first = refl; sent = tt }
probe_silence_safe s sent index (Some request) e is = record {
  written = refl;
  first = refl;
  sent = (inr (record { other = sent; under_way = e; number = refl; index = index; aside = is }), tt);
}

silence_at_safe : (s : Station) (waiting : Waiting) (place : Place) → s.file.place ≡ place
    → IsSafe s (silence_at s waiting place)
silence_at_safe s Once (UnderWay sent) e = record { written = refl; first = refl; sent = (inl e, tt) }
silence_at_safe s Again (UnderWay sent) e = record { written = refl; first = refl; sent = (inl e, tt) }
silence_at_safe s (Kept untried again) (UnderWay sent) e =
    probe_silence_safe s sent (length s.file.aside - untried) (untried_request s.file.aside untried) e refl
silence_at_safe s Number place e = record { written = refl; first = refl; sent = tt }
silence_at_safe s waiting place e = record { written = refl; first = refl; sent = tt }

silence_safe : (s : Station) → IsSafe s (silence_step s)
silence_safe s = silence_at_safe s s.waiting s.file.place refl

patience_safe : (s : Station) (waiting : Waiting) → IsSafe s (patience_at s waiting)
patience_safe s Nothing = record { written = refl; first = refl; sent = tt }
patience_safe s waiting = record { written = refl; first = refl; sent = tt }

probe_reply_safe : (s : Station) (sent : Sent) (reply : ℕ) (found : Option ℕ) → IsSafe s (probe_reply s sent reply found)
probe_reply_safe s sent reply None = record { written = refl; first = refl; sent = tt }
probe_reply_safe s sent reply (Some request) = record { written = tt; first = refl; sent = (inl refl, tt) }

reply_safe : (s : Station) (waiting : Waiting) (place : Place) (reply : ℕ)
    → IsSafe s (reply_at s waiting place reply)
reply_safe s Once (UnderWay sent) reply = record { written = tt; first = refl; sent = tt }
reply_safe s Again (UnderWay sent) reply = record { written = tt; first = refl; sent = tt }
reply_safe s (Kept untried again) (UnderWay sent) reply =
    probe_reply_safe s sent reply (untried_request s.file.aside untried)
reply_safe s Number place reply = silence_safe s
reply_safe s waiting place reply = record { written = refl; first = refl; sent = tt }

stop_safe : (s : Station) (sent : Sent) (again : Bool) (code : ℕ) (stop : Stop)
    → IsSafe s (stop_step s sent again code stop)
stop_safe s sent true code stop = record { written = tt; first = refl; sent = tt }
stop_safe s sent false code stop = record { written = tt; first = refl; sent = tt }

probe_of_safe : (s : Station) (sent : Sent) (again : Bool) (untried index : ℕ) (found : Option ℕ)
    → s.file.place ≡ UnderWay sent → slice_get s.file.aside index ≡ found
    → IsSafe s (probe_of s sent again untried found)
probe_of_safe s sent again untried index None e is = stop_safe s sent again _ _
probe_of_safe s sent again untried index (Some request) e is = record {
  written = refl;
  first = refl;
  sent = (inr (record { other = sent; under_way = e; number = refl; index = index; aside = is }), tt);
}

probe_safe : (s : Station) (sent : Sent) (again : Bool) (untried : ℕ) → s.file.place ≡ UnderWay sent
    → IsSafe s (probe_step s sent again untried)
probe_safe s sent again untried e = probe_of_safe s sent again untried
    (length s.file.aside - untried) (untried_request s.file.aside untried) e refl

aside_safe : (s : Station) (sent : Sent) (code : ℕ) → IsSafe s (aside_step s sent code)
aside_safe s sent code = record { written = tt; first = refl; sent = tt }

request_refusal_safe : (s : Station) (sent : Sent) (again : Bool) (refusal : Stop)
    → s.file.place ≡ UnderWay sent → IsSafe s (request_refusal s sent again refusal)
request_refusal_safe s sent again refusal e = either s _ _ _ (stop_safe s sent again 11 refusal)
    (either s _ _ _ (probe_safe s sent again (length s.file.aside) e)
    (either s _ _ _ (shows_safe s (Unsure refusal.code)) (aside_safe s sent refusal.code)))

probe_refusal_safe : (s : Station) (sent : Sent) (untried : ℕ) (again : Bool) (refusal : Stop)
    → s.file.place ≡ UnderWay sent → IsSafe s (probe_refusal s sent untried again refusal)
probe_refusal_safe s sent untried again refusal e = either s _ _ _ (shows_safe s (Unsure refusal.code))
    (either s _ _ _ (probe_safe s sent again (untried - 1) e) (stop_safe s sent again 12 refusal))

refusal_at_safe : (s : Station) (waiting : Waiting) (place : Place) (refusal : Stop)
    → s.file.place ≡ place → IsSafe s (refusal_at s waiting place refusal)
refusal_at_safe s Once (UnderWay sent) refusal e = request_refusal_safe s sent false refusal e
refusal_at_safe s Again (UnderWay sent) refusal e = request_refusal_safe s sent true refusal e
refusal_at_safe s (Kept untried again) (UnderWay sent) refusal e =
    probe_refusal_safe s sent untried again refusal e
refusal_at_safe s Number place refusal e = number_safe s refusal.code refusal.expected
refusal_at_safe s waiting place refusal e = record { written = refl; first = refl; sent = tt }

-- each step is safe
pub step_safe : (s : Station) (event : Event) → IsSafe s (step_of s event)
step_safe s Start = start_safe s s.file.stop s.file.place refl
step_safe s (Want request) = request_safe s request s.file.stop s.file.place s.waiting
step_safe s (Accept reply) = reply_safe s s.waiting s.file.place reply
step_safe s (Refuse code expected) = either s _ _ _ (silence_safe s)
    (refusal_at_safe s s.waiting s.file.place (record { code = code; expected = expected }) refl)
step_safe s Miss = silence_safe s
step_safe s GiveUp = patience_safe s s.waiting
step_safe s Look = record { written = refl; first = refl; sent = tt }

-- A reply came, or none (the API's page, "The protocol of a seat" and "A late copy").
use Rattle.std.specs.Prelude.{ℕ, ◌-◌, List, [], ◌∷◌, length, Option, None, Some, slice_get}
use Rattle.seat_core.specs.declared.act.Act.TheVariants.{Write, LogRequest, LogOutcome, Pause, Send, AskNumber, Tell, Show}
use Rattle.seat_core.specs.declared.act.Trouble.TheVariants.{LateCopy, Waits}
use Rattle.seat_core.specs.declared.request.Outcome.TheVariants.{Done, NotDone}
use Rattle.seat_core.specs.declared.request.Sent.{Sent}
use Rattle.seat_core.specs.declared.station.Place.{Place}
use Rattle.seat_core.specs.declared.station.Place.TheVariants.{Free, UnderWay}
use Rattle.seat_core.specs.declared.station.Station.{Station}
use Rattle.seat_core.specs.declared.station.Waiting.{Waiting}
use Rattle.seat_core.specs.declared.station.Waiting.TheVariants.{Nothing, Once, Again, Kept, Number}
use Rattle.seat_core.specs.Steps.{Step, does, number_after}

-- the oldest of the kept requests of which so many weren't tried yet
abbrev pub untried_request : List ℕ → ℕ → Option ℕ
untried_request aside untried = slice_get aside (length aside - untried)

-- No reply, a cut one, 503, or a page that isn't the server's: the station pauses, and sends the
-- same bytes.
abbrev pub probe_silence : Station → ℕ → Option ℕ → Step
probe_silence s number None = does [] s
probe_silence s number (Some request) =
    does (Pause ∷ Send (record { number = number; request = request }) ∷ []) s

abbrev pub silence_at : Station → Waiting → Place → Step
silence_at s Once (UnderWay sent) = does (Pause ∷ Send sent ∷ []) (record s { waiting = Again })
silence_at s Again (UnderWay sent) = does (Pause ∷ Send sent ∷ []) s
silence_at s (Kept untried again) (UnderWay sent) =
    probe_silence s sent.number (untried_request s.file.aside untried)
silence_at s Number place = does (Pause ∷ AskNumber ∷ []) s
silence_at s waiting place = does [] s

abbrev pub silence_step : Station → Step
silence_step s = silence_at s s.waiting s.file.place

-- The end of its patience: the request is kept, and shown to a person.
abbrev pub patience_at : Station → Waiting → Step
patience_at s Nothing = does [] s
patience_at s waiting = does (Show Waits ∷ []) s

abbrev pub patience_step : Station → Step
patience_step s = patience_at s s.waiting

-- The request under way was done. The log has the reply first, then the file, with the number after.
-- What was kept aside is of no use any more.
abbrev pub completion : Station → Sent → ℕ → Step
completion s sent reply =
    does (LogOutcome sent.number (Done reply) ∷ Write ∷ Tell sent.request (Done reply) ∷ [])
    (record {
      file = record s.file {
        place = Free (number_after sent.number);
        aside = [];
        last = Some (record { request = sent.request; reply = reply });
      };
      waiting = Nothing;
    })

-- A late copy of a request that was kept aside had been accepted. The log gets that request with its
-- reply. What is under way was refused as 12, wasn't done, and gets the next number.
abbrev pub late_copy : Station → Sent → Sent → ℕ → ℕ → Step
late_copy s sent next request reply = does
    (LogOutcome sent.number (NotDone 12)
    ∷ LogRequest (record { number = sent.number; request = request })
    ∷ LogOutcome sent.number (Done reply) ∷ Write ∷ Show (LateCopy request)
    ∷ LogRequest next ∷ Send next ∷ [])
    (record {
      file = record s.file {
        place = UnderWay next;
        aside = [];
        last = Some (record { request = request; reply = reply });
      };
      waiting = Once;
    })

abbrev pub probe_reply : Station → Sent → ℕ → Option ℕ → Step
probe_reply s sent reply None = does [] s
probe_reply s sent reply (Some request) = late_copy s sent
    (record { number = number_after sent.number; request = sent.request }) request reply

-- A reply of 200 to what was sent last. No seat comes to the number that only asks for the number, so
-- that a 200 to it is another's page.
abbrev pub reply_at : Station → Waiting → Place → ℕ → Step
reply_at s Once (UnderWay sent) reply = completion s sent reply
reply_at s Again (UnderWay sent) reply = completion s sent reply
reply_at s (Kept untried again) (UnderWay sent) reply =
    probe_reply s sent reply (untried_request s.file.aside untried)
reply_at s Number place reply = silence_step s
reply_at s waiting place reply = does [] s

abbrev pub reply_step : Station → ℕ → Step
reply_step s reply = reply_at s s.waiting s.file.place reply

-- A station starts, is asked for something, and goes on behind a person's look (the API's page, "The
-- protocol of a seat").
use Rattle.std.specs.Prelude.{ℕ, ◌==◌, if◌then◌else◌, [], ◌∷◌, Option, None, Some}
use Rattle.seat_core.specs.declared.act.Act.TheVariants.{Write, LogRequest, LogNumber, Send, AskNumber, Show}
use Rattle.seat_core.specs.declared.act.Trouble.TheVariants.{Busy, Stopped, Unsure}
use Rattle.seat_core.specs.declared.request.Sent.{Sent}
use Rattle.seat_core.specs.declared.request.Stop.{Stop}
use Rattle.seat_core.specs.declared.station.Place.{Place}
use Rattle.seat_core.specs.declared.station.Place.TheVariants.{Unknown, Free, UnderWay}
use Rattle.seat_core.specs.declared.station.Station.{Station}
use Rattle.seat_core.specs.declared.station.Waiting.{Waiting}
use Rattle.seat_core.specs.declared.station.Waiting.TheVariants.{Nothing, Once, Again, Number}
use Rattle.seat_core.specs.Steps.{Step, does, with_aside}

-- A start. Without a file the station asks for its number. What is under way is sent again, the same
-- bytes, before anything else. One that stopped shows it again.
abbrev pub start_at : Station → Option Stop → Place → Step
start_at s (Some stop) place = does (Show (Stopped stop) ∷ []) (record s { waiting = Nothing })
start_at s None Unknown = does (AskNumber ∷ []) (record s { waiting = Number })
start_at s None (Free number) = does [] (record s { waiting = Nothing })
start_at s None (UnderWay sent) =
    does (LogRequest sent ∷ Send sent ∷ []) (record s { waiting = Again })

abbrev pub start_step : Station → Step
start_step s = start_at s s.file.stop s.file.place

-- A request is wanted, where nothing is under way: it is written with the next number into the file
-- and the log, and sent.
abbrev pub first_sending : Station → Sent → Step
first_sending s sent = does (Write ∷ LogRequest sent ∷ Send sent ∷ [])
    (record { file = record s.file { place = UnderWay sent }; waiting = Once })

abbrev pub request_at : Station → ℕ → Option Stop → Place → Waiting → Step
request_at s request (Some stop) place waiting = does (Show (Stopped stop) ∷ []) s
request_at s request None (Free number) Nothing =
    first_sending s (record { number = number; request = request })
request_at s request None place waiting = does (Show Busy ∷ []) s

abbrev pub request_step : Station → ℕ → Step
request_step s request = request_at s request s.file.stop s.file.place s.waiting

-- A person has looked why the station stopped, or restored the store: the number is asked for.
abbrev pub look_step : Station → Step
look_step s = does (AskNumber ∷ []) (record s { waiting = Number })

-- The station goes on with the number that the server expects. What is kept aside had the number
-- before: where that is expected, a copy of it may still come.
abbrev pub resumption : Station → ℕ → ℕ → Step
resumption s number expected = does (LogNumber expected ∷ Write ∷ []) (record {
  file = record s.file {
    place = Free expected;
    aside = if number == expected then s.file.aside else [];
    stop = None;
  };
  waiting = Nothing;
})

-- The server says which number it expects. What was under way is kept aside then.
abbrev pub number_at : Station → Place → ℕ → Step
number_at s Unknown expected = does (Write ∷ [])
    (record { file = record s.file { place = Free expected; stop = None }; waiting = Nothing })
number_at s (Free number) expected = resumption s number expected
number_at s (UnderWay sent) expected = resumption (with_aside s sent.request) sent.number expected

abbrev pub number_step : Station → ℕ → ℕ → Step
number_step s code expected =
    if code == 11 then number_at s s.file.place expected else does (Show (Unsure code) ∷ []) s

-- A customer's own machine, run on the customer's own calls.
use Rattle.std.specs.Prelude.{◌≡◌, ℕ, Bool, not, ◌&&◌, bytes_eq, List, [], ◌∷◌, filter, unwrap_or}
use Rattle.http_replies.specs.Prelude.{Answer, is_unavailable}
use Rattle.office_tables.specs.Prelude.{Tables}
use Rattle.office_commands.specs.Prelude.{refusal, unkept}
use Rattle.office_laws.specs.SoloMachine.{SoloState, is_issued, solo}
use Rattle.office_laws.specs.View.{view}
use Rattle.yield_report.specs.Prelude.{order_report_text}
use Rattle.office_laws.specs.Exchanges.{Call, Exchange, Wanted, asks, reports, refused, calls_of}
use Rattle.office_laws.specs.Exchanges.{replies_of, report_reply}

-- what the own machine replies to what is asked for, and its state after that: 503 and no change
-- where it has no reply; a report is of the customer's own rows
abbrev pub alone_on : Call → SoloState → Wanted → Answer × SoloState
alone_on c s (asks request) = unwrap_or (solo c.section c.seat s request) (refusal unkept, s)
alone_on c s reports =
    (report_reply (order_report_text (is_issued s) s.orders s.devices), s)
alone_on c s (refused reason) = (refusal reason, s)

-- what the own machine replies to a call, and its state after the call
abbrev pub alone : Call → SoloState → Answer × SoloState
alone c s = alone_on c s c.wanted

-- the own machine's replies to calls in turn
abbrev pub solo_replies : List Call → SoloState → List Answer
solo_replies [] s = []
solo_replies (c ∷ cs) s = (alone c s).0 ∷ solo_replies cs (alone c s).1

-- the own machine's state after calls in turn
abbrev pub solo_state : List Call → SoloState → SoloState
solo_state [] s = s
solo_state (c ∷ cs) s = solo_state cs (alone c s).1

-- the exchange is one of the customer's seats, and wasn't answered 503
abbrev pub is_own : List ℕ → Exchange → Bool
is_own customer x = bytes_eq customer x.0.section.name && not (is_unavailable x.1.status)

-- the customer's own exchanges
abbrev pub exchanges_of : List ℕ → List Exchange → List Exchange
exchanges_of customer xs = filter (is_own customer) xs

-- these replies of a customer's own exchanges, and the customer's rows, are those of the customer's
-- own machine, run on the calls of these exchanges alone
pub record IsAsAlone (customer : List ℕ) (own : List Exchange) (t t2 : Tables) : Type 0 where
  pub replies : replies_of own ≡ solo_replies (calls_of own) (view customer t)
  pub rows : view customer t2 ≡ solo_state (calls_of own) (view customer t)

-- the replies of all the customer's own exchanges, and the customer's rows, are those of the
-- customer's own machine, whatever stands between these exchanges
abbrev pub IsIsolated : List ℕ → List Exchange → Tables → Tables → Type 0
IsIsolated customer xs t t2 = IsAsAlone customer (exchanges_of customer xs) t t2

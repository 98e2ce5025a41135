-- What seats ask for and are answered in turn, over the tables of all customers.
use Rattle.std.specs.Prelude.{◌≡◌, ℕ, List, map, MatchBool}
use Rattle.http_replies.specs.Prelude.{Answer, is_unavailable}
use Rattle.http_replies.specs.declared.Kind.TheVariants.{Csv}
use Rattle.http_replies.specs.declared.Status.TheVariants.{Success}
use Rattle.text_core.specs.Prelude.{Machine, Runs}
use Rattle.site_core.specs.Prelude.{Section}
use Rattle.office_tables.specs.Prelude.{Tables}
use Rattle.yield_report.specs.Prelude.{order_report_in}
use Rattle.office_commands.specs.declared.command.Request.{Request}
use Rattle.office_commands.specs.declared.refusal.Refusal.{Refusal}
use Rattle.office_commands.specs.Prelude.{refusal, unkept}
use Rattle.office_rules.specs.Prelude.{Step}

-- what a seat asks for: a request of the office; the report of its customer's orders; or what is
-- refused as it came, whatever the tables are
pub data Wanted : Type 0 where
  asks : (request : Request) → Wanted
  reports : Wanted
  refused : (reason : Refusal) → Wanted

-- a call: a seat asks for something, while the site has this section of its customer
pub record Call : Type 0 where
  pub section : Section
  pub seat : List ℕ
  pub wanted : Wanted

-- the call in which a seat makes a request of the office
abbrev pub call_by : Section → List ℕ → Request → Call
call_by section seat request =
    record { section = section; seat = seat; wanted = asks request }

-- a call and its reply
abbrev pub Exchange : Type 0
Exchange = Call × Answer

-- the calls of exchanges, in turn
abbrev pub calls_of : List Exchange → List Call
calls_of xs = map (λ x. x.0) xs

-- the replies of exchanges, in turn
abbrev pub replies_of : List Exchange → List Answer
replies_of xs = map (λ x. x.1) xs

-- the answer to a request for a report
abbrev pub report_reply : List ℕ → Answer
report_reply text = record { status = Success; kind = Csv; body = text }

-- a request makes a step of the office; a report tells the rows of the seat's customer, and what is
-- refused as it came gets its refusal, and both change nothing
abbrev pub FulfilsWanted : Call → Wanted → Tables → Answer → Tables → Type 0
FulfilsWanted c (asks request) t reply t2 = Step c.section c.seat t request reply t2
FulfilsWanted c reports t reply t2 =
    (reply ≡ report_reply (order_report_in c.section.name t)) × (t2 ≡ t)
FulfilsWanted c (refused reason) t reply t2 = (reply ≡ refusal reason) × (t2 ≡ t)

-- a call is answered 503, which is a constant and changes nothing, or gets what it asks for
abbrev pub Passes : Machine Tables Call Answer
Passes t c reply t2 = MatchBool (is_unavailable reply.status)
    ((reply ≡ refusal unkept) × (t2 ≡ t)) (FulfilsWanted c c.wanted t reply t2)

-- these exchanges, one after another, lead from these tables to those
abbrev pub IsRun : List Exchange → Tables → Tables → Type 0
IsRun xs t t2 = Runs Passes t xs t2

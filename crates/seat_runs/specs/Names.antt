-- What the names of a station stand for in the office.
use Rattle.std.specs.Prelude.{◌≡◌, ◌⊎◌, ℕ, ◌<◌, ◌≤◌, true, List}
use Rattle.http_replies.specs.Prelude.{Answer as Response}
use Rattle.office_commands.specs.declared.command.Request.{Request}
use Rattle.office_commands.specs.declared.refusal.Refusal.{Refusal}
use Rattle.office_commands.specs.declared.refusal.Refusal.TheVariants.{WrongNumber}
use Rattle.office_commands.specs.Prelude.{acceptance, largest_whole, refusal, refusal_number}
use Rattle.office_laws.specs.Prelude.{Wanted, asks, is_change, refused}
use Rattle.seat_core.specs.declared.request.Sent.{Sent}
use Rattle.seat_laws.specs.Runs.{IsAmong}
use Rattle.seat_laws.specs.Served.{Answer, accepts, refuses}

-- the number that a refusal says is expected, 0 where it says none
abbrev pub expected_in : Refusal → ℕ
expected_in (WrongNumber expected) = expected
expected_in reason = 0

-- a reply of 200 is read as accepted, by a name for its body
abbrev pub ReadsReplies : (List ℕ → ℕ) → (Response → Answer) → Type 0
ReadsReplies name_of read = (body : List ℕ) → read (acceptance body) ≡ accepts (name_of body)

-- a refusal is read by its number, with the number that it says is expected, if a request can have
-- it
abbrev pub ReadsRefusals : (Response → Answer) → Type 0
ReadsRefusals read = (reason : Refusal) → expected_in reason ≤ largest_whole
    → read (refusal reason) ≡ refuses (refusal_number reason) (expected_in reason)

-- The request of a name with a number, and how the station reads an answer. With the greatest
-- number it asks which one is expected.
pub record Names : Type 0 where
  pub request_of : ℕ → ℕ → Request
  pub numbered : (name number : ℕ) → (request_of name number).number ≡ number
  pub changes : (name number : ℕ) → is_change (request_of name number).command ≡ true
  pub question : Request
  pub greatest : question.number ≡ largest_whole
  pub question_changes : is_change question.command ≡ true
  pub read : Response → Answer
  pub name_of : List ℕ → ℕ
  pub reads_reply : ReadsReplies name_of read
  pub reads_refusal : ReadsRefusals read

-- of these requests those with one digest have one name
abbrev pub AreApart : Names → List Sent → Type 0
AreApart v sents = (one other : Sent) → IsAmong one sents → IsAmong other sents
    → (v.request_of one.request one.number).digest
    ≡ (v.request_of other.request other.number).digest → one.request ≡ other.request

-- it was refused as it came: by 1 to 10, or by 50
abbrev pub IsRefusedAsItCame : Wanted → Type 0
IsRefusedAsItCame wanted = (reason : Refusal) × (wanted ≡ refused reason)
    × ((refusal_number reason < 11) ⊎ (refusal_number reason ≡ 50))

-- a copy of a request came
abbrev pub IsCopy : Names → Sent → Wanted → Type 0
IsCopy v sent wanted =
    (wanted ≡ asks (v.request_of sent.request sent.number)) ⊎ IsRefusedAsItCame wanted

-- the question for the number came
abbrev pub IsQuestion : Names → Wanted → Type 0
IsQuestion v wanted = (wanted ≡ asks v.question) ⊎ IsRefusedAsItCame wanted

-- What holds of each reply alone, and of what a command that nothing refuses comes to, holds of each response.
use Rattle.std.proofs.Common.{◌≡◌, ◌<◌, ℕ, List, Option, Some, None, refl, arith, option_map}
use Rattle.text_core.specs.Prelude.{first_that_holds}
use Rattle.http_replies.specs.Prelude.{Answer}
use Rattle.site_core.specs.Prelude.{Section}
use Rattle.office_commands.specs.Prelude.{refusal_number, acceptance, refusal}
use Rattle.office_laws.proofs.Types.{Command, Request, Refusal, Change as Changing, Show, Retry, Repeats, Next, unkept}
use Rattle.office_commands.specs.declared.refusal.Refusal.TheVariants.{OtherBody, WrongNumber}
use Rattle.office_rules.specs.declared.retry.Retry.TheVariants.{Differs, Skips}
use Rattle.office_commands.specs.declared.command.Command.TheVariants.{Change}
use Rattle.office_rules.specs.Prelude.{Response, accept, decide, effect, refusals, reply_only, respond_by_retry, respond_to, show_reply, retry_of, Sight}
use Rattle.office_laws.proofs.Lowest.{found_below, refusals_ascend}

module _ (s : Section) (seat : List ℕ) (v : Sight) (r : Request) (P : Option Response → Type 0) where
  -- what a command comes to, which is the seat's next one and which nothing refuses
  abbrev pub Accepted : Changing → Type 0
  Accepted c = retry_of v.seat r.number r.digest ≡ Next → first_that_holds (refusals s v c) ≡ None
      → P (option_map (accept seat r) (effect s seat v c))

  -- a command that writes is the last one again, is refused, and not by 503, or is accepted
  pub of_change : (c : Changing)
      → ((body : List ℕ) → retry_of v.seat r.number r.digest ≡ Repeats body
      → P (Some (reply_only (acceptance body))))
      → ((reason : Refusal) → refusal_number reason < refusal_number unkept
      → P (Some (reply_only (refusal reason))))
      → Accepted c → P (respond_to s seat v r (Change c))
  of_change c repeated refused accepted = by (retry_of v.seat r.number r.digest) refl
    where
      lowest : (found : Option Refusal) → first_that_holds (refusals s v c) ≡ found
          → retry_of v.seat r.number r.digest ≡ Next → P (decide seat r found (effect s seat v c))
      lowest None free next = accepted next free
      lowest (Some reason) is next = refused reason (found_below 12 (refusals s v c) reason (refusals_ascend s v c) is)

      by : (retry : Retry) → retry_of v.seat r.number r.digest ≡ retry
          → P (respond_by_retry s seat v r c retry)
      by (Repeats body) is = repeated body is
      by Differs is = refused OtherBody (omega arith)
      by (Skips expected) is = refused (WrongNumber expected) (omega arith)
      by Next is = lowest (first_that_holds (refusals s v c)) refl is

  -- any command is answered by a reply alone, or accepted
  pub of_command : ((reply : Answer) → P (Some (reply_only reply)))
      → ((c : Changing) → r.command ≡ Change c → Accepted c) → P (respond_to s seat v r r.command)
  of_command alone accepted = by r.command refl
    where
      by : (command : Command) → r.command ≡ command → P (respond_to s seat v r command)
      by (Show asked) is = alone (show_reply v asked)
      by (Change c) is =
          of_change c (λ body _. alone (acceptance body)) (λ reason _. alone (refusal reason)) (accepted c is)

-- The question for the number is refused, and as 11 it says which number comes next.
use Rattle.std.proofs.Common.{◌≡◌, ◌+◌, ◌<◌, ◌≤◌, ◌⊎◌}
use Rattle.text_core.proofs.Kit.{◌∙◌, ℕ, inl, inr, true, List, Option}
use Rattle.text_core.proofs.Kit.{refl, sym, ap, subst, option_map, unwrap_or, arith}
use Rattle.http_replies.specs.Prelude.{Answer as Response}
use Rattle.site_core.specs.Prelude.{Section}
use Rattle.office_commands.specs.declared.command.Command.{Command}
use Rattle.office_commands.specs.declared.command.Command.TheVariants.{Change, Show}
use Rattle.office_commands.specs.declared.command.Change.{Change as Changing}
use Rattle.office_commands.specs.declared.refusal.Refusal.{Refusal}
use Rattle.office_commands.specs.declared.refusal.Refusal.TheVariants.{WrongNumber}
use Rattle.office_commands.specs.Prelude.{refusal, refusal_number, unkept}
use Rattle.office_rules.specs.declared.retry.Retry.{Retry}
use Rattle.office_rules.specs.declared.retry.Retry.TheVariants.{Differs, Next, Repeats, Skips}
use Rattle.office_rules.specs.Prelude.{Response as Responding, respond_by_retry, respond_to, retry_of}
use Rattle.office_laws.specs.Prelude.{SoloState, is_change, last_number_of_seat, seat_named, solo_sight, with_puts}
use Rattle.office_laws.proofs.OwnRetries.{retry_next}
use Rattle.seat_laws.specs.Prelude.{Answer, Entry, accepts, next_number, refuses}
use Rattle.seat_runs.specs.Prelude.{IsRowOf, Names, expected_in}
use Rattle.seat_runs.proofs.Retries.{is_different, is_same, is_skipped}
use Rattle.seat_runs.proofs.Answering.{few_expected, low_not, row_next}

-- what is read says which number comes next, where it says one
abbrev pub Expects : ℕ → List Entry → Answer → Type 0
Expects first books (accepts reply) = Unit {0}
Expects first books (refuses code expected) = code ≡ 11 → expected ≡ next_number first books

low_silent : (v : Names) (first : ℕ) (books : List Entry) (reason : Refusal)
    → (refusal_number reason < 11) ⊎ (refusal_number reason ≡ 50)
    → Expects first books (refuses (refusal_number reason) (expected_in reason))
low_silent v first books reason (inl low) e = absurd (omega arith)
low_silent v first books reason (inr is) e = absurd (omega arith)

module _ (v : Names) (first : ℕ) (c : Section) (seat : List ℕ) (s mid : SoloState) (reply : Response)
    (books : List Entry) (is : IsRowOf v first (seat_named seat s) books)
    (far : last_number_of_seat (seat_named seat s) + 1 < 9007199254740991) where
  abbrev Performs : Option Responding → Type 0
  Performs made = ◌≡◌ {A = Response × SoloState} (reply, mid)
      (unwrap_or (option_map (λ r. (r.reply, with_puts r.puts s)) made) (refusal unkept, s))

  -- nothing changes, and the number is said
  abbrev pub Says : Type 0
  Says = (mid ≡ s) × Expects first books (v.read reply)

  says_as : (reason : Refusal) → expected_in reason ≤ 9007199254740991 → ◌≡◌ {A = Response × SoloState} (reply, mid) (refusal reason, s)
      → Expects first books (refuses (refusal_number reason) (expected_in reason)) → Says
  says_as reason few e expects = (
    ap (λ (p : Response × SoloState). p.1) e,
    subst (Expects first books)
        (sym (ap (λ (p : Response × SoloState). v.read p.0) e ∙ v.reads_refusal reason few)) expects,
  )

  of_retry : (change : Changing) (retry : Retry)
      → retry_of (seat_named seat s) v.question.number v.question.digest ≡ retry
      → Performs (respond_by_retry c seat (solo_sight c seat s) v.question change retry) → Says
  of_retry change (Repeats body) rule e =
      let same = is_same (seat_named seat s) v.question.number v.question.digest body rule in
      let l = ap last_number_of_seat same.there in
      let n = same.last in
      let g = v.greatest in absurd (omega arith)
  of_retry change Differs rule e =
      let same = is_different (seat_named seat s) v.question.number v.question.digest rule in
      let l = ap last_number_of_seat same.there in
      let n = same.last in
      let g = v.greatest in absurd (omega arith)
  of_retry change (Skips expected) rule e =
      let skips = is_skipped (seat_named seat s) v.question.number v.question.digest expected rule in
      let n = skips.next in
      says_as (WrongNumber expected) (omega arith) e (λ _. skips.next ∙ sym (row_next v first (seat_named seat s) books is))
  of_retry change Next rule e =
      let n = retry_next (seat_named seat s) v.question.number v.question.digest rule in
      let g = v.greatest in absurd (omega arith)

  pub of_question : (command : Command) → is_change command ≡ true
      → Performs (respond_to c seat (solo_sight c seat s) v.question command) → Says
  of_question (Show showing) changes e = cc
  of_question (Change change) changes e =
      of_retry change (retry_of (seat_named seat s) v.question.number v.question.digest) refl e

  pub of_no_question : (reason : Refusal) → (refusal_number reason < 11) ⊎ (refusal_number reason ≡ 50)
      → ◌≡◌ {A = Response × SoloState} (reply, mid) (refusal reason, s) → Says
  of_no_question reason low e =
      says_as reason (few_expected reason (low_not _ 11 low (omega arith) (omega arith))) e
      (low_silent v first books reason low)

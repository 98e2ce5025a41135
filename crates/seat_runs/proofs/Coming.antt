-- What a command of the customer's own machine comes to.
use Rattle.std.proofs.Common.{◌≡◌, ◌+◌, ◌≤◌, ◌⊎◌, ◌∷◌, ◌++◌, arith}
use Rattle.text_core.proofs.Kit.{◌∙◌, ℕ, inl, inr, List, [], Option, Some, None, refl, sym, ap}
use Rattle.text_core.proofs.Kit.{option_map, unwrap_or}
use Rattle.text_core.specs.Prelude.{first_that_holds}
use Rattle.http_replies.specs.Prelude.{Answer as Response}
use Rattle.site_core.specs.Prelude.{Section}
use Rattle.office_commands.specs.declared.command.Change.{Change as Changing}
use Rattle.office_commands.specs.declared.command.Command.TheVariants.{Change}
use Rattle.office_commands.specs.declared.command.Request.{Request}
use Rattle.office_commands.specs.declared.refusal.Refusal.{Refusal}
use Rattle.office_commands.specs.declared.refusal.Refusal.TheVariants.{OtherBody, WrongNumber}
use Rattle.office_commands.specs.Prelude.{acceptance, refusal, refusal_number, unkept}
use Rattle.office_rules.specs.declared.retry.Retry.{Retry}
use Rattle.office_rules.specs.declared.retry.Retry.TheVariants.{Differs, Next, Repeats, Skips}
use Rattle.office_rules.specs.Prelude.{Effect, Response as Responding, decide, effect, kept_of, refusals}
use Rattle.office_rules.specs.Prelude.{respond_by_retry, respond_to, retry_of, seat_put}
use Rattle.office_laws.specs.Prelude.{SoloState, last_number_of_seat, seat_named, solo_sight, with_puts}
use Rattle.office_laws.proofs.OwnRetries.{retry_next, retry_repeats}
use Rattle.seat_runs.specs.Prelude.{expected_in}
use Rattle.seat_runs.proofs.Answering.{command_above}
use Rattle.seat_runs.proofs.Retries.{is_skipped}

-- the number of a seat's row, by the seat
abbrev pub row_number : List ℕ → SoloState → ℕ
row_number seat s = last_number_of_seat (seat_named seat s)

module _ (c : Section) (seat : List ℕ) (s mid : SoloState) (reply : Response) where
  -- nothing refuses the command, which has the next number: it has this effect
  pub record IsMade (r : Request) (change : Changing) : Type 0 where
    pub made : Effect
    pub is : effect c seat (solo_sight c seat s) change ≡ Some made
    pub free : first_that_holds (refusals c (solo_sight c seat s) change) ≡ None
    pub next : r.number ≡ row_number seat s + 1
    pub shown : reply ≡ acceptance made.body
    pub after : mid ≡ with_puts (made.puts ++ seat_put (kept_of seat r made.body) ∷ []) s

  -- it is the last one again
  pub record IsAgain (r : Request) : Type 0 where
    pub number : r.number ≡ row_number seat s
    pub same : mid ≡ s

  -- it is refused
  pub record IsDenied : Type 0 where
    pub reason : Refusal
    pub shown : reply ≡ refusal reason
    pub same : mid ≡ s
    pub expects : (expected_in reason ≤ row_number seat s + 1) ⊎ (refusal_number reason ≡ 11 → ⊥)

  abbrev pub Comes : Request → Changing → Type 0
  Comes r change = IsMade r change ⊎ (IsAgain r ⊎ IsDenied)

  -- the reply and the state behind it are those of what the machine responds
  abbrev pub Responds : Option Responding → Type 0
  Responds made = ◌≡◌ {A = Response × SoloState} (reply, mid)
      (unwrap_or (option_map (λ r. (r.reply, with_puts r.puts s)) made) (refusal unkept, s))

  is_denied : (reason : Refusal) → (expected_in reason ≤ row_number seat s + 1) ⊎ (refusal_number reason ≡ 11 → ⊥)
      → ◌≡◌ {A = Response × SoloState} (reply, mid) (refusal reason, s) → IsDenied
  is_denied reason expects e = record {
    reason = reason;
    shown = ap (λ (p : Response × SoloState). p.0) e;
    same = ap (λ (p : Response × SoloState). p.1) e;
    expects = expects;
  }

  of_found : (r : Request) (change : Changing) (found : Option Refusal) (made : Option Effect)
      → first_that_holds (refusals c (solo_sight c seat s) change) ≡ found
      → effect c seat (solo_sight c seat s) change ≡ made → r.number ≡ row_number seat s + 1
      → Responds (decide seat r found made) → Comes r change
  of_found r change (Some reason) made holds is next e =
      let more = command_above c (solo_sight c seat s) change reason holds in
      inr (inr (is_denied reason (inr (λ q. omega arith)) e))
  of_found r change None None holds is next e = inr (inr (is_denied unkept (inl (omega arith)) e))
  of_found r change None (Some made) holds is next e = inl (record {
    made = made;
    is = is;
    free = holds;
    next = next;
    shown = ap (λ (p : Response × SoloState). p.0) e;
    after = ap (λ (p : Response × SoloState). p.1) e;
  })

  of_retry : (r : Request) (change : Changing) (retry : Retry)
      → retry_of (seat_named seat s) r.number r.digest ≡ retry
      → Responds (respond_by_retry c seat (solo_sight c seat s) r change retry) → Comes r change
  of_retry r change (Repeats body) rule e =
      let kept = retry_repeats (seat_named seat s) r.number r.digest body rule in
      inr (inl (record {
        number = sym kept.2 ∙ ap last_number_of_seat (sym kept.1);
        same = ap (λ (p : Response × SoloState). p.1) e;
      }))
  of_retry r change Differs rule e = inr (inr (is_denied OtherBody (inl (omega arith)) e))
  of_retry r change (Skips expected) rule e =
      let skips = is_skipped (seat_named seat s) r.number r.digest expected rule in
      let n = skips.next in
      inr (inr (is_denied (WrongNumber expected) (inl (omega arith)) e))
  of_retry r change Next rule e =
      of_found r change (first_that_holds (refusals c (solo_sight c seat s) change))
      (effect c seat (solo_sight c seat s) change) refl refl
      (retry_next (seat_named seat s) r.number r.digest rule) e

  pub comes_to : (r : Request) (change : Changing)
      → Responds (respond_to c seat (solo_sight c seat s) r (Change change)) → Comes r change
  comes_to r change e = of_retry r change (retry_of (seat_named seat s) r.number r.digest) refl e

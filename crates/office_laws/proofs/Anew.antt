-- A command that is accepted, and is no repeat, is its seat's next one, and nothing refuses it.
use Rattle.std.proofs.Common.{◌≡◌, ◌∙◌, ◌==◌, ℕ, arith, true, false, List, Option, Some, None, sym, ap}
use Rattle.text_core.proofs.Kit.{nat_lt, nat_tests, same_Some}
use Rattle.text_core.specs.Prelude.{first_that_holds}
use Rattle.http_replies.specs.Prelude.{Answer, code_of}
use Rattle.site_core.specs.Prelude.{Ownership, Section}
use Rattle.office_laws.proofs.Types.{Change as Changing, Next, Refusal, Repeats, Request, SeatState}
use Rattle.office_tables.specs.Prelude.{Tables}
use Rattle.office_commands.specs.Prelude.{refusal}
use Rattle.office_commands.specs.declared.command.Command.TheVariants.{Change}
use Rattle.office_rules.specs.Prelude.{Put, Response, Step, office_sight, refusals, reply_only, retry_at, retry_of}
use Rattle.office_laws.specs.Prelude.{IsSound, last_number_of_seat, seat_named, view}
use Rattle.office_laws.proofs.OwnRetries.{not_success, retry_repeats}
use Rattle.office_laws.proofs.Readings.{seat_own}
use Rattle.office_laws.proofs.Responses.{of_change}

-- an answer that is a refusal isn't 200
refused_is_not : {A : Type 0} (reply : Answer) (reason : Refusal) → reply ≡ refusal reason
    → (code_of reply.status == 200) ≡ true → A
refused_is_not reply reason e is =
    let same : (code_of reply.status == 200) ≡ false =
    ap (λ (a : Answer). code_of a.status == 200) e ∙ not_success reason in
    cc (same, is)

module _ {site : Ownership} (t : Tables) (sound : IsSound site t) (s : Section) (seat : List ℕ)
    (mine : site.seat seat ≡ Some s.name) (reply : Answer)
    (accepted : (code_of reply.status == 200) ≡ true) where
  -- what the machine responds is replied
  abbrev Responds : Option Response → Type 0
  Responds made = (puts : List Put) × (made ≡ Some (record { reply = reply; puts = puts }))

  is_refused : {A : Type 0} (reason : Refusal) → Responds (Some (reply_only (refusal reason))) → A
  is_refused reason (puts, is) =
      refused_is_not reply reason (sym (ap (λ (p : Response). p.reply) (same_Some _ _ is))) accepted

  repeats : {A : Type 0} (r : Request) (body : List ℕ)
      → nat_lt (last_number_of_seat (seat_named seat (view s.name t))) r.number ≡ true
      → retry_at seat r t ≡ Repeats body → A
  repeats r body past is =
      let own : retry_of (seat_named seat (view s.name t)) r.number r.digest ≡ Repeats body =
      ap (λ (found : Option SeatState). retry_of found r.number r.digest)
      (sym (seat_own sound s.name seat mine)) ∙ is in
      let kept = retry_repeats (seat_named seat (view s.name t)) r.number r.digest body own in
      let last : last_number_of_seat (seat_named seat (view s.name t)) ≡ r.number =
      ap last_number_of_seat kept.1 ∙ kept.2 in
      absurd (grind (arith, nat_tests, last, past))

  pub accepted_anew : (number : ℕ) (digest : List ℕ) (c : Changing) (t2 : Tables)
      → nat_lt (last_number_of_seat (seat_named seat (view s.name t))) number ≡ true
      → Step s seat t (record { number = number; digest = digest; command = Change c }) reply t2
      → (retry_at seat (record { number = number; digest = digest; command = Change c }) t ≡ Next)
      × (first_that_holds (refusals s (office_sight s seat t) c) ≡ None)
  accepted_anew number digest c t2 past step =
      let r : Request = record { number = number; digest = digest; command = Change c } in
      of_change s seat (office_sight s seat t) r
      (λ made. Responds made → (retry_at seat r t ≡ Next)
      × (first_that_holds (refusals s (office_sight s seat t) c) ≡ None)) c
      (λ body is _. repeats r body past is) (λ reason _ responds. is_refused reason responds)
      (λ next free _. (next, free)) (step.0, step.1)

-- A read-back of a device of sound tables is answered with a match exactly where the chip shows all of its batch.
use Rattle.std.specs.Prelude.{◌↔◌}
use Rattle.std.proofs.Common.{◌≡◌, ◌∙◌, ◌==◌, ◌∷◌, ℕ, true, List, [], Option, Some, None, refl, sym, ap, subst, bytes_eq, is_some, nat_cmp, option_and_then}
use Rattle.std.proofs.Common.{option_map}
use Rattle.std.proofs.lemmas.Bool.{and_parts, not-false}
use Rattle.std.specs.FinMap as table
use Rattle.std.specs.FinSet as set
use Rattle.text_core.specs.Prelude.{first_that_holds}
use Rattle.text_core.proofs.Kit.{bytes_eq-Decides, nat_lt, same_text, mapped, same_Some}
use Rattle.http_replies.specs.Prelude.{Answer, code_of}
use Rattle.site_core.specs.Prelude.{Ownership, Section}
use Rattle.fusemap_core.specs.Prelude.{IsMap, Map}
use Rattle.fuse_image.specs.Prelude.{AreKeys, pos_cmp, redacted}
use Rattle.fuse_image.proofs.InMap.{read_backs_in_map, tables_stay}
use Rattle.fuse_columns.proofs.LawProofs.{keys_lie_in_map}
use Rattle.fuse_plan.specs.Prelude.{PendingFitsImage, rest_of, seen, verdict_of, with_batch}
use Rattle.fuse_plan.proofs.Law.{match_law}
use Rattle.fuse_plan.proofs.Pending.{first_batch_law, second_batch_law}
use Rattle.office_laws.proofs.Types.{Batches, Device, FoundDevice, Image, Neither, Next, OfCustomer, Pending, ReadBack as Shown, Refusal, Request, Retry}
use Rattle.office_laws.proofs.Types.{Verdict}
use Rattle.fuse_plan.specs.declared.verdict.Verdict.TheVariants.{Fault, Match, Short}
use Rattle.office_tables.specs.declared.rows.Batches.TheVariants.{Both, Second}
use Rattle.fuse_plan.specs.declared.verdict.ChipFault.TheVariants as fault
use Rattle.office_tables.specs.declared.rows.Outcome.TheVariants as outcome
use Rattle.office_tables.specs.Prelude.{Tables, device_at, is_device, state_row}
use Rattle.office_commands.specs.Prelude.{acceptance}
use Rattle.office_commands.specs.declared.command.Action.TheVariants.{ReadBack}
use Rattle.office_commands.specs.declared.command.Change.TheVariants.{Act}
use Rattle.office_rules.specs.Prelude.{accept, action_refusals, decide, Effect, known_of, map_in_sight, map_named, map_text, next_batch, office_sight, reads}
use Rattle.office_rules.specs.Prelude.{reads_back, refusals, respond_by_retry, Response, retry_at, Sight, Step, step_effect, step_put, step_refusals}
use Rattle.office_rules.specs.Prelude.{outcome_of, verdict_of_read_back, words_fit_map}
use Rattle.office_rules.proofs.Refusing.{lowest_none}
use Rattle.office_rules.proofs.Sights.{map_same}
use Rattle.fuse_columns.specs.Prelude.{pending_in}
use Rattle.office_laws.specs.Prelude.{call_by, HasLedger, is_change, IsSound, last_number_of_seat, MatchesWhereSeen, seat_named, seen_with_batch, TellsMatch}
use Rattle.office_laws.specs.Prelude.{view}
use Rattle.office_laws.proofs.Anew.{accepted_anew}
use Rattle.office_laws.proofs.Looking.{device_seen, gave}
use Rattle.office_laws.proofs.Readings.{find_holds}
use Rattle.office_laws.proofs.Registration.{found_is_map}

-- a batch of what is pending, by which batches may be pending
module _ (m : Map) (is : IsMap m) (a : Image) (w : Pending) (r : Shown) (known : AreKeys m a.keys) (shown : AreKeys m r.shown)
    (pending : PendingFitsImage m a w) where
  batch_matches : (b : Batches) → (verdict_of m a (next_batch b w).burnt (next_batch b w).keys r ≡ Match)
      ↔ (r ≡ seen m (with_batch a (next_batch b w).burnt (next_batch b w).keys))
  batch_matches Both = first_batch_law m a w r known shown pending
  batch_matches Second = second_batch_law m is a w r known shown pending
  batch_matches Neither = match_law m a set.empty table.empty r known ((tables_stay m).none).keys shown (record {
    bits = λ p there. let none = set.contains-empty pos_cmp p in cc (none, there);
    keys = λ block there _. let none = ap is_some (table.get-empty {X = List ℕ} nat_cmp block) in cc (none, there);
  })

-- a read-back of a device of sound tables matches exactly where the chip shows what it would with its batch burnt
pub device_matches : {owners : Ownership} {t : Tables} → IsSound owners t → (customer chip : List ℕ) (d : OfCustomer Device) (m : Map) (words : List (List ℕ))
    → device_at customer chip t ≡ Some d → map_named customer d.row.map t ≡ Some m → words_fit_map m words ≡ true
    → (verdict_of_read_back (redacted m words) m d.row ≡ Match) ↔ (redacted m words ≡ seen_with_batch m d.row)
device_matches {owners} {t} sound customer chip d m words there named fit =
    let found = find_holds (HasLedger (λ customer digest. map_named customer digest t) t.ledger) (is_device customer chip) t.devices d sound.ledgers there in
    let owner : customer ≡ d.customer = same_text customer d.customer (and_parts (bytes_eq customer d.customer) (bytes_eq chip d.row.chip) found.1).0 in
    let fits = found.0.by_map m (rw (← owner) named) in
    batch_matches m (found_is_map (map_text customer d.row.map t) m named) (known_of m d.row) (pending_in m d.row.todo) (redacted m words)
    (keys_lie_in_map m d.row.keys).keys (read_backs_in_map m words ((bytes_eq-Decides _ _).0 fit)).shown.keys fits.pending.pending
    (state_row d.row.state).pending

-- the outcome of a match is that of no other verdict
match_outcome : (v : Verdict) → (outcome_of v ≡ outcome.Match) ↔ (v ≡ Match)
match_outcome Match = (λ _. refl, λ _. refl)
match_outcome (Short rest) = (λ e. cc, λ e. cc)
match_outcome (Fault fault.Lost) = (λ e. cc, λ e. cc)
match_outcome (Fault fault.Stray) = (λ e. cc, λ e. cc)
match_outcome (Fault fault.Key) = (λ e. cc, λ e. cc)

module _ {site : Ownership} (t : Tables) (sound : IsSound site t) (s : Section) (seat : List ℕ) (mine : site.seat seat ≡ Some s.name) (number : ℕ)
    (digest chip : List ℕ) (words : List (List ℕ)) (reply : Answer) (t2 : Tables) (accepted : (code_of reply.status == 200) ≡ true)
    (past : nat_lt (last_number_of_seat (seat_named seat (view s.name t))) number ≡ true)
    (step : Step s seat t (reads_back number digest chip words) reply t2) where
  abbrev r : Request
  r = reads_back number digest chip words

  abbrev v : Sight
  v = office_sight s seat t

  abbrev p : Response
  p = record { reply = reply; puts = step.0 }

  -- it is the seat's next one, and nothing refuses it
  anew : (retry_at seat r t ≡ Next) × (first_that_holds (refusals s v (Act chip (ReadBack words))) ≡ None)
  anew = accepted_anew t sound s seat mine reply accepted number digest (Act chip (ReadBack words)) t2 past step

  -- a read-back that nothing refuses has an effect, which is answered
  answered : (e : Effect) × (step_effect seat v (reads words) chip ≡ Some e) × (accept seat r e ≡ p)
  answered =
      let decided : decide seat r (first_that_holds (refusals s v (Act chip (ReadBack words)))) (step_effect seat v (reads words) chip) ≡ Some p =
      subst (λ (u : Retry). respond_by_retry s seat v r (Act chip (ReadBack words)) u ≡ Some p) anew.0 step.1 in
      mapped (step_effect seat v (reads words) chip) (accept seat r) p
      (subst (λ (found : Option Refusal). decide seat r found (step_effect seat v (reads words) chip) ≡ Some p) anew.1 decided)

  abbrev made : Device → Map → Effect
  made d m = record { body = (reads words m d).1; puts = step_put seat v (reads words m d).0 ∷ [] }

  pub tells_match : TellsMatch (call_by s seat r, reply) t chip words
  tells_match = by (device_at s.name chip t) refl answered.1
    where
      by : (found : Option (OfCustomer Device)) → device_at s.name chip t ≡ found
          → option_and_then (λ d. option_and_then (λ m. Some (made d m)) (map_in_sight v d.map)) (option_map (λ d. d.row) found) ≡ Some answered.0
          → TellsMatch (call_by s seat r, reply) t chip words
      by None there is = cc
      by (Some old) there is =
          let m = gave (map_in_sight v old.row.map) _ answered.0 is in
          let named : map_named s.name old.row.map t ≡ Some m.0 = map_same s seat t old.row.map ∙ m.1 in
          let refused : first_that_holds (action_refusals (ReadBack words) m.0 old.row) ≡ None =
          subst (λ (found : Option FoundDevice). first_that_holds (step_refusals (action_refusals (ReadBack words)) found) ≡ None)
          (device_seen s t seat chip old m.0 there named) anew.1 in
          let none = lowest_none (action_refusals (ReadBack words) m.0 old.row) refused in
          let verdict : Verdict = verdict_of_read_back (redacted m.0 words) m.0 old.row in
          let same : (outcome_of verdict ≡ outcome.Match) ↔ (verdict ≡ Match) = match_outcome verdict in
          let law : (verdict ≡ Match) ↔ (redacted m.0 words ≡ seen_with_batch m.0 old.row) =
          device_matches sound s.name chip old m.0 words there named (not-false _ none.1.0) in
          record {
            device = old;
            by_map = m.0;
            there = there;
            named = named;
            outcome = outcome_of verdict;
            rest = rest_of verdict;
            state = (reads words m.0 old.row).0.device.state;
            reply = sym (ap (λ (x : Response). x.reply) answered.2) ∙ ap (λ (e : Effect). acceptance e.body) (sym (same_Some _ _ m.2));
            matches = (λ e. law.0 (same.0 e), λ h. same.1 (law.1 h));
          }

-- a request that is a read-back is told to match where the chip shows what it would with the whole batch burnt
pub matches_where_seen : {site : Ownership} (t : Tables) → IsSound site t → (s : Section) (seat : List ℕ) → site.seat seat ≡ Some s.name
    → (asked : Request) (reply : Answer) (t2 : Tables) → Step s seat t asked reply t2 → MatchesWhereSeen (call_by s seat asked, reply) t
matches_where_seen t sound s seat mine asked reply t2 step number digest chip words is accepted past =
    let same : asked ≡ reads_back number digest chip words = cc in
    subst (λ (q : Request). TellsMatch (call_by s seat q, reply) t chip words) (sym same)
    (tells_match t sound s seat mine number digest chip words reply t2 (and_parts (is_change asked.command) (code_of reply.status == 200) accepted).1
    (subst (λ (q : Request). nat_lt (last_number_of_seat (seat_named seat (view s.name t))) q.number ≡ true) same past)
    (subst (λ (q : Request). Step s seat t q reply t2) same step))

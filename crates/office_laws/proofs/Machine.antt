-- A step acts on the customer's view as the customer's own machine does, and leaves each other
-- view.
use Rattle.std.proofs.Common.{◌≡◌, ◌∷◌, ◌++◌, if◌then◌else◌}
use Rattle.std.proofs.SliceLists.{all_by_recursion_push}
use Rattle.text_core.proofs.Kit.{ℕ, false, List, [], map, Option, Some, None, refl, sym, ap, ◌∙◌, subst, result_ok, bytes_eq, is_some, option_and_then}
use Rattle.text_core.proofs.Kit.{option_map, AllByRecursion, mapped, same_Some}
use Rattle.text_core.specs.Prelude.{first_that_holds}
use Rattle.http_replies.specs.Prelude.{Answer}
use Rattle.site_core.specs.Prelude.{Section, IsSection, Ownership}
use Rattle.office_laws.proofs.Types.{ImportRow, Change as Changing, MakeOrder, ImportMap, RegisterDevice, Act, Identify, Import, Request, BadMap}
use Rattle.office_tables.specs.Prelude.{Tables}
use Rattle.office_rules.specs.Prelude.{rule_of, StepRule, Effect, Put, map_put, record_put, step_effect, merged_rows, row_of_import, Response, accept, effect}
use Rattle.office_rules.specs.Prelude.{refusals, response, map_fault, text_refusals, Step, office_sight, IssuedIn, Sight, map_in_sight, refused_for}
use Rattle.office_laws.specs.Prelude.{SoloState, solo, with_puts, IsSound, view}
use Rattle.office_laws.proofs.Identity.{identity_found}
use Rattle.office_laws.proofs.Looking.{gave, issuer_found, rows_taken}
use Rattle.office_laws.proofs.Readings.{issuer_owner, order_issuer}
use Rattle.office_laws.proofs.Responses.{of_command}
use Rattle.office_laws.proofs.Seen.{seen_own}
use Rattle.office_laws.proofs.Tidy.{IsDue, puts_act, sound_is_tidy}

-- the reply to a seat's request, and the own machine's state after it
abbrev after_response : SoloState → Response → Answer × SoloState
after_response s r = (r.reply, with_puts r.puts s)

module _ {owners : Ownership} {t : Tables} (sound : IsSound owners t) (s : Section)
    (section : IsSection owners s) (seat : List ℕ) (mine : owners.seat seat ≡ Some s.name) where
  abbrev v : Sight
  v = office_sight s seat t

  abbrev AreDue : List Put → Type 0
  AreDue ps = AllByRecursion (IsDue owners s.name) ps

  these : {made o : Effect} → Some made ≡ Some o → AreDue made.puts → AreDue o.puts
  these {made} {o} e due = subst (λ (x : Effect). AreDue x.puts) (same_Some _ _ e) due

  -- an issuer that is looked up is the customer's
  issuer_mine : (issuer : List ℕ) (given : IssuedIn) → v.issuer issuer ≡ Some given
      → owners.issuer issuer ≡ Some s.name
  issuer_mine issuer given e = issuer_owner s section issuer (issuer_found s t issuer given e).0

  steps_due : (does : StepRule) (chip : List ℕ) (o : Effect) → step_effect seat v does chip ≡ Some o
      → AreDue o.puts
  steps_due does chip o e =
      let d = gave (v.device chip) _ o e in
      let m = gave (map_in_sight v d.0.map) _ o d.2 in
      these m.2 (tt, tt)

  text_due : (text : List ℕ) (found : Option (List ℕ)) (fault : Option ℕ) → map_fault text ≡ fault
      → first_that_holds (refused_for BadMap fault ++ text_refusals text found v.maps) ≡ None
      → AreDue (if is_some found then [] else map_put text ∷ [])
  text_due text (Some other) fault e free = tt
  text_due text None None e free = (e, tt)
  text_due text None (Some fault) e free = cc

  rows_due : (issuer : List ℕ) → owners.issuer issuer ≡ Some s.name → (rows : List ImportRow)
      → AreDue (map (λ r. record_put (row_of_import issuer r)) rows)
  rows_due issuer mine [] = tt
  rows_due issuer mine (r ∷ rs) = (mine, rows_due issuer mine rs)

  -- the puts of a command are due
  outcome_due : (c : Changing) (o : Effect) → first_that_holds (refusals s v c) ≡ None
      → effect s seat v c ≡ Some o → AreDue o.puts
  outcome_due (MakeOrder n) o free e = these (gave (v.issuer n.issuer) _ o e).2 (refl, tt)
  outcome_due (ImportMap text) o free e =
      these e (text_due text (v.text _) (map_fault text) refl free)
  outcome_due (RegisterDevice n) o free e = these (gave (map_in_sight v n.map) _ o e).2 (tt, tt)
  outcome_due (Act chip action) o free e = steps_due (rule_of action).does chip o e
  outcome_due (Identify n) o free e =
      let f = identity_found s seat t n o e in
      subst (λ (x : Effect). AreDue x.puts) f.is
      (tt, (order_issuer sound s.name f.old.row.order f.order f.ordered, tt))
  outcome_due (Import n) o free e =
      let i = gave (option_and_then result_ok (merged_rows v n)) _ o e in
      let taken = rows_taken v n i.0 i.1 in
      these i.2 (rows_due n.issuer (issuer_mine n.issuer taken.1 taken.2) i.0.added)

  module _ (r : Request) where
    served_due : (p : Response) → response s seat v r ≡ Some p → AreDue p.puts
    served_due = of_command s seat v r (λ made. (p : Response) → made ≡ Some p → AreDue p.puts)
        (λ reply p e. subst (λ (x : Response). AreDue x.puts) (same_Some _ _ e) tt)
        (λ c _ _ free p e.
        let o = mapped (effect s seat v c) (accept seat r) p e in
        subst (λ (x : Response). AreDue x.puts) o.2
        (all_by_recursion_push (IsDue owners s.name) o.0.puts _ (outcome_due c o.0 free o.1) mine))

    -- a step is the own machine's on the customer's view, and none on another's
    pub step_own : (reply : Answer) (t2 : Tables) → Step s seat t r reply t2
        → (solo s seat (view s.name t) r ≡ Some (reply, view s.name t2))
        × ((d : List ℕ) → bytes_eq d s.name ≡ false → view d t2 ≡ view d t)
    step_own reply t2 (puts, is, change) =
        let acts =
        puts_act s section (sound_is_tidy sound) puts
        (served_due (record { reply = reply; puts = puts }) is) t2 change in (
          (λ i. option_map (after_response (view s.name t))
              (response s seat (sym (seen_own sound s section seat mine) i) r))
              ∙ (ap (option_map (after_response (view s.name t))) is
              ∙ (λ i. Some (reply, sym acts.own i))),
          acts.other,
        )

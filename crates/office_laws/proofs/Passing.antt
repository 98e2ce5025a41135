-- What one exchange does to the tables and to each customer's view.
use Rattle.std.proofs.Common.{◌≡◌, ◌∙◌, ℕ, true, false, List, refl, sym, ap, subst, bytes_eq, not, MatchBool}
use Rattle.std.proofs.lemmas.Bool.{and_parts}
use Rattle.text_core.proofs.Kit.{same_text}
use Rattle.http_replies.specs.Prelude.{Answer, is_unavailable}
use Rattle.site_core.specs.Prelude.{PoolsDisjoint, Ownership}
use Rattle.office_tables.specs.Prelude.{Tables}
use Rattle.office_commands.specs.Prelude.{refusal, unkept}
use Rattle.office_laws.specs.Prelude.{Grows, SoloState, IsSound, view, Exchange, Wanted, asks, reports, refused, FulfilsWanted, Passes, report_reply, CanAsk}
use Rattle.office_laws.specs.Prelude.{IsSeat, alone, alone_on, is_own}
use Rattle.office_laws.proofs.Growing.{grows_itself}
use Rattle.office_laws.proofs.Obeying.{Obeys, step_obeys}
use Rattle.office_laws.proofs.OwnReports.{report_own}

-- the tables stay sound, and keep what they have; to its customer the exchange is one of the
-- customer's own machine, and it leaves each other view
pub record Serves (site : Ownership) (x : Exchange) (t mid : Tables) : Type 0 where
  pub sound : IsSound site mid
  pub grows : Grows t mid
  pub own : (customer : List ℕ) → is_own customer x ≡ true
      → ◌≡◌ {A = Answer × SoloState} (x.1, view customer mid) (alone x.0 (view customer t))
  pub other : (customer : List ℕ) → is_own customer x ≡ false → view customer mid ≡ view customer t

-- a reply that changes nothing is one of the own machine that changes nothing
pub tells : {site : Ownership} {t : Tables} → IsSound site t
    → (customer : List ℕ) (said reply : Answer) (t2 : Tables) → reply ≡ said → t2 ≡ t
    → Obeys site customer t reply t2 (said, view customer t)
tells {site = site} {t = t} sound customer said reply t2 is same = record {
  sound = subst (IsSound site) (sym same) sound;
  grows = subst (Grows t) (sym same) (grows_itself t);
  own = λ i. (is i, view customer (same i));
  other = λ other _. ap (view other) same;
}

module _ (site : Ownership) (t : Tables) (sound : IsSound site t) (apart : PoolsDisjoint site)
    (x : Exchange) (seat : IsSeat site x.0) (mid : Tables) where
  -- what isn't answered 503
  met : (w : Wanted) → CanAsk w → FulfilsWanted x.0 w t x.1 mid
      → Obeys site x.0.section.name t x.1 mid (alone_on x.0 (view x.0.section.name t) w)
  met (asks r) can meets =
      step_obeys sound x.0.section x.0.seat apart seat.section r x.1 mid can seat.seat meets
  met reports can meets =
      tells sound x.0.section.name _ x.1 mid
      (meets.0 ∙ ap report_reply (report_own sound x.0.section.name)) meets.1
  met (refused reason) can meets =
      tells sound x.0.section.name (refusal reason) x.1 mid meets.0 meets.1

  served : is_unavailable x.1.status ≡ false
      → Obeys site x.0.section.name t x.1 mid (alone x.0 (view x.0.section.name t))
      → Serves site x t mid
  served is obeys = record {
    sound = obeys.sound;
    grows = obeys.grows;
    own = λ customer own.
        let same : customer ≡ x.0.section.name = same_text _ _ (and_parts _ _ own).0 in
        rw same obeys.own;
    other = λ customer other.
        elim (bytes_eq customer x.0.section.name) as
        (λ b. bytes_eq customer x.0.section.name ≡ b → view customer mid ≡ view customer t) [
          | true ↦ λ mine. let own : is_own customer x ≡ true = rw (mine, is) refl in
              cc (own, other)
          | false ↦ λ fails. obeys.other customer fails
        ] refl;
  }

  unserved : is_unavailable x.1.status ≡ true → mid ≡ t → Serves site x t mid
  unserved is same = record {
    sound = subst (IsSound site) (sym same) sound;
    grows = subst (Grows t) (sym same) (grows_itself t);
    own = λ customer own.
        let one : not (is_unavailable x.1.status) ≡ true =
        (and_parts (bytes_eq customer x.0.section.name) (not (is_unavailable x.1.status)) own).1
        in
        let other : not (is_unavailable x.1.status) ≡ false = ap not is in
        cc (one, other);
    other = λ customer other. ap (view customer) same;
  }

  pub serves : Passes t x.0 x.1 mid → Serves site x t mid
  serves passes = elim (is_unavailable x.1.status) as
      (λ b. is_unavailable x.1.status ≡ b
      → MatchBool b ((x.1 ≡ refusal unkept) × (mid ≡ t)) (FulfilsWanted x.0 x.0.wanted t x.1 mid)
      → Serves site x t mid) [
        | true ↦ λ is made. unserved is made.1
        | false ↦ λ is made. served is (met x.0.wanted seat.wanted made)
      ] refl passes

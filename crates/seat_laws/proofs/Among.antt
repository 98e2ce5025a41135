-- Members of a list, and what is kept aside.
use Rattle.std.proofs.Common.{◌≡◌, ◌≢◌, ◌⊎◌, ◌∙◌, ℕ, suc, zero, ◌-◌, ◌≤◌, Bool, true, false, List, [], ◌∷◌, ◌++◌}
use Rattle.std.proofs.Common.{length, Some, refl, sym, ap, subst, inl, inr, arith, cond, filter}
use Rattle.std.proofs.Math.Dec.{eqb}
use Rattle.std.proofs.lemmas.Bool.{ne_eqb}
use Rattle.std.proofs.lemmas.Bool.Decides.{eqb_tells}
use Rattle.std.specs.Prelude.{◌==◌, not, slice_get}
use Rattle.std.specs.List.{AllByRecursion}
use Rattle.seat_core.specs.Aside.{aside_with, newest_of}
use Rattle.seat_laws.specs.Runs.{IsAmong}

-- what holds of all holds of each
pub all_at : {X : Type 0} (P : X → Type 0) (x : X) (xs : List X) → AllByRecursion P xs → IsAmong x xs → P x
all_at P x [] all among = elim among [ ]
all_at P x (other ∷ others) all (inl e) = subst P (sym e) all.0
all_at P x (other ∷ others) all (inr among) = all_at P x others all.1 among

among_left : (x : ℕ) (xs ys : List ℕ) → IsAmong x xs → IsAmong x (xs ++ ys)
among_left x [] ys among = elim among [ ]
among_left x (other ∷ others) ys (inl e) = inl e
among_left x (other ∷ others) ys (inr among) = inr (among_left x others ys among)

among_last : (x : ℕ) (xs : List ℕ) → IsAmong x (xs ++ x ∷ [])
among_last x [] = inl refl
among_last x (other ∷ others) = inr (among_last x others)

among_test : (x y : ℕ) (ys : List ℕ) (b : Bool) → IsAmong x ys → IsAmong x (cond b (y ∷ ys) ys)
among_test x y ys true among = inr among
among_test x y ys false among = among

-- the others of a list
others : ℕ → List ℕ → List ℕ
others request = filter (λ kept. not (kept == request))

among_others : (request x : ℕ) (xs : List ℕ) → (x ≡ request → ⊥) → IsAmong x xs → IsAmong x (others request xs)
unfolding others
among_others request x [] other among = elim among [ ]
among_others request x (y ∷ ys) other (inl e) =
    let t : (y == request) ≡ false = ne_eqb y request (λ same. other (e ∙ same)) in
    rw t (inl e)
among_others request x (y ∷ ys) other (inr among) =
    among_test x y _ (not (y == request)) (among_others request x ys other among)

newest_all : (xs : List ℕ) → length xs ≤ 15 → newest_of xs ≡ xs
newest_all xs few = let e : length xs - 15 ≡ 0 = omega arith in rw e refl

-- where there is room, what was aside or under way is aside
pub kept_among : (request x : ℕ) (aside : List ℕ)
    → length (filter (λ kept. not (kept == request)) aside) ≤ 15
    → IsAmong x (request ∷ aside) → IsAmong x (aside_with request aside)
unfolding others
kept_among request x aside few among = kept (eqb_tells x request) among where
  kept : ((eqb x request ≡ true) × (x ≡ request)) ⊎ ((eqb x request ≡ false) × (x ≢ request))
      → IsAmong x (request ∷ aside) → IsAmong x (aside_with request aside)
  kept (inl same) among = rw (newest_all (others request aside) few)
      (subst (λ y. IsAmong x (others request aside ++ y ∷ [])) same.1 (among_last x (others request aside)))
  kept (inr other) (inl e) = absurd (other.1 e)
  kept (inr other) (inr among) = rw (newest_all (others request aside) few)
      (among_left x _ (request ∷ []) (among_others request x aside other.1 among))

-- the place of a member
pub index_of : (x : ℕ) (xs : List ℕ) → IsAmong x xs → (index : ℕ) × (slice_get xs index ≡ Some x)
index_of x [] among = elim among [ ]
index_of x (y ∷ ys) (inl e) = (zero, ap Some (sym e))
index_of x (y ∷ ys) (inr among) = let i = index_of x ys among in (suc i.0, i.1)

pub at_index : (x : ℕ) (xs : List ℕ) (index : ℕ) → slice_get xs index ≡ Some x → IsAmong x xs
at_index x [] index e = absurd (cc)
at_index x (y ∷ ys) zero e = inl (cc)
at_index x (y ∷ ys) (suc index) e = inr (at_index x ys index e)

-- Lists that a query answers.
use Rattle.std.proofs.Common.{◌≡◌, ℕ, ◌<◌, List, [], ◌∷◌, map, length, false, refl, sym, ap, subst, subst₂, ◌∙◌, ◌+◌, swap, IsPermutation, IsSorted, is_lt}
use Rattle.std.specs.declared.cmp.Ordering.{Ordering}
use Rattle.std.proofs.lemmas.List.Sorted.{IsPermutation-keeps, IsPermutation-refl, IsPermutation-trans, IsPermutation-swap}
use Rattle.std.proofs.lemmas.List.{map-set, length-map}
use Rattle.std.proofs.Math.ListN.{get_or-map, get_or, set}

-- a permutation of what f makes is made of a permutation
pub unmapped : {A B : Type 0} (f : A → B) (xs : List A) (ys : List B) → IsPermutation (map f xs) ys → (zs : List A) × IsPermutation xs zs × (ys ≡ map f zs)
unmapped {A} {B} f xs = IsPermutation-keeps (map f xs) (λ l. (zs : List A) × IsPermutation xs zs
    × (l ≡ map f zs)) (xs, IsPermutation-refl xs, refl) (λ l i j p q h.
    let long : length h.0 ≡ length l = sym (length-map h.0 f) ∙ ap length (sym h.2) in (
      swap h.0 i j,
      IsPermutation-trans xs h.0 (swap h.0 i j)
          h.1 (IsPermutation-swap h.0 (swap h.0 i j) i j (subst (λ n.
          i < n) (sym long) p) (subst (λ n. j < n) (sym long) q) refl),
      ap (λ k. swap k i j) h.2
          ∙ swapped h.0 i j,
    ))
  where
    swapped : (zs : List A) (i j : ℕ) → swap (map f zs) i j ≡ map f (swap zs i j)
    swapped [] i j = refl
    swapped (z ∷ zs) i j =
        let l = z ∷ zs in
        let a = get_or l j z in
        let b = get_or l i z in
        ap (λ v. set (set (map f l) i v) j (get_or (map f l) i (f z))) (get_or-map f l j z) ∙ ap (λ v. set (set (map f l) i (f a)) j v) (get_or-map f l i z)
        ∙ ap (λ k. set k j (f b)) (sym (map-set f l i a)) ∙ sym (map-set f (set l i a) j b)

-- what f makes is sorted as it is
pub sorted_kept : {A B : Type 0} (f : A → B) (cmp : B → B → Ordering) (xs : List A) → IsSorted cmp (map f xs) → IsSorted (λ a b. cmp (f a) (f b)) xs
sorted_kept f cmp xs h k d low high =
    subst₂ (λ u v. is_lt (cmp u v)
    ≡ false) (get_or-map f xs (k + 1) d) (get_or-map f xs k d) (h k (f d) low (subst (λ n.
    k + 1 < n) (sym (length-map xs f)) high))

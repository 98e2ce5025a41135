-- The numbers of what was asked for last, and what holds of each of them.
use Rattle.std.proofs.Common.{◌≡◌, ◌+◌, ◌∷◌, ◌++◌}
use Rattle.text_core.proofs.Kit.{◌∙◌, ℕ, suc, nat_lt, Bool, cond, List, [], map, take, drop, Some, None, refl, sym, ap, ap₂, All, not, position, remove}
use Rattle.text_core.proofs.Kit.{position_or_len, length-map, map-append, take-map, drop-map, All-append, All-cons, All-drop, All-take}
use Rattle.fusemap_core.specs.Recent.{with_first}

module _ {X Y : Type 0} (f : X → Y) where
  -- numbers of what is left are the numbers that are left
  map-remove : (xs : List X) (place : ℕ) → map f (remove xs place) ≡ remove (map f xs) place
  map-remove xs place =
      map-append f (take place xs) (drop (suc place) xs)
      ∙ ap₂ (λ (a b : List Y). a ++ b) (sym (take-map f place xs)) (sym (drop-map f (suc place) xs))

  -- one before the others
  pub map-with_first : (x : X) (xs : List X) → map f (with_first x xs) ≡ with_first (f x) (map f xs)
  map-with_first x xs = sym (take-map f 16 (x ∷ xs))

  -- f of each element, where one of them was brought to the front
  pub map-brought : (x : X) (xs : List X) (place : ℕ) → map f (with_first x (remove xs place)) ≡ with_first (f x) (remove (map f xs) place)
  map-brought x xs place = map-with_first x (remove xs place) ∙ ap (λ (ys : List Y). with_first (f x) ys) (map-remove xs place)

  position_or_len-map : (p : Y → Bool) (xs : List X) → position_or_len p (map f xs) ≡ position_or_len (λ x. p (f x)) xs
  position_or_len-map p [] = refl
  position_or_len-map p (x ∷ xs) = ap (λ n. cond (not (p (f x))) (1 + n) 0) (position_or_len-map p xs)

  -- a number has the place of what it is the number of
  pub position-map : (p : Y → Bool) (xs : List X) → position p (map f xs) ≡ position (λ x. p (f x)) xs
  position-map p xs =
      ap₂ (λ (first len : ℕ). cond (nat_lt first len) (Some first) None) (position_or_len-map p xs) (length-map xs f)

module _ {X : Type 0} (P : X → Type 0) where
  -- what holds of one and of the others
  pub All-with_first : (x : X) (xs : List X) → P x → All P xs → All P (with_first x xs)
  All-with_first x xs here all = All-take P 16 (x ∷ xs) (All-cons P x xs here all)

  -- what holds of one and of the others holds where the one was brought to the front
  pub All-brought : (x : X) (xs : List X) (place : ℕ) → P x → All P xs → All P (with_first x (remove xs place))
  All-brought x xs place here all =
      All-with_first x (remove xs place) here (All-append P (take place xs) (drop (suc place) xs) (All-take P place xs all) (All-drop P (suc place) xs all))

-- What a reader gives of each item of a list, and what tests say of its elements.
use Rattle.std.proofs.Common.{◌≡◌, ℕ, zero, suc, ◌+◌, ◌<◌, List, [], ◌∷◌, ◌++◌, length, get_or, take, map, Option, Some, None, option_map, option_and_then}
use Rattle.std.proofs.Common.{refl, sym, ap, ◌∙◌, arith, Bool, true, filter, find, inl, inr, Ordering, Less}
use Rattle.std.proofs.lemmas.Bool.{cases_Bool}
use Rattle.std.proofs.lemmas.List.{take_more}
use Rattle.std.proofs.lemmas.List.Elements.{filter_passes, recursion_from_All}
use Rattle.std.proofs.lemmas.Option.{none-some, same_Some}
use Rattle.std.specs.List.{AllByRecursion}
use Rattle.text_core.specs.Prelude.{all_of}

-- the results, with one more at the end
abbrev with_last : {B : Type 0} → Option B → List B → Option (List B)
with_last last ys = option_map (λ y. ys ++ y ∷ []) last

abbrev with_first : {B : Type 0} → Option (List B) → B → Option (List B)
with_first rest y = option_map (λ ys. y ∷ ys) rest

first_and_last : {B : Type 0} (first : Option B) (middle : Option (List B)) (last : Option B)
    → option_and_then (with_first (option_and_then (with_last last) middle)) first
    ≡ option_and_then (with_last last) (option_and_then (with_first middle) first)
first_and_last None middle last = refl
first_and_last (Some y) None last = refl
first_and_last (Some y) (Some ys) None = refl
first_and_last (Some y) (Some ys) (Some z) = refl

only : {B : Type 0} (last : Option B) → option_and_then (with_first (Some [])) last ≡ with_last last []
only None = refl
only (Some y) = refl

all_of-append : {A B : Type 0} (f : A → Option B) (xs : List A) (x : A)
    → all_of f (xs ++ x ∷ []) ≡ option_and_then (with_last (f x)) (all_of f xs)
all_of-append f [] x = only (f x)
all_of-append f (w ∷ ws) x =
    ap (λ rest. option_and_then (with_first rest) (f w)) (all_of-append f ws x) ∙ first_and_last (f w) (all_of f ws) (f x)

-- one more element at the end
pub all_of_push : {A B : Type 0} (f : A → Option B) (xs : List A) (x : A) (ys : List B) (y : B)
    → all_of f xs ≡ Some ys → f x ≡ Some y → all_of f (xs ++ x ∷ []) ≡ Some (ys ++ y ∷ [])
all_of_push f xs x ys y all one = all_of-append f xs x ∙ rw (all, one) refl

none_after : {B : Type 0} (first : Option B) → option_and_then (with_first None) first ≡ None
none_after None = refl
none_after (Some y) = refl

-- an element of which f gives nothing
pub all_of_refused : {A B : Type 0} (f : A → Option B) (xs : List A) (i : ℕ) (d : A)
    → i < length xs → f (get_or xs i d) ≡ None → all_of f xs ≡ None
all_of_refused f [] i d low none = absurd (omega arith)
all_of_refused f (x ∷ xs) zero d low none = rw none refl
all_of_refused f (x ∷ xs) (suc i) d low none =
    ap (λ rest. option_and_then (with_first rest) (f x)) (all_of_refused f xs i d (omega arith) none) ∙ none_after (f x)

-- the step of a loop that reads each element
pub all_of_next : {A B : Type 0} (f : A → Option B) (xs : List A) (i : ℕ) (x : A) (ys : List B) (y : B)
    → i < length xs → x ≡ get_or xs i x → all_of f (take i xs) ≡ Some ys → f x ≡ Some y
    → all_of f (take (i + 1) xs) ≡ Some (ys ++ y ∷ [])
all_of_next f xs i x ys y low item all one =
    rw (take_more xs i x low) (all_of_push f (take i xs) (get_or xs i x) ys y all (ap f (sym item) ∙ one))

-- the end of a loop that reads each element, where one is refused
pub all_of_end : {A B : Type 0} (f : A → Option B) (xs : List A) (i : ℕ) (x : A)
    → i < length xs → x ≡ get_or xs i x → f x ≡ None → all_of f xs ≡ None
all_of_end f xs i x low item none = all_of_refused f xs i x low (ap f (sym item) ∙ none)

-- reading elements that are seen through g
pub all_of-map : {A B C : Type 0} (f : B → Option C) (g : A → B) (xs : List A) → all_of f (map g xs) ≡ all_of (λ x. f (g x)) xs
all_of-map f g [] = refl
all_of-map f g (x ∷ xs) = ap (λ rest. option_and_then (with_first rest) (f (g x))) (all_of-map f g xs)

-- the step of a loop that reads each element, seen through g
pub all_of_more : {A B C : Type 0} (f : B → Option C) (g : A → B) (vs : List A) (i : ℕ) (v : A) (ys : List C) (y : C)
    → i < length vs → v ≡ get_or vs i v → all_of f (map g (take i vs)) ≡ Some ys → f (g v) ≡ Some y
    → all_of f (map g (take (i + 1) vs)) ≡ Some (ys ++ y ∷ [])
all_of_more f g vs i v ys y low item all one =
    all_of-map f g (take (i + 1) vs)
    ∙ all_of_next (λ w. f (g w)) vs i v ys y low item (sym (all_of-map f g (take i vs)) ∙ all) one

-- the end of a loop that reads each element, seen through g, where one is refused
pub all_of_stop : {A B C : Type 0} (f : B → Option C) (g : A → B) (vs : List A) (i : ℕ) (v : A)
    → i < length vs → v ≡ get_or vs i v → f (g v) ≡ None → all_of f (map g vs) ≡ None
all_of_stop f g vs i v low item none = all_of-map f g vs ∙ all_of_end (λ w. f (g w)) vs i v low item none

-- what is found passes the test
pub find-passes : {X : Type 0} (p : X → Bool) (xs : List X) (x : X) → find p xs ≡ Some x → p x ≡ true
find-passes p [] x found = absurd (none-some x found)
find-passes p (y ∷ ys) x found =
    elim (cases_Bool (p y)) [
      | inl passes ↦ let same : y ≡ x = same_Some y x (rw passes at found) in rw same at passes
      | inr fails ↦ find-passes p ys x (rw fails at found)
    ]

-- what is left of a filter passes it
pub kept_pass : {A : Type 0} (p : A → Bool) (xs : List A) → AllByRecursion (λ x. p x ≡ true) (filter p xs)
kept_pass p xs = recursion_from_All (λ x. p x ≡ true) (filter p xs) (filter_passes p xs)

-- what comes before each element does so where f, which keeps the order, changes all of them
pub all_below : {A : Type 0} (cmp : A → A → Ordering) (f : A → A) → ((x y : A) → cmp (f x) (f y) ≡ cmp x y) → (x : A) (xs : List A)
    → AllByRecursion (λ y. cmp x y ≡ Less) xs → AllByRecursion (λ y. cmp (f x) y ≡ Less) (map f xs)
all_below cmp f same x [] below = tt
all_below cmp f same x (y ∷ ys) below = (same x y ∙ below.0, all_below cmp f same x ys below.1)

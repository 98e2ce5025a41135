-- A name in its place among names in order.
use Rattle.std.proofs.Common.{◌≡◌, ℕ, suc, ◌+◌, ◌-◌, ◌<◌, List, ◌∷◌, ◌++◌, length, take, drop, get_or, map, Ordering, Equal, sym, ap, ◌∙◌, arith}
use Rattle.std.specs.Ordering.{match_ordering}
use Rattle.std.proofs.lemmas.List.{drop_more, get_or-map, length-map}
use Rattle.site_core.specs.Prelude.{Section}
use Rattle.office_tables.specs.Prelude.{with_row}

-- the places so far are passed over
abbrev pub IsPassed : {A : Type 0} → (A → A → Ordering) → A → List A → ℕ → Type 0
IsPassed cmp x xs i = with_row cmp x xs ≡ take i xs ++ with_row cmp x (drop i xs)

-- a name that is equal takes the place
pub placed_over : {A : Type 0} (cmp : A → A → Ordering) (x : A) (xs : List A) (i : ℕ) (y : A) → i < length xs → y ≡ get_or xs i y → cmp x y ≡ Equal
    → IsPassed cmp x xs i
    → take i xs ++ x ∷ drop (suc i) xs ≡ with_row cmp x xs
placed_over {A} cmp x xs i y within here equal passed =
    let cut : drop i xs ≡ y ∷ drop (i + 1) xs = drop_more xs i y within ∙ ap (λ (z : A). z ∷ drop (i + 1) xs) (sym here) in
    let next : i + 1 ≡ suc i = omega arith in
    sym (passed ∙ (ap (λ (ys : List A). take i xs ++ with_row cmp x ys) cut
    ∙ (ap (λ o. take i xs ++ match_ordering o (x ∷ y ∷ drop (i + 1) xs) (x ∷ drop (i + 1) xs) (y ∷ with_row cmp x (drop (i + 1) xs))) equal
    ∙ ap (λ k. take i xs ++ x ∷ drop k xs) next)))

-- the name of the customer before those that were placed
pub name_before : (customers : List Section) (i : ℕ) (c : Section) → i < length customers → c ≡ get_or customers (length customers - 1 - i) c
    → drop (length customers - (i + 1)) (map (λ s. s.name) customers) ≡ c.name ∷ drop (length customers - i) (map (λ s. s.name) customers)
name_before customers i c within here =
    let k : ℕ = length customers - (i + 1) in
    let place : length customers - 1 - i ≡ k = omega arith in
    let next : k + 1 ≡ length customers - i = omega arith in
    let names : List (List ℕ) = map (λ s. s.name) customers in
    let is : get_or names k c.name ≡ c.name =
    get_or-map (λ s. s.name) customers k c c.name (omega arith) ∙ ap (λ s. s.name) (sym (here ∙ ap (λ j. get_or customers j c) place)) in
    drop_more names k c.name (let size = length-map customers (λ s. s.name) in omega (arith, size))
    ∙ (ap (λ x. x ∷ drop (k + 1) names) is ∙ ap (λ j. c.name ∷ drop j names) next)

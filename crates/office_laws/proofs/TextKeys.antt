-- Rows whose key is two texts, as a customer's name and an order's.
use Rattle.std.proofs.Common.{◌≡◌, ◌∷◌, ◌&&◌, Ordering}
use Rattle.text_core.proofs.Kit.{ℕ, Bool, true, List, [], Equal, refl, bytes_eq, AllByRecursion, and_parts, ordering_then, nat_list_cmp_total, same_text}
use Rattle.text_core.proofs.Kit.{sym, ap, ◌∙◌, subst, tied_itself, false, None, find, is_some}
use Rattle.office_laws.proofs.Types.{OfCustomer}
use Rattle.office_tables.specs.Prelude.{is_of, text_cmp, with_row}
use Rattle.office_tables.proofs.Finding.{other_placed}
use Rattle.office_tables.proofs.Places.{same_place}
use Rattle.office_rules.proofs.Ties.{first_equal, second_equal}
use Rattle.office_laws.proofs.Placed.{others_fail}

-- the first text of most keys
abbrev pub customer_of : {A : Type 0} → OfCustomer A → List ℕ
customer_of o = o.customer

-- rows of one customer stand in the order of their own texts
pub own_texts_agree : {A : Type 0} (text : A → List ℕ) (c : List ℕ) (a b : OfCustomer A) → is_of c a ≡ true → is_of c b ≡ true
    → ordering_then (text_cmp a.customer b.customer) (text_cmp (text a.row) (text b.row)) ≡ text_cmp (text a.row) (text b.row)
own_texts_agree text c a b p q =
    let same : b.customer ≡ a.customer = sym (same_text c b.customer q) ∙ same_text c a.customer p in
    let tied : text_cmp a.customer b.customer ≡ Equal =
    subst (λ d. text_cmp a.customer d ≡ Equal) (sym same) (tied_itself nat_list_cmp_total a.customer) in
    ap (λ r. ordering_then r (text_cmp (text a.row) (text b.row))) tied

module _ {A : Type 0} (one two : A → List ℕ) where
  abbrev has_texts : List ℕ → List ℕ → A → Bool
  has_texts first second x = bytes_eq first (one x) && bytes_eq second (two x)

  abbrev texts_cmp : A → A → Ordering
  texts_cmp x y = ordering_then (text_cmp (one x) (one y)) (text_cmp (two x) (two y))

  -- a row that takes the place of another has its texts
  same_key : (first second : List ℕ) (x y : A) → texts_cmp x y ≡ Equal
      → has_texts first second y ≡ true → has_texts first second x ≡ true
  same_key first second x y same passes =
      let one_same : one x ≡ one y = same_place (one x) (one y) (first_equal _ _ same) in
      let two_same : two x ≡ two y = same_place (two x) (two y) (second_equal _ _ same) in
      rw (one_same, two_same) passes

  pub each_same : (first second : List ℕ) (x : A) (rows : List A)
      → AllByRecursion (λ y. texts_cmp x y ≡ Equal → has_texts first second y ≡ true → has_texts first second x ≡ true) rows
  each_same first second x [] = tt
  each_same first second x (y ∷ ys) = (same_key first second x y, each_same first second x ys)

  pub each_first : (x : A) (rows : List A) → AllByRecursion (λ y. texts_cmp x y ≡ Equal → one x ≡ one y) rows
  each_first x [] = tt
  each_first x (y ∷ ys) = ((λ same. same_place (one x) (one y) (first_equal _ _ same)), each_first x ys)

  -- a row takes the place of one that has its texts
  pub tied_key : (x y : A) → has_texts (one x) (two x) y ≡ true → texts_cmp x y ≡ Equal
  tied_key x y its =
      let parts = and_parts (bytes_eq (one x) (one y)) (bytes_eq (two x) (two y)) its in
      let one_same : one x ≡ one y = same_text (one x) (one y) parts.0 in
      let two_same : two x ≡ two y = same_text (two x) (two y) parts.1 in
      rw (← one_same, ← two_same, tied_itself nat_list_cmp_total (one x), tied_itself nat_list_cmp_total (two x)) refl

  pub each_tied : (x : A) (rows : List A)
      → AllByRecursion (λ y. has_texts (one x) (two x) y ≡ true → texts_cmp x y ≡ Equal) rows
  each_tied x [] = tt
  each_tied x (y ∷ ys) = (tied_key x y, each_tied x ys)

  -- where a row takes its place under texts that none had, each other is found as before
  pub found_still : (x : A) (rows : List A) → find (has_texts (one x) (two x)) rows ≡ None → (first second : List ℕ)
      → is_some (find (has_texts first second) rows) ≡ true
      → find (has_texts first second) (with_row texts_cmp x rows) ≡ find (has_texts first second) rows
  found_still x rows new first second there =
      other_placed (has_texts first second) texts_cmp x rows differs
      (others_fail texts_cmp x (has_texts first second) rows differs (each_same first second x rows))
    where
      differs : has_texts first second x ≡ false
      differs = elim (has_texts first second x) as (λ b. has_texts first second x ≡ b → b ≡ false) [
        | true ↦ λ its.
            let parts = and_parts (bytes_eq first (one x)) (bytes_eq second (two x)) its in
            let one_is : first ≡ one x = same_text first (one x) parts.0 in
            let two_is : second ≡ two x = same_text second (two x) parts.1 in
            let none : find (has_texts first second) rows ≡ None = rw (one_is, two_is) new in
            cc (none, there)
        | false ↦ λ _. refl
      ] refl

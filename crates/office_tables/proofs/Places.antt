-- The places of an order, counted device by device, and the key under which they are counted.
use mathlib.Core.Path.{fun_ext}
use Rattle.std.proofs.Common.{◌≡◌, ◌+◌, ◌∷◌, Ordering, ◌&&◌}
use Rattle.text_core.proofs.Kit.{◌∙◌, ℕ, arith, true, false, Bool, cond, List, [], Option, Some, None, Less, Equal, Greater, refl, ap, AllByRecursion, bytes_eq}
use Rattle.text_core.proofs.Kit.{filter, find, map, not, is_at, IsTotalOrder, texts_ties, is_eq, match_ordering, ordering_then, bytes_eq-Decides}
use Rattle.text_core.proofs.Kit.{nat_list_eq_equiv, same_text, text_itself, and_from}
use Rattle.office_tables.specs.declared.rows.OfCustomer.{OfCustomer}
use Rattle.office_tables.specs.declared.rows.Device.{Device}
use Rattle.office_tables.specs.Prelude.{places_taken, takes_place, state_row, place_of_device, text_pair_cmp, is_device, is_of, rows_of, with_row, text_cmp}
use Rattle.office_tables.specs.Prelude.{IsAscending}
use Rattle.office_tables.proofs.Placing.{all_map}

-- keys of two parts are equal where both parts are
pub both_equal : (a b : Ordering) → is_eq (ordering_then a b) ≡ (is_eq a && is_eq b)
both_equal Less b = refl
both_equal Equal b = refl
both_equal Greater b = refl

-- texts of equal place are one
pub same_place : (a b : List ℕ) → text_cmp a b ≡ Equal → a ≡ b
same_place a b e = same_text a b (texts_ties a b ∙ ap is_eq e)

pub same_both_ways : (a b : List ℕ) → bytes_eq a b ≡ bytes_eq b a
same_both_ways a b = nat_list_eq_equiv.symm a b

-- a row has a device's key where it is the customer's device of the chip
pub same_device : (customer chip : List ℕ) → (λ (d : OfCustomer Device). is_eq (ordering_then (text_cmp customer d.customer) (text_cmp chip d.row.chip)))
    ≡ is_device customer chip
same_device customer chip =
    fun_ext (λ d. both_equal (text_cmp customer d.customer) (text_cmp chip d.row.chip) ∙ rw (texts_ties customer d.customer, texts_ties chip d.row.chip) refl)

-- the device of a chip is the row's own
pub own_device : (d : OfCustomer Device) → is_device d.customer d.row.chip d ≡ true
own_device d = and_from _ _ (text_itself d.customer d.customer refl) (text_itself d.row.chip d.row.chip refl)

-- the first row with a device's key
pub find_device : (customer chip : List ℕ) (rows : List (OfCustomer Device)) → find (λ d.
    is_eq (ordering_then (text_cmp customer d.customer) (text_cmp chip d.row.chip))) rows ≡ find (is_device customer chip) rows
find_device customer chip rows = ap (λ (test : OfCustomer Device → Bool). find test rows) (same_device customer chip)

-- a key of two texts is found by both
pub at_key : (customer order c o : List ℕ) → is_at (text_pair_cmp (customer, order)) (c, o) ≡ (bytes_eq c customer && bytes_eq o order)
at_key customer order c o =
    both_equal (text_cmp customer c) (text_cmp order o)
    ∙ rw (← (texts_ties customer c), ← (texts_ties order o), same_both_ways c customer, same_both_ways o order) refl

-- the order of a device stands at its key
pub at_order : (d : OfCustomer Device) (customer order : List ℕ) → is_at (text_pair_cmp (d.customer, d.row.order)) (customer, order)
    ≡ (is_of customer d && bytes_eq order d.row.order)
at_order d customer order = at_key d.customer d.row.order customer order

-- one that isn't given up takes one of its order
pub takes_its_place : (d : OfCustomer Device) → (state_row d.row.state).is_given_up ≡ false → place_of_device d.customer d.row.order d ≡ 1
takes_its_place d stays = rw (stays, (bytes_eq-Decides d.customer d.customer).1 refl, (bytes_eq-Decides d.row.order d.row.order).1 refl) refl

none_if : (of at up : Bool) → (of && at) ≡ false → ◌≡◌ {A = ℕ} (cond (of && (at && up)) 1 0) 0
none_if true true up is = cc
none_if true false up is = refl
none_if false at up is = refl

-- a device takes no place of another order
pub takes_no_other : (d : OfCustomer Device) (customer order : List ℕ)
    → (is_of customer d && bytes_eq order d.row.order) ≡ false
    → place_of_device customer order d ≡ 0
takes_no_other d customer order other = none_if (is_of customer d) (bytes_eq order d.row.order) (not ((state_row d.row.state).is_given_up)) other

-- how many devices take a place of a customer's order
abbrev pub places : List ℕ → List ℕ → List (OfCustomer Device) → ℕ
places customer order rows = places_taken order (rows_of customer rows)

one : (is takes : Bool) (d : Device) (order : List ℕ) (later : List (OfCustomer Device)) (customer : List ℕ) → takes_place order d ≡ takes
    → places_taken order (map (λ (o : OfCustomer Device). o.row) (cond is (record { customer = customer; row = d } ∷ later) later))
    ≡ cond (is && takes) 1 0 + places_taken order (map (λ (o : OfCustomer Device). o.row) later)
one true true d order later customer e = rw e (omega arith)
one true false d order later customer e = rw e (omega arith)
one false takes d order later customer e = omega arith

-- the first device and the others
pub first_and_others : (customer order : List ℕ) (d : OfCustomer Device) (rows : List (OfCustomer Device))
    → places customer order (d ∷ rows) ≡ place_of_device customer order d + places customer order rows
first_and_others customer order d rows = one (is_of customer d) (takes_place order d.row) d.row order (filter (is_of customer) rows) d.customer refl

none_after : {A : Type 0} (cmp : A → A → Ordering) (x : A) (ys : List A) → AllByRecursion (λ y. cmp x y ≡ Less) ys → find (λ y. is_eq (cmp x y)) ys ≡ None
none_after cmp x [] all = refl
none_after cmp x (y ∷ ys) all = rw all.0 (none_after cmp x ys all.1)

module _ (customer order : List ℕ) where
  -- what a device takes that may be there
  abbrev pub taken_by : Option (OfCustomer Device) → ℕ
  taken_by None = 0
  taken_by (Some d) = place_of_device customer order d

  -- a device is placed, and the one with its key is gone
  pub places_put : (cmp : OfCustomer Device → OfCustomer Device → Ordering) → IsTotalOrder cmp
      → (d : OfCustomer Device) (rows : List (OfCustomer Device)) → IsAscending cmp rows
      → places customer order (with_row cmp d rows) + taken_by (find (λ y. is_eq (cmp d y)) rows)
      ≡ places customer order rows + place_of_device customer order d
  places_put cmp total d [] o = let split = first_and_others customer order d [] in omega (arith, split)
  places_put cmp total d (y ∷ ys) o =
      elim (cmp d y) as (λ r. cmp d y ≡ r → places customer order (match_ordering r (d ∷ y ∷ ys) (d ∷ ys) (y ∷ with_row cmp d ys)) + taken_by
      (cond (is_eq r) (Some y) (find (λ z. is_eq (cmp d z)) ys))
      ≡ places customer order (y ∷ ys) + place_of_device customer order d) [
        | Less ↦ λ e.
            let none = none_after cmp d ys (all_map (λ z. cmp y z ≡ Less) (λ z. cmp d z ≡ Less) (λ z l. total.trans d y z e l) ys o.0) in
            let split = first_and_others customer order d (y ∷ ys) in
            rw none (omega (arith, split))
        | Equal ↦ λ e.
            let split = first_and_others customer order d ys in
            let was = first_and_others customer order y ys in
            omega (arith, split, was)
        | Greater ↦ λ e.
            let split = first_and_others customer order y (with_row cmp d ys) in
            let was = first_and_others customer order y ys in
            let later = places_put cmp total d ys o.1 in
            omega (arith, split, was, later)
      ] refl

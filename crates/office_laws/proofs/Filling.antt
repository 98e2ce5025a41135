-- No order gets more devices than it is for, where a row takes its place in the tables.
use Rattle.std.proofs.Common.{◌≡◌, ◌≤◌, ◌<◌, ◌+◌, ◌∷◌, ◌&&◌, if◌then◌else◌}
use Rattle.text_core.proofs.Kit.{◌∙◌, ℕ, arith, Bool, true, false, List, [], Option, Some, None, refl, sym, ap, subst, bytes_eq, find, not}
use Rattle.text_core.proofs.Kit.{is_some, IfSome, AllByRecursion, and_parts, same_text}
use Rattle.office_laws.proofs.Types.{Device, Order, Link, OfCustomer}
use Rattle.office_tables.specs.Prelude.{Tables, device_at, device_cmp, is_of, is_order, order_at, place_of_device, state_row, with_device}
use Rattle.office_tables.specs.Prelude.{with_order, with_row, IsAscending}
use Rattle.office_tables.proofs.Places.{find_device, first_and_others, places, places_put, taken_by, takes_no_other}
use Rattle.office_tables.proofs.TotalOrders.{device_total}
use Rattle.office_laws.specs.Prelude.{AreWithinQuantities, IsReferred}
use Rattle.office_laws.proofs.TextKeys.{customer_of, found_still}

-- no more devices than an order is for
abbrev IsWithin : ℕ → Option (OfCustomer Order) → Type 0
IsWithin taken found = IfSome found (λ o. taken ≤ o.row.range.quantity)

fewer : (taken left : ℕ) (found : Option (OfCustomer Order)) → left ≤ taken → IsWithin taken found
    → IsWithin left found
fewer taken left None less within = tt
fewer taken left (Some o) less within = omega (arith, less, within)

none_within : (taken : ℕ) (found : Option (OfCustomer Order)) → taken ≡ 0 → IsWithin taken found
none_within taken None none = tt
none_within taken (Some o) none = omega (arith, none)

one_more : (before after place : ℕ) (found : Option (OfCustomer Order)) → after ≡ before + place → place ≤ 1
    → ((o : OfCustomer Order) → found ≡ Some o → before < o.row.range.quantity) → IsWithin after found
one_more before after place None put one room = tt
one_more before after place (Some o) put one room =
    let left : before < o.row.range.quantity = room o refl in
    omega (arith, put, one, left)

-- where an order is missing no device takes a place of it
no_places : (orders : List (OfCustomer Order)) (links : List (OfCustomer Link)) (customer name : List ℕ)
    → find (is_order customer name) orders ≡ None → (devices : List (OfCustomer Device))
    → AllByRecursion (IsReferred orders links) devices → places customer name devices ≡ 0
no_places orders links customer name none [] all = refl
no_places orders links customer name none (d ∷ ds) all =
    let later : places customer name ds ≡ 0 = no_places orders links customer name none ds all.1 in
    let split = first_and_others customer name d ds in
    let first : place_of_device customer name d ≡ 0 = takes_no_other d customer name of_another in
    omega (arith, split, first, later)
  where
    of_another : (is_of customer d && bytes_eq name d.row.order) ≡ false
    of_another =
        elim (is_of customer d && bytes_eq name d.row.order) as
        (λ b. (is_of customer d && bytes_eq name d.row.order) ≡ b → b ≡ false) [
          | true ↦ λ its.
              let parts = and_parts (bytes_eq customer d.customer) (bytes_eq name d.row.order) its in
              let owner : customer ≡ d.customer = same_text customer d.customer parts.0 in
              let order : name ≡ d.row.order = same_text name d.row.order parts.1 in
              let missing : find (is_order d.customer d.row.order) orders ≡ None = rw (← owner, ← order) none in
              let there : is_some (find (is_order d.customer d.row.order) orders) ≡ true = all.0.order in
              cc (missing, there)
          | false ↦ λ _. refl
        ] refl

-- a new order has no device yet, and the others have those that they had
pub filled_by_order : (t : Tables) (o : OfCustomer Order) → order_at o.customer o.row.name t ≡ None
    → AllByRecursion (IsReferred t.orders t.links) t.devices → AreWithinQuantities t → AreWithinQuantities (with_order o t)
filled_by_order t o new referred within customer name = by (order_at customer name t) refl
  where
    by : (found : Option (OfCustomer Order)) → order_at customer name t ≡ found
        → IsWithin (places customer name t.devices) (order_at customer name (with_order o t))
    by None is =
        none_within (places customer name t.devices) (order_at customer name (with_order o t))
        (no_places t.orders t.links customer name is t.devices referred)
    by (Some old) is =
        let kept : order_at customer name (with_order o t) ≡ Some old =
        found_still customer_of (λ (o : OfCustomer Order). o.row.name) o t.orders new customer name (ap is_some is) ∙ is in
        subst (IsWithin (places customer name t.devices)) (is ∙ sym kept) (within customer name)

at_most_one : (b : Bool) → (if b then 1 else 0) ≤ 1
at_most_one true = omega arith
at_most_one false = omega arith

-- what has left its order takes no place of it
no_more : (of at up was : Bool) → (was ≡ true → up ≡ true)
    → (if of && (at && not up) then 1 else 0) ≤ (if of && (at && not was) then 1 else 0)
no_more false at up was stays = omega arith
no_more true false up was stays = omega arith
no_more true true true was stays = omega arith
no_more true true false false stays = omega arith
no_more true true false true stays = let up : false ≡ true = stays refl in cc

-- a device in its place
module _ (t : Tables) (ascending : IsAscending device_cmp t.devices) (d : OfCustomer Device) where
  -- how many take a place of an order before, and with it
  abbrev was : List ℕ → List ℕ → ℕ
  was customer name = places customer name t.devices

  abbrev now : List ℕ → List ℕ → ℕ
  now customer name = places customer name (with_row device_cmp d t.devices)

  -- the order of this name, if there is one, isn't full
  abbrev HasPlace : List ℕ → List ℕ → Type 0
  HasPlace customer name = (o : OfCustomer Order) → order_at customer name t ≡ Some o → was customer name < o.row.range.quantity

  counted : (customer name : List ℕ) (found : Option (OfCustomer Device)) → device_at d.customer d.row.chip t ≡ found
      → now customer name + taken_by customer name found ≡ was customer name + place_of_device customer name d
  counted customer name found is =
      subst (λ found. now customer name + taken_by customer name found ≡ was customer name + place_of_device customer name d)
      (find_device d.customer d.row.chip t.devices ∙ is)
      (places_put customer name device_cmp device_total d t.devices ascending)

  -- one that was there, of the same order, which it hasn't come back to
  pub filled_by_step : (old : OfCustomer Device) → device_at d.customer d.row.chip t ≡ Some old
      → d.customer ≡ old.customer → d.row.order ≡ old.row.order
      → ((state_row old.row.state).is_given_up ≡ true → (state_row d.row.state).is_given_up ≡ true)
      → AreWithinQuantities t → AreWithinQuantities (with_device d t)
  filled_by_step old there owner order stays within customer name =
      let put = counted customer name (Some old) there in
      let up = (state_row d.row.state).is_given_up in
      let less : place_of_device customer name d ≤ place_of_device customer name old =
      subst (λ c. (if bytes_eq customer c && (bytes_eq name d.row.order && not up) then 1 else 0)
      ≤ place_of_device customer name old) (sym owner)
      (subst (λ n. (if bytes_eq customer old.customer && (bytes_eq name n && not up) then 1 else 0)
      ≤ place_of_device customer name old) (sym order)
      (no_more (bytes_eq customer old.customer) (bytes_eq name old.row.order) up (state_row old.row.state).is_given_up stays)) in
      fewer (was customer name) (now customer name) (order_at customer name t) (omega (arith, put, less)) (within customer name)

  -- a new one, of an order that isn't full
  pub filled_by_new : device_at d.customer d.row.chip t ≡ None
      → ((o : OfCustomer Order) → order_at d.customer d.row.order t ≡ Some o
      → places d.customer d.row.order t.devices < o.row.range.quantity)
      → AreWithinQuantities t → AreWithinQuantities (with_device d t)
  filled_by_new new room within customer name =
      elim (is_of customer d && bytes_eq name d.row.order) as
      (λ b. (is_of customer d && bytes_eq name d.row.order) ≡ b → IsWithin (now customer name) (order_at customer name t)) [
        | true ↦ λ its.
            let parts = and_parts (bytes_eq customer d.customer) (bytes_eq name d.row.order) its in
            let owner : d.customer ≡ customer = sym (same_text customer d.customer parts.0) in
            let order : d.row.order ≡ name = sym (same_text name d.row.order parts.1) in
            one_more (was customer name) (now customer name) (place_of_device customer name d) (order_at customer name t)
            (omega (arith, put)) (at_most_one (is_of customer d && (bytes_eq name d.row.order && not (state_row d.row.state).is_given_up)))
            (subst (λ (c : List ℕ). HasPlace c name) owner (subst (λ (n : List ℕ). HasPlace d.customer n) order room))
        | false ↦ λ other.
            let none : place_of_device customer name d ≡ 0 = takes_no_other d customer name other in
            fewer (was customer name) (now customer name) (order_at customer name t) (omega (arith, put, none)) (within customer name)
      ] refl
    where
      put : now customer name + 0 ≡ was customer name + place_of_device customer name d
      put = counted customer name None new

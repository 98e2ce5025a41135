-- An order's new cursor keeps the tables sound, and the order as it is without it.
use Rattle.std.proofs.Common.{◌≡◌, ◌≤◌, ◌+◌, ◌∷◌}
use Rattle.text_core.proofs.Kit.{ℕ, Bool, true, false, cond, List, [], map, Option, Some, None, Equal, Greater, Less, refl, sym, ap, ◌∙◌, subst, filter, find}
use Rattle.text_core.proofs.Kit.{arith, is_some, IfSome, IsSomeAnd, AllByRecursion, option_map, ordering_reverse, tied_itself}
use Rattle.site_core.specs.Prelude.{Ownership}
use Rattle.office_laws.proofs.Types.{Given, Order, OfCustomer, Device}
use Rattle.office_tables.specs.Prelude.{Tables, is_device, is_of, is_order, order_at, order_cmp, rows_of, with_row, with_cursor, with_cursor_of, with_order}
use Rattle.office_tables.specs.Prelude.{IsAscending, places_taken}
use Rattle.office_tables.proofs.TotalOrders.{order_total}
use Rattle.office_rules.proofs.Refusing.{is_some_map}
use Rattle.office_laws.specs.Prelude.{Grows, AreDisjoint, IsInPool, IsOrder, IsSound, IsIssuedBelow, IsOfDevice, IsOfOrder, IsRecordOf}
use Rattle.office_rules.specs.Prelude.{at_first}
use Rattle.office_laws.proofs.Addresses.{EachApart}
use Rattle.office_laws.proofs.Growing.{OrderStays}
use Rattle.office_laws.proofs.Readings.{find_holds, find_map}
use Rattle.office_laws.proofs.SoundRows.{order_placed}

-- an order's row without its cursor
abbrev pub row_at_first : OfCustomer Order → OfCustomer Order
row_at_first o = record { customer = o.customer; row = at_first o.row }

-- the row with another cursor
abbrev pub moved : ℕ → OfCustomer Order → OfCustomer Order
moved n o = record { customer = o.customer; row = record o.row { cursor = n } }

-- rows of equal orders, wherever their cursors stand
abbrev pub AreSame : List (OfCustomer Order) → List (OfCustomer Order) → Type 0
AreSame xs ys = map row_at_first xs ≡ map row_at_first ys

-- an order of the table takes its own place with another cursor
pub moved_same : (p : OfCustomer Order → Bool) (o : OfCustomer Order) (n : ℕ) (rows : List (OfCustomer Order))
    → IsAscending order_cmp rows → find p rows ≡ Some o
    → AreSame (with_row order_cmp (moved n o) rows) rows
moved_same p o n [] order e = cc
moved_same p o n (y ∷ ys) order e =
    elim (p y) as (λ b. cond b (Some y) (find p ys) ≡ Some o
    → AreSame (with_row order_cmp (moved n o) (y ∷ ys)) (y ∷ ys)) [
      | true ↦ λ here.
          let same : y ≡ o = cc in
          let tied : order_cmp (moved n o) y ≡ Equal =
          subst (λ (z : OfCustomer Order). order_cmp (moved n o) z ≡ Equal) (sym same)
          (tied_itself order_total o) in
          rw tied (λ i. row_at_first (sym same i) ∷ map row_at_first ys)
      | false ↦ λ later.
          let less : order_cmp y (moved n o) ≡ Less =
          (find_holds (λ z. order_cmp y z ≡ Less) p ys o order.0 later).0 in
          let greater : order_cmp (moved n o) y ≡ Greater =
          order_total.antisymm (moved n o) y ∙ ap ordering_reverse less in
          rw greater (ap (λ zs. row_at_first y ∷ zs) (moved_same p o n ys order.1 later))
    ] e

-- an order stays where its cursor alone moves
order_moved : (old mid new : Option (OfCustomer Order))
    → option_map row_at_first new ≡ option_map row_at_first mid → OrderStays old mid
    → OrderStays old new
order_moved None mid new same stays = tt
order_moved (Some o) None new same stays = absurd stays
order_moved (Some o) (Some x) None same stays = cc
order_moved (Some o) (Some x) (Some y) same stays =
    let rows : row_at_first y ≡ row_at_first x = cc in
    ap (λ (r : OfCustomer Order). r.row) rows ∙ stays

-- an order is for as many devices where its cursor alone moves
filled_again : (taken : ℕ) (was new : Option (OfCustomer Order))
    → option_map row_at_first new ≡ option_map row_at_first was
    → IfSome was (λ o. taken ≤ o.row.range.quantity) → IfSome new (λ o. taken ≤ o.row.range.quantity)
filled_again taken was None same within = tt
filled_again taken None (Some y) same within = cc
filled_again taken (Some x) (Some y) same within =
    let rows : row_at_first y ≡ row_at_first x = cc in
    let quantity : y.row.range.quantity ≡ x.row.range.quantity =
    ap (λ (r : OfCustomer Order). r.row.range.quantity) rows in
    omega (arith, quantity, within)

-- what holds of each row without its cursor
all_at_first : (P : OfCustomer Order → Type 0) (rows : List (OfCustomer Order))
    → AllByRecursion (λ o. P (row_at_first o)) rows → AllByRecursion P (map row_at_first rows)
all_at_first P [] all = tt
all_at_first P (o ∷ os) all = (all.0, all_at_first P os all.1)

each_at_first : (P : OfCustomer Order → Type 0) (rows : List (OfCustomer Order))
    → AllByRecursion P (map row_at_first rows) → AllByRecursion (λ o.
    P (row_at_first o)) rows
each_at_first P [] all = tt
each_at_first P (o ∷ os) all = (all.0, each_at_first P os all.1)

-- an order's addresses are its own wherever its cursor stands
apart_at_first : (rows : List (OfCustomer Order)) → EachApart rows → EachApart (map row_at_first rows)
apart_at_first [] apart = tt
apart_at_first (o ∷ os) apart =
    (all_at_first (λ other. AreDisjoint o.row other.row) os apart.0, apart_at_first os apart.1)

apart_again : (rows : List (OfCustomer Order)) → EachApart (map row_at_first rows) → EachApart rows
apart_again [] apart = tt
apart_again (o ∷ os) apart =
    (each_at_first (λ other. AreDisjoint o.row other.row) os apart.0, apart_again os apart.1)

-- a customer's orders without their cursors
own_at_first : (c : List ℕ) (rows : List (OfCustomer Order))
    → map at_first (rows_of c rows) ≡ rows_of c (map row_at_first rows)
own_at_first c [] = refl
own_at_first c (y ∷ ys) =
    elim (is_of c y) as
    (λ b. map at_first (map (λ o. o.row) (cond b (y ∷ filter (is_of c) ys) (filter (is_of c) ys)))
    ≡ map (λ o. o.row) (cond b (row_at_first y ∷ filter (is_of c) (map row_at_first ys))
    (filter (is_of c) (map row_at_first ys)))) [
      | true ↦ ap (λ os. at_first y.row ∷ os) (own_at_first c ys)
      | false ↦ own_at_first c ys
    ]

-- two tables of equal orders
module _ (before after : List (OfCustomer Order)) (same : AreSame after before) where
  found_same : (customer name : List ℕ)
      → option_map row_at_first (find (is_order customer name) after)
      ≡ option_map row_at_first (find (is_order customer name) before)
  found_same customer name =
      sym (find_map row_at_first (is_order customer name) after)
      ∙ (ap (find (is_order customer name)) same ∙ find_map row_at_first
      (is_order customer name) before)

  apart_same : EachApart before → EachApart after
  apart_same apart = apart_again after (subst EachApart (sym same) (apart_at_first before apart))

  pub own_same : (c : List ℕ) → map at_first (rows_of c after) ≡ map at_first (rows_of c before)
  own_same c = own_at_first c after ∙ (ap (rows_of c) same ∙ sym (own_at_first c before))

  there_same : (customer name : List ℕ) → is_some (find (is_order customer name) before) ≡ true
      → is_some (find (is_order customer name) after) ≡ true
  there_same customer name there =
      sym (is_some_map row_at_first (find (is_order customer name) after))
      ∙ (ap is_some (found_same customer name)
      ∙ (is_some_map row_at_first (find (is_order customer name) before) ∙ there))

  -- a record is that of its order still
  record_same : (g : OfCustomer Given) (devices : List (OfCustomer Device)) (chip : Option (List ℕ))
      → IsRecordOf before devices g chip → IsRecordOf after devices g chip
  record_same g devices None is = is
  record_same g devices (Some chip) is = by (find (is_device g.customer chip) devices) is
    where
      without : (found : Option (OfCustomer Order)) → IsSomeAnd found (λ o. IsOfOrder o.row g.row)
          → IsSomeAnd (option_map row_at_first found) (λ o.
          IsOfOrder o.row g.row)
      without None is = is
      without (Some o) is = record {
        issuer = is.issuer;
        number = is.number;
        is_number = is.is_number;
        serial = is.serial;
        mac = is.mac;
        not_before = is.not_before;
      }

      again : (found : Option (OfCustomer Order))
          → IsSomeAnd (option_map row_at_first found) (λ o. IsOfOrder o.row g.row)
          → IsSomeAnd found (λ o.
          IsOfOrder o.row g.row)
      again None is = is
      again (Some o) is = record {
        issuer = is.issuer;
        number = is.number;
        is_number = is.is_number;
        serial = is.serial;
        mac = is.mac;
        not_before = is.not_before;
      }

      by : (found : Option (OfCustomer Device)) → IsSomeAnd found (IsOfDevice before g)
          → IsSomeAnd found (IsOfDevice after g)
      by None is = is
      by (Some d) is = (
        is.0,
        again (find (is_order g.customer d.row.order) after)
            (subst (λ (found : Option (OfCustomer Order)). IsSomeAnd found (λ o. IsOfOrder o.row g.row))
            (sym (found_same g.customer d.row.order))
            (without (find (is_order g.customer d.row.order) before) is.1)),
      )

module _ {owners : Ownership} {t : Tables} (sound : IsSound owners t) (c name : List ℕ)
    (o : OfCustomer Order) (n : ℕ) (there : order_at c name t ≡ Some o) where
  -- the order is placed with its new cursor
  placed_there : with_cursor (record { customer = c; row = record { order = name; number = n } }) t
      ≡ with_order (moved n o) t
  placed_there = ap (λ found. with_cursor_of found n t) there

  orders_same : AreSame (with_row order_cmp (moved n o) t.orders) t.orders
  orders_same = moved_same (is_order c name) o n t.orders sound.orders.rows.ascending there

  holds : (P : OfCustomer Order → Type 0) → AllByRecursion P t.orders → P o
  holds P all = (find_holds P (is_order c name) t.orders o all there).0

  moved_terms : o.row.range.first ≤ n → n ≤ o.row.range.first + o.row.range.quantity
      → IsOrder (record o.row { cursor = n })
  moved_terms least largest =
      let terms = holds (λ o. IsOrder o.row) sound.orders.terms in
      record {
        range = terms.range;
        largest_quantity = terms.largest_quantity;
        largest_macs = terms.largest_macs;
        mac = terms.mac;
        least_cursor = least;
        largest_cursor = largest;
      }

  moved_sound : o.row.range.first ≤ n → n ≤ o.row.range.first + o.row.range.quantity
      → IsIssuedBelow t.given (moved n o) → IsSound owners (with_order (moved n o) t)
  moved_sound least largest below =
      let later : List (OfCustomer Order) = with_row order_cmp (moved n o) t.orders in
      order_placed sound (moved n o)
      (holds (λ o. owners.issuer o.row.issuer ≡ Some o.customer) sound.orders.rows.owned)
      (moved_terms least largest) (holds (IsInPool owners) sound.orders.in_pools)
      (apart_same t.orders later orders_same sound.orders.apart)
      (λ g is. record_same t.orders later orders_same g t.devices g.row.chip is)
      (there_same t.orders later orders_same) below

  -- the tables stay sound, where every number below the new cursor is given
  pub cursor_sound : o.row.range.first ≤ n → n ≤ o.row.range.first + o.row.range.quantity
      → IsIssuedBelow t.given (record { customer = c; row = record o.row { cursor = n } })
      → IsSound owners (with_cursor (record {
        customer = c;
        row = record { order = name; number = n };
      }) t)
  cursor_sound least largest below =
      subst (IsSound owners) (sym placed_there) (moved_sound least largest below)

  -- nothing that was kept is lost by a new cursor
  pub cursor_grows : (before : Tables) → Grows before t
      → Grows before (with_cursor (record {
        customer = c;
        row = record { order = name; number = n };
      }) t)
  cursor_grows before grows =
      let kept : Grows before (with_order (moved n o) t) =
      record {
        devices = grows.devices;
        maps = grows.maps;
        orders =
            λ customer called. order_moved (order_at customer called before)
            (order_at customer called t) (order_at customer called (with_order (moved n o) t))
            (found_same t.orders (with_row order_cmp (moved n o) t.orders) orders_same customer
            called) (grows.orders customer called);
        given = grows.given;
        entries = grows.entries;
        places = λ within customer called. filled_again
            (places_taken called (rows_of customer t.devices)) (order_at customer called t)
            (order_at customer called (with_order (moved n o) t))
            (found_same t.orders (with_row order_cmp (moved n o) t.orders) orders_same customer
            called) (grows.places within customer called);
        ends = grows.ends;
      } in
      subst (Grows before) (sym placed_there) kept

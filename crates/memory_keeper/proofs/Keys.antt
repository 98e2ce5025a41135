-- The keys of seats, orders, maps, links and devices, and the tests of the tables.
use mathlib.Core.Path.{fun_ext}
use Rattle.std.proofs.Common.{◌≡◌, Ordering, ◌&&◌}
use Rattle.text_core.proofs.Kit.{ℕ, Bool, List, Less, Equal, Greater, refl, sym, ap, ◌∙◌, not, find, filter, nat_cmp, ordering_then, is_eq, is_le, is_lt}
use Rattle.text_core.proofs.Kit.{unsigned_tied, texts_ties}
use Rattle.office_tables.specs.declared.rows.OfCustomer.{OfCustomer}
use Rattle.office_tables.specs.declared.rows.SeatState.{SeatState}
use Rattle.office_tables.specs.declared.rows.Order.{Order}
use Rattle.office_tables.specs.declared.rows.MapRow.{MapRow}
use Rattle.office_tables.specs.declared.rows.Link.{Link}
use Rattle.office_tables.specs.declared.rows.Device.{Device}
use Rattle.office_tables.specs.Prelude.{is_seat, is_order, is_link, is_device, is_device_behind, is_of, has_id, text_cmp}
use Rattle.memory_keeper.specs.Prelude.{without}
use Rattle.office_tables.proofs.Places.{same_device}
pub use Rattle.office_tables.proofs.Places.{both_equal, find_device}

-- the first row with a seat's key
pub find_seat : (name : List ℕ) (rows : List (OfCustomer SeatState)) → find (λ s. is_eq (text_cmp name s.row.name)) rows ≡ find (is_seat name) rows
find_seat name rows = ap (λ (test : OfCustomer SeatState → Bool). find test rows) (fun_ext (λ s. sym (texts_ties name s.row.name)))

-- the first row with an order's key
pub find_order : (customer name : List ℕ) (rows : List (OfCustomer Order)) → find (λ o.
    is_eq (ordering_then (text_cmp customer o.customer) (text_cmp name o.row.name))) rows ≡ find (is_order customer name) rows
find_order customer name rows =
    ap (λ (test : OfCustomer Order → Bool). find test rows) (fun_ext (λ o.
    both_equal (text_cmp customer o.customer) (text_cmp name o.row.name) ∙ rw (texts_ties customer o.customer, texts_ties name o.row.name) refl))

-- the first row with a link's key
pub find_link : (customer digest : List ℕ) (rows : List (OfCustomer Link)) → find (λ l.
    is_eq (ordering_then (text_cmp customer l.customer) (text_cmp digest l.row.digest))) rows ≡ find (is_link customer digest) rows
find_link customer digest rows =
    ap (λ (test : OfCustomer Link → Bool). find test rows) (fun_ext (λ l.
    both_equal (text_cmp customer l.customer) (text_cmp digest l.row.digest) ∙ rw (texts_ties customer l.customer, texts_ties digest l.row.digest) refl))

-- the rows without the one that has a device's key
pub without_device : (customer chip : List ℕ) (rows : List (OfCustomer Device)) → without (λ d.
    is_eq (ordering_then (text_cmp customer d.customer) (text_cmp chip d.row.chip))) rows ≡ without (is_device customer chip) rows
without_device customer chip rows = ap (λ (test : OfCustomer Device → Bool). without test rows) (same_device customer chip)

-- a number is a map's where it compares equal
same_id : (id : ℕ) → (λ (m : MapRow). is_eq (nat_cmp id m.id)) ≡ has_id id
same_id id = fun_ext (λ m. unsigned_tied id m.id)

-- the first row with a map's number
pub find_map : (id : ℕ) (rows : List MapRow) → find (λ m. is_eq (nat_cmp id m.id)) rows ≡ find (has_id id) rows
find_map id rows = ap (λ (test : MapRow → Bool). find test rows) (same_id id)

-- the rows without the one that has a map's number
pub without_map : (id : ℕ) (rows : List MapRow) → without (λ m. is_eq (nat_cmp id m.id)) rows ≡ without (has_id id) rows
without_map id rows = ap (λ (test : MapRow → Bool). without test rows) (same_id id)

-- between the start and the end is what has the same customer
pub between : (a : Ordering) → (is_le (ordering_then a Less) && not (is_lt (ordering_then a Greater))) ≡ is_eq a
between Less = refl
between Equal = refl
between Greater = refl

-- the rows from the start of a customer's to their end
pub filter_customer : {A : Type 0} (customer : List ℕ) (rows : List (OfCustomer A)) → filter (λ o.
    is_le (ordering_then (text_cmp customer o.customer) Less) && not (is_lt (ordering_then (text_cmp customer o.customer) Greater))) rows
    ≡ filter (is_of customer) rows
filter_customer {A} customer rows =
    ap (λ (test : OfCustomer A → Bool). filter test rows) (fun_ext (λ o. between (text_cmp customer o.customer) ∙ sym (texts_ties customer o.customer)))

-- behind the start, up to the end, is what has the same customer
pub behind_start : (a : Ordering) → (is_lt (ordering_then a Less) && not (is_lt (ordering_then a Greater))) ≡ is_eq a
behind_start Less = refl
behind_start Equal = refl
behind_start Greater = refl

-- the rows behind the start of a customer's to their end
pub filter_behind_start : {A : Type 0} (customer : List ℕ) (rows : List (OfCustomer A)) → filter (λ o.
    is_lt (ordering_then (text_cmp customer o.customer) Less) && not (is_lt (ordering_then (text_cmp customer o.customer) Greater))) rows
    ≡ filter (is_of customer) rows
filter_behind_start {A} customer rows =
    ap (λ (test : OfCustomer A → Bool). filter test rows) (fun_ext (λ o. behind_start (text_cmp customer o.customer) ∙ sym (texts_ties customer o.customer)))

-- behind a device's key, up to the end of its customer's, are the customer's devices whose chips are greater
pub behind : (a b : Ordering) → (is_lt (ordering_then a b) && not (is_lt (ordering_then a Greater))) ≡ (is_eq a && is_lt b)
behind Less b = refl
behind Equal Less = refl
behind Equal Equal = refl
behind Equal Greater = refl
behind Greater b = refl

-- the rows behind a device's key up to the end of its customer's
pub filter_behind : (customer chip : List ℕ) (rows : List (OfCustomer Device)) → filter (λ d.
    is_lt (ordering_then (text_cmp customer d.customer) (text_cmp chip d.row.chip)) && not (is_lt (ordering_then (text_cmp customer d.customer) Greater))) rows
    ≡ filter (is_device_behind customer chip) rows
filter_behind customer chip rows =
    ap (λ (test : OfCustomer Device → Bool). filter test rows) (fun_ext (λ d.
    behind (text_cmp customer d.customer) (text_cmp chip d.row.chip) ∙ rw (texts_ties customer d.customer) refl))

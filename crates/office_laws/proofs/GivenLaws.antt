-- A new record of a serial number keeps the tables sound, and forgets nothing.
use Rattle.std.proofs.Common.{◌≡◌, ◌==◌, ◌∷◌}
use Rattle.text_core.proofs.Kit.{ℕ, arith, true, false, List, [], Option, Some, None, refl, sym, ◌∙◌, subst, bytes_eq, find, IfSome}
use Rattle.text_core.proofs.Kit.{ap, is_some, AllByRecursion, and_parts, and_from, nat_tests, same_text, text_itself}
use Rattle.site_core.specs.Prelude.{Ownership}
use Rattle.id_ranges.specs.Prelude.{no_end, serial_text}
use Rattle.office_laws.proofs.Types.{OfCustomer, Given, Order}
use Rattle.office_tables.specs.Prelude.{Tables, IsAddressFree, given_at, given_by_key, given_cmp, has_address, is_address, is_bound, is_serial_of, with_row}
use Rattle.office_tables.specs.Prelude.{with_given}
use Rattle.office_tables.proofs.Finding.{none_passes, still_there}
use Rattle.office_tables.proofs.Placing.{all_map, all_placed}
use Rattle.office_tables.proofs.TotalOrders.{given_total}
use Rattle.office_laws.specs.Prelude.{Grows, IsSound, IsIssuedBelow, IsRecordOf}
use Rattle.office_laws.proofs.Placed.{found_replaced, pairwise_placed}
use Rattle.office_laws.proofs.SoundRows.{owned_placed}
use Rattle.office_laws.proofs.TextKeys.{each_same, each_tied, found_still}

abbrev issuer_of : OfCustomer Given → List ℕ
issuer_of g = g.row.issuer

abbrev serial_of : OfCustomer Given → List ℕ
serial_of g = g.row.serial

-- the record that was added is found
pub given_found : (g : OfCustomer Given) (rows : List (OfCustomer Given))
    → find (is_serial_of g.row.issuer g.row.serial) (with_row given_cmp g rows) ≡ Some g
given_found g rows =
    found_replaced given_cmp g (is_serial_of g.row.issuer g.row.serial) rows
    (and_from _ _ (text_itself g.row.issuer g.row.issuer refl)
    (text_itself g.row.serial g.row.serial refl)) (each_tied issuer_of serial_of g rows)

-- a record that isn't bound to a key of another: the other isn't bound to its key
bound_turned : (g y : OfCustomer Given) → is_bound g.row.issuer g.row.key y ≡ false
    → is_bound y.row.issuer y.row.key g ≡ false
bound_turned g y fails =
    elim (is_bound y.row.issuer y.row.key g) as (λ b. is_bound y.row.issuer y.row.key g ≡ b
    → b ≡ false) [
      | true ↦ λ its.
          let parts =
          and_parts (bytes_eq y.row.issuer g.row.issuer) (bytes_eq y.row.key g.row.key) its in
          let owner : g.row.issuer ≡ y.row.issuer =
          sym (same_text y.row.issuer g.row.issuer parts.0) in
          let key : g.row.key ≡ y.row.key = sym (same_text y.row.key g.row.key parts.1) in
          let also : is_bound g.row.issuer g.row.key y ≡ true =
          and_from (bytes_eq g.row.issuer y.row.issuer) (bytes_eq g.row.key y.row.key)
          (text_itself g.row.issuer y.row.issuer owner)
          (text_itself g.row.key y.row.key key) in
          cc (also, fails)
      | false ↦ λ _. refl
    ] refl

-- the record hasn't this address
abbrev HasOther : Option ℕ → OfCustomer Given → Type 0
HasOther mac other = IfSome mac (λ its. has_address its other ≡ false)

-- a record that hasn't the address of another: the other hasn't its address
address_turned : (a b : OfCustomer Given) (of_a of_b : Option ℕ) → a.row.mac ≡ of_a → b.row.mac ≡ of_b
    → HasOther of_a b → HasOther of_b a
address_turned a b of_a None is_a is_b other = tt
address_turned a b None (Some mac) is_a is_b other = rw is_a refl
address_turned a b (Some first) (Some mac) is_a is_b other =
    let differs : (first == mac) ≡ false = subst (λ x. is_address first x ≡ false) is_b other in
    let turned : (mac == first) ≡ false = grind (arith, nat_tests, differs) in
    subst (λ x. is_address mac x ≡ false) (sym is_a) turned

-- where no record has the address, each has another
all_other : (mac : Option ℕ) (gs : List (OfCustomer Given)) → IsAddressFree mac gs
    → AllByRecursion (HasOther mac) gs
all_other (Some mac) gs free = none_passes (has_address mac) gs free
all_other None [] free = tt
all_other None (y ∷ ys) free = (tt, all_other None ys tt)

-- what is given below an order's cursor is given still
below_after : (g : OfCustomer Given) (gs : List (OfCustomer Given)) (o : OfCustomer Order) → IsIssuedBelow gs o
    → IsIssuedBelow (with_row given_cmp g gs) o
below_after g gs o is n least below =
    still_there (is_serial_of o.row.issuer (serial_text o.row.range n)) given_cmp g gs
    (each_same issuer_of serial_of o.row.issuer (serial_text o.row.range n) g gs) (is n least below)

-- a record of a serial number that nobody has, for a key that none has, with an address that none
-- has
module _ {owners : Ownership} {t : Tables} (sound : IsSound owners t) (g : OfCustomer Given) where
  pub given_sound : owners.issuer g.row.issuer ≡ Some g.customer
      → given_at g.row.issuer g.row.serial t ≡ None → given_by_key g.row.issuer g.row.key t ≡ None
      → IsAddressFree g.row.mac t.given → IsRecordOf t.orders t.devices g g.row.chip
      → IsSound owners (with_given g t)
  given_sound mine new unbound free is_record = record {
    seats = sound.seats;
    orders = sound.orders;
    given = record {
      rows = owned_placed sound.given.rows g mine given_total;
      keys_apart = pairwise_placed given_cmp g
          (λ g other. is_bound g.row.issuer g.row.key other ≡ false) (bound_turned g) t.given
          (none_passes (is_bound g.row.issuer g.row.key) t.given unbound) sound.given.keys_apart;
      addresses_apart = pairwise_placed given_cmp g (λ g other. HasOther g.row.mac other)
          (λ y. address_turned g y g.row.mac y.row.mac refl refl) t.given
          (all_other g.row.mac t.given free) sound.given.addresses_apart;
    };
    maps = sound.maps;
    devices = sound.devices;
    origins = all_placed (λ g. IsRecordOf t.orders t.devices g g.row.chip) given_cmp g t.given
        is_record sound.origins;
    cursors = all_map (IsIssuedBelow t.given) (IsIssuedBelow (with_row given_cmp g t.given))
        (below_after g t.given) t.orders sound.cursors;
    references = sound.references;
    ledgers = sound.ledgers;
  }

-- a record under a serial number that nobody has, after what kept all
pub given_grows : (before t : Tables) (g : OfCustomer Given)
    → given_at g.row.issuer g.row.serial t ≡ None → g.row.not_after ≡ no_end → Grows before t
    → Grows before (with_given g t)
given_grows before t g new no_end_of grows = record {
  devices = grows.devices;
  maps = grows.maps;
  orders = grows.orders;
  given = λ issuer serial. by issuer serial (given_at issuer serial before)
      (grows.given issuer serial);
  entries = grows.entries;
  places = grows.places;
  ends = λ none. all_placed (λ (g : OfCustomer Given). g.row.not_after ≡ no_end) given_cmp g t.given
      no_end_of (grows.ends none);
}
  where
    by : (issuer serial : List ℕ) (found : Option (OfCustomer Given))
        → IfSome found (λ old. given_at issuer serial t ≡ Some old) → IfSome found (λ old.
        given_at issuer serial (with_given g t) ≡ Some old)
    by issuer serial None is = tt
    by issuer serial (Some old) is =
        found_still issuer_of serial_of g t.given new issuer serial (ap is_some is) ∙ is

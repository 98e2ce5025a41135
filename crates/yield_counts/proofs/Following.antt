-- What writes make of the devices and of the given serial numbers.
use Rattle.std.proofs.Common.{◌≡◌, ◌<◌, ◌∷◌, ◌&&◌, ◌||◌, get_or}
use Rattle.text_core.proofs.Kit.{ℕ, zero, suc, false, List, [], Option, Some, None, refl, sym, ap, ◌∙◌, arith, filter_map, find, is_some}
use Rattle.text_core.proofs.Kit.{cons_option}
use Rattle.text_core.proofs.Kit.{bytes_eq, cases_Bool, inl, inr, take, length, subst, and_parts, bytes_eq-Decides, Equal}
use Rattle.text_core.proofs.Kit.{both_ways, is_eq, texts_ties}
use Rattle.office_tables.specs.declared.rows.OfCustomer.{OfCustomer}
use Rattle.office_tables.specs.declared.rows.Device.{Device}
use Rattle.office_tables.specs.declared.rows.Given.{Given}
use Rattle.office_tables.specs.declared.rows.Order.{Order}
use Rattle.office_tables.specs.declared.rows.Write.{Write}
use Rattle.office_tables.specs.declared.rows.Write.TheVariants.{PutSeat, AddOrder, SetCursor, AddMap, AddLink, AddDevice, PutDevice, AddGiven, AddEntry}
use Rattle.office_tables.specs.Prelude.{device_cmp, given_cmp, is_serial_of, order_at, with_cursor_of, with_row, CanWrite, IsFree, Tables, Writes}
use Rattle.office_tables.specs.Prelude.{text_cmp, Written}
use Rattle.office_tables.proofs.Finding.{found_placed, none_passes, other_placed}
use Rattle.office_tables.proofs.Placing.{all_map}
use Rattle.office_tables.proofs.Places.{both_equal, same_both_ways}
use Rattle.yield_counts.specs.Prelude.{has_issued_in, IsGivenToo}
use Rattle.yield_counts.specs.Changes.{put_of}

-- devices are put, one after another
abbrev pub put_each : List (OfCustomer Device) → List (OfCustomer Device) → List (OfCustomer Device)
put_each [] rows = rows
put_each (d ∷ ds) rows = put_each ds (with_row device_cmp d rows)

cursor_stays : (o : Option (OfCustomer Order)) (number : ℕ) (t : Tables) → ((with_cursor_of o number t).devices ≡ t.devices)
    × ((with_cursor_of o number t).given ≡ t.given)
cursor_stays None number t = (refl, refl)
cursor_stays (Some o) number t = (refl, refl)

abbrev devices_in : Tables → List (OfCustomer Device)
devices_in t = t.devices

by_write : (w : Write) (t after : Tables) (ds : List (OfCustomer Device)) → Writes w t after
    → put_each ds after.devices ≡ put_each (cons_option (put_of w) ds) t.devices
by_write (PutSeat s) t after ds is = ap (put_each ds) (ap devices_in is)
by_write (AddOrder o) t after ds is = ap (put_each ds) (ap devices_in is)
by_write (SetCursor c) t after ds is =
    ap (put_each ds) (ap devices_in is ∙ (cursor_stays (order_at c.customer c.row.order t) c.row.number t).0)
by_write (AddMap m) t after ds is = ap (put_each ds) (ap devices_in is.2)
by_write (AddLink l) t after ds is = ap (put_each ds) (ap devices_in is)
by_write (AddDevice d) t after ds is = ap (put_each ds) (ap devices_in is)
by_write (PutDevice d) t after ds is = ap (put_each ds) (ap devices_in is)
by_write (AddGiven g) t after ds is = ap (put_each ds) (ap devices_in is.1)
by_write (AddEntry e) t after ds is = ap (put_each ds) (ap devices_in is.2)

-- the devices behind a list of writes
pub by_writes : (ws : List Write) (t after : Tables) → Written ws t after → after.devices ≡ put_each (filter_map put_of ws) t.devices
by_writes [] t after is = ap devices_in is
by_writes (w ∷ ws) t after is = by_writes ws is.0 after is.2 ∙ by_write w t is.0 (filter_map put_of ws) is.1

abbrev given_in : Tables → List (OfCustomer Given)
given_in t = t.given

-- only a record that is added changes what is given
given_stays : (w : Write) → ((g : OfCustomer Given) → w ≡ AddGiven g → ⊥) → (t after : Tables) → Writes w t after → after.given ≡ t.given
given_stays (PutSeat s) none t after is = ap given_in is
given_stays (AddOrder o) none t after is = ap given_in is
given_stays (SetCursor c) none t after is = ap given_in is ∙ (cursor_stays (order_at c.customer c.row.order t) c.row.number t).1
given_stays (AddMap m) none t after is = ap given_in is.2
given_stays (AddLink l) none t after is = ap given_in is
given_stays (AddDevice d) none t after is = ap given_in is
given_stays (PutDevice d) none t after is = ap given_in is
given_stays (AddGiven g) none t after is = absurd (none g refl)
given_stays (AddEntry e) none t after is = ap given_in is.2

-- and then the same serial numbers are given
pub issued_stays : (w : Write) → ((g : OfCustomer Given) → w ≡ AddGiven g → ⊥) → (t after : Tables) → Writes w t after
    → has_issued_in after ≡ has_issued_in t
issued_stays w none t after is = ap (λ rows. λ issuer serial. is_some (find (is_serial_of issuer serial) rows)) (given_stays w none t after is)

-- a record that is added gives its serial number
pub issued_more : (g : OfCustomer Given) (t after : Tables) → IsFree (AddGiven g) t → Writes (AddGiven g) t after
    → IsGivenToo g.row.issuer g.row.serial (has_issued_in t) (has_issued_in after)
issued_more g t after free is = record {
  new = ap is_some free;
  follows = λ i s. ap (λ (x : Tables). has_issued_in x i s) is.1 ∙ elim (cases_Bool (is_serial_of i s g)) [
    | inl own ↦
        let parts = and_parts (bytes_eq i g.row.issuer) (bytes_eq s g.row.serial) own in
        let issuer = (bytes_eq-Decides i g.row.issuer).0 parts.0 in
        let serial = (bytes_eq-Decides s g.row.serial).0 parts.1 in
        let none = none_passes (is_serial_of i s) t.given (rw (issuer, serial) free) in
        ap is_some (found_placed (is_serial_of i s) given_cmp g t.given own none) ∙ sym (ap (λ b. b || has_issued_in t i s) (turned i s ∙ own))
    | inr other ↦
        let apart = all_map (λ y. is_serial_of g.row.issuer g.row.serial y ≡ false) (λ y. given_cmp g y ≡ Equal → is_serial_of i s y ≡ false)
        (λ y not e. absurd (both_ways (is_serial_of g.row.issuer g.row.serial y) not (sym (same_serial y) ∙ ap is_eq e)))
        t.given (none_passes (is_serial_of g.row.issuer g.row.serial) t.given free) in
        ap is_some (other_placed (is_serial_of i s) given_cmp g t.given other apart)
        ∙ sym (ap (λ b. b || has_issued_in t i s) (turned i s ∙ other))
  ];
}
  where
    turned : (i s : List ℕ) → (bytes_eq g.row.issuer i && bytes_eq g.row.serial s) ≡ is_serial_of i s g
    turned i s = rw (same_both_ways g.row.issuer i, same_both_ways g.row.serial s) refl

    same_serial : (y : OfCustomer Given) → is_eq (given_cmp g y) ≡ is_serial_of g.row.issuer g.row.serial y
    same_serial y = both_equal (text_cmp g.row.issuer y.row.issuer) (text_cmp g.row.serial y.row.serial)
        ∙ rw (texts_ties g.row.issuer y.row.issuer, texts_ties g.row.serial y.row.serial) refl

-- each write of a list finds its key free
pub free_at : (ws : List Write) (t : Tables) → CanWrite ws t → (i : ℕ) (d : Write) → i < length ws → (mid : Tables) → Written (take i ws) t mid
    → IsFree (get_or ws i d) mid
free_at [] t can i d within mid is = absurd (omega (arith, within))
free_at (w ∷ ws) t can zero d within mid is = subst (IsFree w) (sym is) can.0
free_at (w ∷ ws) t can (suc i) d within mid is = free_at ws is.0 (can.1 is.0 is.1) i d (omega (arith, within)) mid is.2

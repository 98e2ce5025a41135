-- An identity keeps the tables sound, and forgets nothing.
use Rattle.std.proofs.Common.{◌≡◌, ◌+◌, ◌≤◌, ◌<◌, ◌∙◌, ℕ, arith, true, List, Option, Some, None, inl, inr, refl, sym, ap, subst, bytes_eq, find, is_some}
use Rattle.std.proofs.Common.{IfSome}
use Rattle.std.proofs.lemmas.Bool.{and_parts, cases_lt, not-false}
use Rattle.text_core.specs.Prelude.{first_that_holds}
use Rattle.text_core.proofs.Kit.{find-passes, same_text, none_from_test}
use Rattle.fusemap_core.specs.Prelude.{Map}
use Rattle.id_ranges.specs.Prelude.{Idevid, serial_text, IsLeastUnused}
use Rattle.site_core.specs.Prelude.{IsSection, Ownership, Section}
use Rattle.office_laws.proofs.Types.{Cursor, Device, Given, Order, OfCustomer, NewIdentity, DeviceStep}
use Rattle.office_tables.specs.Prelude.{IsAddressFree, Tables, device_at, device_cmp, given_at, given_by_key, given_cmp, is_device, is_serial_of, is_order}
use Rattle.office_tables.specs.Prelude.{order_at, with_row, with_cursor, with_given, is_one_of}
use Rattle.office_tables.proofs.Places.{own_device}
use Rattle.office_rules.specs.Prelude.{identified_from, Effect, step_of_identity, identity_effect, identity_refusals, idevid_of_order, row_of, MakesPuts}
use Rattle.office_rules.specs.Prelude.{is_taken, its, map_named, map_text, next_of, office_sight}
use Rattle.office_laws.specs.Prelude.{IsSound, IsIssuedBelow, SerialIsOfIdentified, IsRecordOf}
use Rattle.office_laws.proofs.CursorLaws.{cursor_grows, cursor_sound}
use Rattle.office_laws.proofs.End.{identifies_in_order, identifies_unnumbered, identity_keeps}
use Rattle.office_laws.proofs.GivenLaws.{given_found, given_grows, given_sound}
use Rattle.office_laws.proofs.Growing.{grows_itself}
use Rattle.office_laws.proofs.Identity.{identity_found, identity_free, next_least, numbered_effect}
use Rattle.office_laws.proofs.Keeping.{Keeps}
use Rattle.office_laws.proofs.Lasting.{Lasts, lasts_named}
use Rattle.office_laws.proofs.Placed.{found_replaced}
use Rattle.office_laws.proofs.Plan.{unnumbered_where}
use Rattle.office_laws.proofs.Readings.{find_holds, order_below, order_issuer}
use Rattle.office_laws.proofs.TextKeys.{customer_of, each_tied}
use Rattle.office_laws.proofs.Registration.{found_is_map}
use Rattle.office_laws.proofs.StepKept.{step_kept, step_made, stepped}

module _ {owners : Ownership} {t : Tables} (sound : IsSound owners t) (s : Section)
    (section : IsSection owners s) where
  -- a device with its fuse map and its order, the order's next number, and a key that is nobody's
  module _ (seat : List ℕ) (is_seat : owners.seat seat ≡ Some s.name) (n : NewIdentity) (old : OfCustomer Device) (m : Map) (o : OfCustomer Order)
      (next : ℕ × List ℕ) (there : device_at s.name n.chip t ≡ Some old)
      (known : map_named s.name old.row.map t ≡ Some m)
      (ordered : order_at s.name old.row.order t ≡ Some o)
      (is_next : next_of t o.row ≡ Some next) (unbound : given_by_key o.row.issuer n.key t ≡ None)
      (may : is_one_of identified_from old.row.state ≡ true) where
    abbrev i : Idevid
    i = idevid_of_order o.row next n.key

    abbrev g : OfCustomer Given
    g = its s (row_of i (Some old.row.chip))

    abbrev step : DeviceStep
    step = step_of_identity next.1 m old.row

    is_text : next.1 ≡ serial_text o.row.range next.0
    is_text = (next_least t o.row next is_next).0

    least : IsLeastUnused o.row.cursor (is_taken t o.row.issuer) o.row.range next.0
    least = (next_least t o.row next is_next).1

    not_given : given_at o.row.issuer next.1 t ≡ None
    not_given = none_from_test (given_at o.row.issuer next.1 t)
        (ap (is_taken t o.row.issuer) is_text ∙ least.unused)

    mine : owners.issuer o.row.issuer ≡ Some s.name
    mine = order_issuer sound s.name old.row.order o ordered

    record_stands : (id : ℕ) → IsRecordOf (stepped s seat t step id).orders
        (stepped s seat t step id).devices g (Some old.row.chip)
    record_stands id =
        let d : OfCustomer Device = its s step.device in
        let found : find (is_device s.name old.row.chip) (with_row device_cmp d t.devices) ≡ Some d =
        found_replaced device_cmp d (is_device s.name old.row.chip) t.devices (own_device d)
        (each_tied customer_of (λ (o : OfCustomer Device). o.row.chip) d t.devices) in
        rw found (
          refl,
          rw ordered (record {
            issuer = refl;
            number = next.0;
            is_number = least.has;
            serial = is_text;
            mac = refl;
            not_before = refl;
          }),
        )

    -- below the number above the one that is given nothing is free
    given_below : (n : ℕ) → o.row.range.first ≤ n → n < next.0
        → is_some (given_at o.row.issuer (serial_text o.row.range n) t) ≡ true
    given_below n low before =
        elim (cases_lt n o.row.cursor) [
          | inl under ↦ order_below sound s.name old.row.order o ordered n low under
          | inr from ↦ least.least n (low, omega (arith, before, least.has.1)) from before
        ]

    still_given : (found : Option (OfCustomer Given)) (later : Option (OfCustomer Given))
        → is_some found ≡ true → IfSome found (λ x. later ≡ Some x) → is_some later ≡ true
    still_given None later was is = cc
    still_given (Some x) later was is = ap is_some is

    below : IsIssuedBelow (with_row given_cmp g t.given)
        (its s (record o.row { cursor = next.0 + 1 }))
    below n low high =
        elim (cases_lt n next.0) [
          | inl before ↦
              let text = serial_text o.row.range n in
              still_given (given_at o.row.issuer text t)
              (find (is_serial_of o.row.issuer text) (with_row given_cmp g t.given))
              (given_below n low before)
              ((given_grows t t g not_given refl (grows_itself t)).given o.row.issuer text)
          | inr past ↦
              let same : n ≡ next.0 = omega (arith, past, high) in
              let found : find (is_serial_of o.row.issuer next.1) (with_row given_cmp g t.given)
              ≡ Some g = given_found g t.given in
              rw (same, ← is_text, found) refl
        ]

    -- the order is there still
    name_is : o.row.name ≡ old.row.order
    name_is =
        let passes = find-passes (is_order s.name old.row.order) t.orders o ordered in
        sym (same_text old.row.order o.row.name
        (and_parts (bytes_eq s.name o.customer) (bytes_eq old.row.order o.row.name) passes).1)

    order_stands : order_at s.name o.row.name t ≡ Some o
    order_stands = subst (λ (name : List ℕ). order_at s.name name t ≡ Some o) (sym name_is) ordered

    abbrev cursor : OfCustomer Cursor
    cursor = its s (record { order = o.row.name; number = next.0 + 1 })

    pub number_kept : (id : ℕ) → Lasts owners t (stepped s seat t step id)
        → IsAddressFree g.row.mac t.given
        → Lasts owners t (with_cursor cursor (with_given g (stepped s seat t step id)))
    number_kept id one free =
        let sound_given : IsSound owners (with_given g (stepped s seat t step id)) =
        given_sound one.sound g mine not_given unbound free (record_stands id) in
        record {
          sound = cursor_sound sound_given s.name o.row.name o (next.0 + 1) order_stands
              (omega (arith, least.has.0)) (omega (arith, least.has.1)) below;
          grows = cursor_grows sound_given s.name o.row.name o (next.0 + 1) order_stands t
              (given_grows t (stepped s seat t step id) g not_given refl one.grows);
        }

    keeps : Keeps m old.row step
    keeps = identity_keeps m (found_is_map (map_text s.name old.row.map t) m known) old.row next.1
        may (unnumbered_where (is_one_of identified_from) identifies_unnumbered old (find_holds SerialIsOfIdentified (is_device s.name n.chip) t.devices old
        sound.devices.numbered there).0 may)

    pub numbered_kept : (mid : Tables)
        → MakesPuts s (numbered_effect s seat t n old.row m o.row next).puts t mid
        → Lasts owners t mid
    numbered_kept mid (first, step_is, (second, (free, number_is), last)) =
        let change = step_made s seat t step first step_is in
        let id = change.0 in
        let same : first ≡ stepped s seat t step id = change.2 in
        let one = step_kept sound s section seat is_seat n.chip old m step id there known keeps
        (λ up. let none = identifies_in_order old.row.state may in cc (none, up)) change.1 in
        let free : IsAddressFree g.row.mac t.given =
        subst (IsAddressFree g.row.mac) (ap (λ (x : Tables). x.given) same) free in
        lasts_named (last ∙ (number_is ∙ ap (λ x. with_cursor cursor (with_given g x)) same))
        (number_kept id one free)

  pub identity_kept : (seat : List ℕ) → owners.seat seat ≡ Some s.name → (n : NewIdentity) (e : Effect) (mid : Tables)
      → first_that_holds (identity_refusals (office_sight s seat t) n) ≡ None
      → identity_effect seat (office_sight s seat t) n ≡ Some e → MakesPuts s e.puts t mid
      → Lasts owners t mid
  identity_kept seat is_seat n e mid free is puts =
      let f = identity_found s seat t n e is in
      let none =
      identity_free s seat t n f.old f.fuse_map f.order f.there f.known f.ordered free in
      numbered_kept seat is_seat n f.old f.fuse_map f.order f.next f.there f.known f.ordered
      f.is_next (none_from_test _ none.1.1.0) (not-false _ none.0) mid
      (subst (λ (x : Effect). MakesPuts s x.puts t mid) (sym f.is) puts)

-- Over sound tables what is shown as the identity of a device is its record.
use Rattle.std.proofs.Common.{◌≡◌, ◌∙◌}
use Rattle.text_core.proofs.Kit.{ℕ, List, Option, Some, None, refl, sym, ap, subst, IsSomeAnd, and_parts, bytes_eq, option_and_then, option_map, find-passes}
use Rattle.text_core.proofs.Kit.{same_text, text_itself}
use Rattle.site_core.specs.Prelude.{Ownership, Section}
use Rattle.office_laws.proofs.Types.{Device, Given, Order, OfCustomer}
use Rattle.office_tables.specs.Prelude.{Tables, device_at, given_at, is_device, order_at}
use Rattle.office_commands.specs.Prelude.{acceptance, idevid_in, identity_body}
use Rattle.office_commands.specs.declared.command.Show.TheVariants.{Identity}
use Rattle.office_commands.specs.declared.refusal.Refusal.TheVariants.{WrongState}
use Rattle.office_rules.specs.Prelude.{found_or, identity_in_sight, office_order_sight, office_sight, OrderSight, own_record, own_row, record_of_chip}
use Rattle.office_rules.specs.Prelude.{show_reply, shown_identity, Sight}
use Rattle.office_laws.specs.Prelude.{IsSound, IsOfDevice, IsOfOrder, IsRecordOf}
use Rattle.office_laws.proofs.Readings.{find_holds}

module _ {owners : Ownership} {t : Tables} (sound : IsSound owners t) (s : Section) (seat chip : List ℕ)
    (g : OfCustomer Given) (there : given_at g.row.issuer g.row.serial t ≡ Some g)
    (mine : s.name ≡ g.customer) (its : g.row.chip ≡ Some chip) where
  abbrev v : Sight
  v = office_sight s seat t

  -- the record is the customer's, and of the chip
  own : own_record s.name g.row.issuer g.row.serial t ≡ Some g.row
  own = ap (option_and_then (own_row s.name)) there ∙ rw (text_itself s.name g.customer mine) refl

  of_chip : record_of_chip chip g.row ≡ Some g.row
  of_chip = rw (its, text_itself chip chip refl) refl

  abbrev record_by_order : List ℕ → List ℕ → Option OrderSight → Option Given
  record_by_order other serial order =
      option_and_then (λ o. option_and_then (record_of_chip other) (o.record_of serial)) order

  -- it is found by its order
  by_order : (found : Option (OfCustomer Order)) → IsSomeAnd found (λ o. IsOfOrder o.row g.row)
      → record_by_order chip g.row.serial (option_map (office_order_sight s.name t) found) ≡ Some g.row
  by_order None is = absurd is
  by_order (Some o) is =
      ap (λ issuer. option_and_then (record_of_chip chip) (own_record s.name issuer g.row.serial t))
      is.issuer
      ∙ (ap (option_and_then (record_of_chip chip)) own ∙ of_chip)

  -- the body that shows a record as the identity of its device
  abbrev body : Given → List ℕ
  body row = identity_body chip (idevid_in row)

  -- a record is shown by its device
  by_device : (found : Option (OfCustomer Device)) → device_at s.name chip t ≡ found
      → IsSomeAnd found (IsOfDevice t.orders g)
      → shown_identity v chip (option_map (λ d. d.row) found) ≡ acceptance (body g.row)
  by_device None e is = absurd is
  by_device (Some d) e is =
      let passes = find-passes (is_device s.name chip) t.devices d e in
      let same : chip ≡ d.row.chip = same_text chip d.row.chip
      (and_parts (bytes_eq s.name d.customer) (bytes_eq chip d.row.chip) passes).1 in
      let ordered : IsSomeAnd (order_at s.name d.row.order t) (λ o. IsOfOrder o.row g.row) =
      subst (λ (c : List ℕ). IsSomeAnd (order_at c d.row.order t) (λ o. IsOfOrder o.row g.row))
      (sym mine) is.1 in
      let seen : identity_in_sight v d.row ≡ Some g.row =
      ap (option_and_then (λ serial. record_by_order d.row.chip serial (v.order d.row.order))) is.0
      ∙ (ap (λ other. record_by_order other g.row.serial (v.order d.row.order)) (sym same)
      ∙ by_order (order_at s.name d.row.order t) ordered) in
      ap (found_or WrongState body) seen

  pub record_shown : show_reply v (Identity chip) ≡ acceptance (body g.row)
  record_shown = by_device (device_at s.name chip t) refl origin
    where
      of_record : IsRecordOf t.orders t.devices g g.row.chip
      of_record = (find_holds (λ (x : OfCustomer Given). IsRecordOf t.orders t.devices x x.row.chip)
          _ t.given g sound.origins there).0

      origin : IsSomeAnd (device_at s.name chip t) (IsOfDevice t.orders g)
      origin = subst (λ (c : List ℕ). IsSomeAnd (device_at c chip t) (IsOfDevice t.orders g))
          (sym mine) (subst (IsRecordOf t.orders t.devices g) its of_record)

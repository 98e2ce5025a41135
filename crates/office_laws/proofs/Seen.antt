-- What a customer's seat sees of sound tables is what it sees of the customer's own rows.
use Rattle.std.proofs.Common.{◌≡◌, if◌then◌else◌}
use Rattle.text_core.proofs.Kit.{ℕ, true, false, List, map, Option, Some, None, refl, sym, ap, ◌∙◌, bytes_eq, is_some, option_map, list_any, length-map}
use Rattle.site_core.specs.Prelude.{Section, IsSection, Ownership}
use Rattle.office_laws.proofs.Types.{Order, OfCustomer}
use Rattle.office_tables.specs.Prelude.{places_taken, Tables, given_by_key, link_at, order_at, rows_of}
use Rattle.office_rules.specs.Prelude.{at_first, issued_in, office_order_sight, office_sight}
use Rattle.office_rules.proofs.Refusing.{is_some_map}
use Rattle.office_laws.specs.Prelude.{SoloState, solo_issued_in, solo_order_sight, solo_sight, IsSound, solo_map, view}
use Rattle.office_laws.proofs.Readings.{bound_own, device_own, entries_own, given_in_own, issuer_owner, map_map, map_own, order_issuer}
use Rattle.office_laws.proofs.Readings.{order_next_own, order_own, record_own, seat_own}

module _ {owners : Ownership} {t : Tables} (sound : IsSound owners t) (s : Section) (section : IsSection owners s) where
  abbrev v : SoloState
  v = view s.name t

  order_by : (name : List ℕ) (found : Option (OfCustomer Order)) → order_at s.name name t ≡ found
      → option_map (office_order_sight s.name t) found ≡ option_map (solo_order_sight v) (option_map (λ o. at_first o.row) found)
  order_by name None e = refl
  order_by name (Some o) e = λ i. Some (record {
    order = at_first o.row;
    next = order_next_own sound s.name name o e i;
    places = places_taken o.row.name (rows_of s.name t.devices);
    is_bound = λ key.
        (sym (is_some_map (λ g. g.row) (given_by_key o.row.issuer key t))
        ∙ ap is_some (bound_own sound s.name o.row.issuer (order_issuer sound s.name name o e) key)) i;
    record_of = λ serial.
        record_own sound s.name o.row.issuer (order_issuer sound s.name name o e) serial i;
  })

  order_seen : (name : List ℕ) → (office_sight s name t).order name ≡ (solo_sight s name v).order name
  order_seen name = order_by name (order_at s.name name t) refl ∙ ap (option_map (solo_order_sight v)) (order_own sound s.name name)

  issuer_seen : (issuer : List ℕ) → (office_sight s issuer t).issuer issuer ≡ (solo_sight s issuer v).issuer issuer
  issuer_seen issuer = elim (list_any (bytes_eq issuer) s.issuers) as (λ b. list_any (bytes_eq issuer) s.issuers ≡ b
      → (if b then Some (issued_in issuer t) else None) ≡ (if b then Some (solo_issued_in issuer v) else None)) [
        | true ↦ λ is. ap Some (given_in_own sound s.name issuer (issuer_owner s section issuer is))
        | false ↦ λ _. refl
      ] refl

  text_seen : (digest : List ℕ) → (office_sight s digest t).text digest ≡ (solo_sight s digest v).text digest
  text_seen digest = sym (map_map (λ l. solo_map t l.row) (λ m. m.text) (link_at s.name digest t)) ∙ ap (option_map (λ m. m.text)) (map_own sound s.name digest)

  pub seen_own : (seat : List ℕ) → owners.seat seat ≡ Some s.name → office_sight s seat t ≡ solo_sight s seat (view s.name t)
  seen_own seat mine = λ i. record {
    seat = seat_own sound s.name seat mine i;
    orders = map at_first (rows_of s.name t.orders);
    order = λ name. order_seen name i;
    issuer = λ issuer. issuer_seen issuer i;
    maps = sym (length-map (rows_of s.name t.links) (solo_map t)) i;
    text = λ digest. text_seen digest i;
    devices = rows_of s.name t.devices;
    device = λ chip. device_own s.name chip t i;
    ledger = λ chip. entries_own s.name chip t.ledger i;
  }

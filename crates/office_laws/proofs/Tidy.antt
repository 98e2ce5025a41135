-- Tables whose rows stand in order and lie with their owners: each put is seen by its customer
-- alone, as one into that customer's rows.
use Rattle.std.proofs.Common.{◌≡◌, ◌+◌, ◌∷◌}
use Rattle.text_core.proofs.Kit.{ℕ, true, false, List, [], map, Option, Some, None, Equal, refl, sym, ap, ◌∙◌, subst, bytes_eq, AllByRecursion, IsTotalOrder}
use Rattle.text_core.proofs.Kit.{text_itself}
use Rattle.std.specs.declared.cmp.Ordering.{Ordering}
use Rattle.sha2.specs.Sha256.{sha256}
use Rattle.site_core.specs.Prelude.{Section, IsSection, Ownership}
use Rattle.office_laws.proofs.Types.{Cursor, Device, Entry, Given, Link, MapRow, NewEntry, Order, OfCustomer, SeatState}
use Rattle.office_tables.specs.Prelude.{IsAscending, Tables, device_cmp, entry_cmp, entry_under, given_cmp, is_of, is_order, link_cmp, map_at, map_cmp}
use Rattle.office_tables.specs.Prelude.{map_with, order_at, order_cmp, rows_of, with_row, seat_cmp, with_cursor, with_cursor_of, with_device, with_given}
use Rattle.office_tables.specs.Prelude.{with_link, with_map, with_new_entry, with_order, with_seat}
use Rattle.office_tables.proofs.Placing.{all_map, placed_ascending, placed_other, placed_own}
use Rattle.office_tables.proofs.Places.{same_place}
use Rattle.office_tables.proofs.TotalOrders.{seat_total, order_total, link_total, device_total, entry_total, given_total}
use Rattle.office_rules.specs.Prelude.{Put, device_put, map_put, number_put, order_put, record_put, seat_put, map_fault, Links, MakesPut, MakesPuts, at_first}
use Rattle.office_rules.specs.Prelude.{its, entry_of_chip, body_of_map}
use Rattle.office_rules.proofs.Ties.{first_equal}
use Rattle.office_laws.specs.Prelude.{SoloState, solo_entry_cmp, solo_given_cmp, with_put, with_puts, AreSoundMaps, IsLinked, IsSound, AreOwned, solo_map, view}
use Rattle.office_laws.proofs.OwnPlaces.{solo_device_cmp, solo_map_cmp, solo_order_cmp, solo_seat_cmp}
use Rattle.office_laws.proofs.CursorLaws.{moved, moved_same, own_same}
use Rattle.office_laws.proofs.DeviceLaws.{entry_agree, entry_place, entry_row_cmp}
use Rattle.office_laws.proofs.MapLaws.{maps_with_link, maps_with_map, solo_link_cmp}
use Rattle.office_laws.proofs.MapRows.{map_of_text, new_map_found, own_maps_after}
use Rattle.office_laws.proofs.Placed.{map_placed}
use Rattle.office_laws.proofs.SoundRows.{owned_place, owned_placed}
use Rattle.office_laws.proofs.TextKeys.{customer_of, each_first, own_texts_agree}

-- what views ask of tables: rows in order, seats, records and links with their owners, and links
-- that name maps
pub record IsTidy (owners : Ownership) (t : Tables) : Type 0 where
  pub seats : AreOwned seat_cmp (λ r. owners.seat r.name) t.seats
  pub orders : IsAscending order_cmp t.orders
  pub given : AreOwned given_cmp (λ g. owners.issuer g.issuer) t.given
  pub maps : AreSoundMaps owners t.maps t.links
  pub devices : IsAscending device_cmp t.devices
  pub ledger : IsAscending entry_cmp t.ledger

pub sound_is_tidy : {owners : Ownership} {t : Tables} → IsSound owners t → IsTidy owners t
sound_is_tidy sound = record {
  seats = sound.seats;
  orders = sound.orders.rows.ascending;
  given = sound.given.rows;
  maps = sound.maps;
  devices = sound.devices.devices_ascending;
  ledger = sound.devices.entries.ascending;
}

-- what a put asks for: its seat, its issuer, is the customer's, its order has its cursor at its
-- first number, its text is a map's
abbrev pub IsDue : Ownership → List ℕ → Put → Type 0
IsDue owners c (seat_put r) = owners.seat r.name ≡ Some c
IsDue owners c (order_put o) = at_first o ≡ o
IsDue owners c (map_put text) = map_fault text ≡ None
IsDue owners c (device_put d e) = Unit {0}
IsDue owners c (record_put g) = owners.issuer g.issuer ≡ Some c
IsDue owners c (number_put order number g) = owners.issuer g.issuer ≡ Some c

-- the tables stay tidy, the customer sees this, and another what they saw
pub record Acts (owners : Ownership) (c : List ℕ) (t t2 : Tables) (seen : SoloState) : Type 0 where
  pub tidy : IsTidy owners t2
  pub own : view c t2 ≡ seen
  pub other : (d : List ℕ) → bytes_eq d c ≡ false → view d t2 ≡ view d t

-- rows whose place is that of the customer's are the customer's own, and not another's
module _ {A : Type 0} (cmp : OfCustomer A → OfCustomer A → Ordering) (x : OfCustomer A) (rows : List (OfCustomer A))
    (place : AllByRecursion (λ y. cmp x y ≡ Equal → x.customer ≡ y.customer) rows) where
  own_place : AllByRecursion (λ y. cmp x y ≡ Equal → is_of x.customer y ≡ true) rows
  own_place = all_map (λ y. cmp x y ≡ Equal → x.customer ≡ y.customer)
      (λ y. cmp x y ≡ Equal → is_of x.customer y ≡ true)
      (λ y f e. text_itself x.customer y.customer (f e)) rows place

  other_place : (d : List ℕ) → bytes_eq d x.customer ≡ false
      → AllByRecursion (λ y. cmp x y ≡ Equal → is_of d y ≡ false) rows
  other_place d other = all_map (λ y. cmp x y ≡ Equal → x.customer ≡ y.customer)
      (λ y. cmp x y ≡ Equal → is_of d y ≡ false)
      (λ y f e. subst (λ z. bytes_eq d z ≡ false) (f e) other) rows place

  -- a table with the row is seen by the row's customer with it
  pub row_own : (own_cmp : A → A → Ordering) → IsTotalOrder cmp
      → ((a b : OfCustomer A) → is_of x.customer a ≡ true → is_of x.customer b ≡ true
      → cmp a b ≡ own_cmp a.row b.row)
      → IsAscending cmp rows
      → rows_of x.customer (with_row cmp x rows) ≡ with_row own_cmp x.row (rows_of x.customer rows)
  row_own own_cmp total agree ascending = placed_own x.customer cmp own_cmp total agree x
      (text_itself x.customer x.customer refl) rows ascending own_place

  -- a table with the row is seen by another customer as before
  pub row_other : (d : List ℕ) → bytes_eq d x.customer ≡ false
      → rows_of d (with_row cmp x rows) ≡ rows_of d rows
  row_other d other = placed_other d cmp x other rows (other_place d other)

module _ {owners : Ownership} {t : Tables} (tidy : IsTidy owners t) (c : List ℕ) where
  abbrev owned : {A : Type 0} → A → OfCustomer A
  owned x = record { customer = c; row = x }

  seat_acts : (r : SeatState) → owners.seat r.name ≡ Some c
      → Acts owners c t (with_seat (owned r) t) (with_put (seat_put r) (view c t))
  seat_acts r mine =
      let place = owned_place tidy.seats (owned r) mine
      (λ y same. ap owners.seat (same_place r.name y.row.name same)) in
      record {
        tidy = record {
          seats = owned_placed tidy.seats (owned r) mine seat_total;
          orders = tidy.orders;
          given = tidy.given;
          maps = tidy.maps;
          devices = tidy.devices;
          ledger = tidy.ledger;
        };
        own = λ i. record (view c t) {
          seats = row_own seat_cmp (owned r) t.seats place solo_seat_cmp seat_total
              (λ _ _ _ _. refl) tidy.seats.ascending i;
        };
        other = λ d ne i. record (view d t) {
          seats = row_other seat_cmp (owned r) t.seats place d ne i;
        };
      }

  -- an order that is placed, as new or with another cursor
  with_order_tidy : (o : OfCustomer Order) → IsTidy owners (with_order o t)
  with_order_tidy o = record {
    seats = tidy.seats;
    orders = placed_ascending order_cmp order_total o t.orders tidy.orders;
    given = tidy.given;
    maps = tidy.maps;
    devices = tidy.devices;
    ledger = tidy.ledger;
  }

  order_acts : (o : Order) → at_first o ≡ o
      → Acts owners c t (with_order (owned o) t) (with_put (order_put o) (view c t))
  order_acts o first = record {
    tidy = with_order_tidy (owned o);
    own = λ i. record (view c t) {
      orders = (ap (map at_first) (row_own order_cmp (owned o) t.orders
          (each_first customer_of (λ (x : OfCustomer Order). x.row.name) (owned o) t.orders)
          solo_order_cmp order_total (own_texts_agree (λ (o : Order). o.name) c) tidy.orders)
          ∙ (map_placed at_first solo_order_cmp solo_order_cmp (λ _ _. refl) o (rows_of c t.orders)
          ∙ ap (λ (x : Order). with_row solo_order_cmp x (map at_first (rows_of c t.orders))) first)) i;
    };
    other = λ d ne i. record (view d t) {
      orders = map at_first (row_other order_cmp (owned o) t.orders
          (each_first customer_of (λ (x : OfCustomer Order). x.row.name) (owned o) t.orders) d ne i);
    };
  }

  given_acts : (g : Given) → owners.issuer g.issuer ≡ Some c
      → Acts owners c t (with_given (owned g) t) (with_put (record_put g) (view c t))
  given_acts g mine =
      let place = owned_place tidy.given (owned g) mine
      (λ y same. ap owners.issuer (same_place g.issuer y.row.issuer (first_equal _ _ same))) in
      record {
        tidy = record {
          seats = tidy.seats;
          orders = tidy.orders;
          given = owned_placed tidy.given (owned g) mine given_total;
          maps = tidy.maps;
          devices = tidy.devices;
          ledger = tidy.ledger;
        };
        own = λ i. record (view c t) {
          given = row_own given_cmp (owned g) t.given place solo_given_cmp given_total
              (λ _ _ _ _. refl) tidy.given.ascending i;
        };
        other = λ d ne i. record (view d t) {
          given = row_other given_cmp (owned g) t.given place d ne i;
        };
      }

  device_acts : (d : Device) (e : NewEntry) (id : ℕ)
      → Acts owners c t (with_new_entry (owned e) id (with_device (owned d) t))
      (with_put (device_put d e) (view c t))
  device_acts d e id =
      let entry : OfCustomer Entry = entry_under (owned e) id in
      record {
        tidy = record {
          seats = tidy.seats;
          orders = tidy.orders;
          given = tidy.given;
          maps = tidy.maps;
          devices = placed_ascending device_cmp device_total _ t.devices tidy.devices;
          ledger = placed_ascending entry_cmp entry_total entry t.ledger tidy.ledger;
        };
        own = λ i. record (view c t) {
          devices = row_own device_cmp (owned d) t.devices (each_first customer_of (λ (x : OfCustomer Device). x.row.chip) (owned d) t.devices)
              solo_device_cmp device_total (own_texts_agree (λ (d : Device). d.chip) c) tidy.devices i;
          ledger = (ap (map entry_of_chip) (row_own entry_cmp entry t.ledger
              (entry_place entry t.ledger) entry_row_cmp entry_total (entry_agree c) tidy.ledger)
              ∙ map_placed entry_of_chip entry_row_cmp solo_entry_cmp (λ _ _. refl) entry.row
              (rows_of c t.ledger)) i;
        };
        other = λ other ne i. record (view other t) {
          devices = row_other device_cmp (owned d) t.devices (each_first customer_of (λ (x : OfCustomer Device). x.row.chip) (owned d) t.devices)
              other ne i;
          ledger = map entry_of_chip (row_other entry_cmp entry t.ledger (entry_place entry t.ledger)
              other ne i);
        };
      }

  -- nobody sees an order's cursor
  cursor_acts : (cursor : Cursor) → Acts owners c t (with_cursor (owned cursor) t) (view c t)
  cursor_acts cursor = by (order_at c cursor.order t) refl
    where
      by : (found : Option (OfCustomer Order)) → order_at c cursor.order t ≡ found
          → Acts owners c t (with_cursor_of found cursor.number t) (view c t)
      by None there = record { tidy = tidy; own = refl; other = λ _ _. refl }
      by (Some o) there =
          let later : OfCustomer Order = moved cursor.number o in
          let same = moved_same (is_order c cursor.order) o cursor.number t.orders tidy.orders
          there in
          let seen : (d : List ℕ) → view d (with_order later t) ≡ view d t = λ d i.
          record (view d t) {
            orders = own_same t.orders (with_row order_cmp later t.orders) same d i;
          } in
          record { tidy = with_order_tidy later; own = seen c; other = λ d _. seen d }

  -- what changes maps and links alone
  with_maps_tidy : (maps : List MapRow) (links : List (OfCustomer Link))
      → AreSoundMaps owners maps links → IsTidy owners (record t { maps = maps; links = links })
  with_maps_tidy maps links sound = record {
    seats = tidy.seats;
    orders = tidy.orders;
    given = tidy.given;
    maps = sound;
    devices = tidy.devices;
    ledger = tidy.ledger;
  }

  link_acts : (l : Link) → owners.customer c ≡ true → IsLinked t.maps (owned l)
      → Acts owners c t (with_link (owned l) t)
      (let s = view c t in record s { maps = with_row solo_map_cmp (solo_map t l) s.maps })
  link_acts l mine linked = record {
    tidy = with_maps_tidy t.maps (with_row link_cmp (owned l) t.links)
        (maps_with_link t tidy.maps (owned l) mine linked);
    own = λ i. record (view c t) {
      maps = (ap (map (solo_map t)) (row_own link_cmp (owned l) t.links
          (each_first customer_of (λ (x : OfCustomer Link). x.row.digest) (owned l) t.links)
          solo_link_cmp link_total (own_texts_agree (λ (l : Link). l.digest) c)
          tidy.maps.links_ascending)
          ∙ map_placed (solo_map t) solo_link_cmp solo_map_cmp (λ _ _. refl) l (rows_of c t.links)) i;
    };
    other = λ d ne i. record (view d t) {
      maps = map (solo_map t) (row_other link_cmp (owned l) t.links
          (each_first customer_of (λ (x : OfCustomer Link). x.row.digest) (owned l) t.links) d ne i);
    };
  }

  -- a new map, which nobody has a link to yet
  map_acts : (id : ℕ) (body : List ℕ) → map_at id t ≡ None → map_with body t ≡ None
      → Acts owners c t (with_map (record { id = id; body = body }) t) (view c t)
  map_acts id body fresh new =
      let m : MapRow = record { id = id; body = body } in
      let seen : (d : List ℕ) → view d (with_map m t) ≡ view d t = λ d i. record (view d t) {
        maps = own_maps_after t id body fresh d t.links tidy.maps.linked i;
      } in
      record {
        tidy = with_maps_tidy (with_row map_cmp m t.maps) t.links
            (maps_with_map t tidy.maps id body fresh new);
        own = seen c;
        other = λ d _. seen d;
      }

-- one after the other
pub then : {owners : Ownership} {c : List ℕ} {t mid t2 : Tables} {seen later : SoloState}
    → Acts owners c t mid seen → Acts owners c mid t2 later → Acts owners c t t2 later
then first second = record {
  tidy = second.tidy;
  own = second.own;
  other = λ d ne. second.other d ne ∙ first.other d ne;
}

-- what acts on tables does so under other names for what is there
pub renamed : {owners : Ownership} {c : List ℕ} {t t2 other_t2 : Tables} {seen other_seen : SoloState}
    → other_t2 ≡ t2 → seen ≡ other_seen → Acts owners c t t2 seen
    → Acts owners c t other_t2 other_seen
renamed {owners} {c} {t} {t2} {other_t2} {seen} {other_seen} same_tables same acts =
    subst (λ x. Acts owners c t x other_seen) (sym same_tables)
    (subst (Acts owners c t t2) same acts)

module _ {owners : Ownership} (s : Section) (section : IsSection owners s) where
  -- a text gets its link, to the map that has it or to a new one
  text_acts : {t : Tables} → IsTidy owners t → (text : List ℕ) → map_fault text ≡ None
      → (found : Option MapRow) → map_with text t ≡ found → (t2 : Tables)
      → Links s t text found t2 → Acts owners s.name t t2 (with_put (map_put text) (view s.name t))
  text_acts {t} tidy text no_fault (Some m) e t2 is =
      let at = map_of_text text t.maps m tidy.maps.maps_ascending e in
      let l : Link = record { digest = sha256 text; map = m.id } in
      let linked : IsLinked t.maps (its s l) =
      rw (at.0) (ap sha256 at.1, ap map_fault (sym at.1) ∙ no_fault) in
      renamed is (λ i. record (view s.name t) {
        maps = with_row solo_map_cmp
            (record { digest = sha256 text; text = (ap body_of_map at.0 ∙ sym at.1) i })
            (view s.name t).maps;
      }) (link_acts tidy s.name l section.customer linked)
  text_acts {t} tidy text no_fault None e t2 (id, fresh, is) =
      let mapped : Tables = with_map (record { id = id; body = text }) t in
      let l : Link = record { digest = sha256 text; map = id } in
      let made = map_acts tidy s.name id text fresh e in
      let found = new_map_found t id text fresh in
      let linked : IsLinked mapped.maps (its s l) = rw found (refl, no_fault) in
      renamed is (λ i. record (made.own i) {
        maps = with_row solo_map_cmp (record { digest = sha256 text; text = ap body_of_map found i })
            (made.own i).maps;
      }) (then made (link_acts made.tidy s.name l section.customer linked))

  -- each put is seen by its customer alone, as one into that customer's rows
  pub put_acts : {t : Tables} → IsTidy owners t → (p : Put) → IsDue owners s.name p
      → (t2 : Tables) → MakesPut s p t t2
      → Acts owners s.name t t2 (with_put p (view s.name t))
  put_acts tidy (seat_put r) due t2 is = renamed is refl (seat_acts tidy s.name r due)
  put_acts tidy (order_put o) due t2 is = renamed is refl (order_acts tidy s.name o due)
  put_acts {t} tidy (map_put text) due t2 is =
      text_acts tidy text due (map_with text t) refl t2 is
  put_acts tidy (device_put d e) due t2 (id, fresh, is) =
      renamed is refl (device_acts tidy s.name d e id)
  put_acts tidy (record_put g) due t2 (free, is) =
      renamed is refl (given_acts tidy s.name g due)
  put_acts tidy (number_put order number g) due t2 (free, is) =
      let given = given_acts tidy s.name g due in
      let moved = cursor_acts given.tidy s.name (record { order = order; number = number + 1 }) in
      renamed is given.own (then given moved)

  -- a list of puts is seen by its customer alone, as one into that customer's rows
  pub puts_act : {t : Tables} → IsTidy owners t → (ps : List Put)
      → AllByRecursion (IsDue owners s.name) ps → (t2 : Tables) → MakesPuts s ps t t2
      → Acts owners s.name t t2 (with_puts ps (view s.name t))
  puts_act tidy [] due t2 is =
      renamed is refl (record { tidy = tidy; own = refl; other = λ _ _. refl })
  puts_act tidy (p ∷ ps) due t2 (mid, is, later) =
      let first = put_acts tidy p due.0 mid is in
      renamed refl (ap (with_puts ps) first.own)
      (then first (puts_act first.tidy ps due.1 t2 later))

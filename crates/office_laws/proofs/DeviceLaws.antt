-- A device with an entry of its ledger keeps the tables sound, and how both lie with their
-- customers.
use Rattle.std.proofs.Common.{◌≡◌, ◌+◌, ◌++◌, ◌∷◌, Ordering}
use Rattle.text_core.proofs.Kit.{ℕ, arith, true, false, List, [], length, map, Some, None, Equal, refl, sym, ap, subst, bytes_eq, filter, find, is_some}
use Rattle.text_core.proofs.Kit.{Option, AllByRecursion, nat_cmp, ordering_then, and_parts, and_from, same_text, text_itself}
use Rattle.site_core.specs.Prelude.{Ownership}
use Rattle.office_laws.proofs.Types.{OfCustomer, Device, Entry, NewEntry, DeviceStep}
use Rattle.office_tables.specs.Prelude.{Tables, device_at, device_cmp, entry_cmp, entry_under, entry_with, greatest, has_entry_id, is_device, is_entry_of}
use Rattle.office_tables.specs.Prelude.{is_of, last_number, link_at, order_at, text_cmp, with_device, with_new_entry}
use Rattle.fusemap_core.specs.Prelude.{Map}
use Rattle.office_tables.proofs.Finding.{filter_none, filter_only, filter_other, none_passes, some_placed, still_there}
use Rattle.office_tables.proofs.Placing.{all_map, all_placed, placed_ascending}
use Rattle.office_tables.proofs.Places.{same_place, own_device}
use Rattle.office_tables.proofs.TotalOrders.{device_total, entry_total}
use Rattle.office_rules.specs.Prelude.{entry_of, map_named}
use Rattle.office_rules.proofs.Ties.{first_equal, second_equal}
use Rattle.office_laws.specs.Prelude.{AreNumberedFrom, AreSoundDevices, HasLedger, FitsFuseMap, IsReferred, SerialIsOfIdentified, IsRecordOf, IsSound}
use Rattle.office_laws.proofs.Appended.{all_below, appended, last_of_numbered, numbered_appended}
use Rattle.office_laws.proofs.DeviceRows.{id_turned}
use Rattle.office_laws.proofs.Placed.{all_placed_apart, pairwise_placed}
use Rattle.office_laws.proofs.Readings.{find_holds}
use Rattle.office_laws.proofs.RecordRows.{Follows, record_after_device}
use Rattle.office_laws.proofs.SoundRows.{owned_placed}
use Rattle.office_laws.proofs.TextKeys.{customer_of, each_same, own_texts_agree, tied_key}

abbrev pub entry_row_cmp : Entry → Entry → Ordering
entry_row_cmp a b = ordering_then (text_cmp a.chip b.chip) (nat_cmp a.number b.number)

pub entry_agree : (c : List ℕ) (a b : OfCustomer Entry) → is_of c a ≡ true → is_of c b ≡ true
    → entry_cmp a b ≡ entry_row_cmp a.row b.row
entry_agree c a b p q =
    ap (λ r. ordering_then r (nat_cmp a.row.number b.row.number))
    (own_texts_agree (λ (e : Entry). e.chip) c a b p q)

-- a row whose place another has is the same customer's
pub entry_place : (e : OfCustomer Entry) (rows : List (OfCustomer Entry))
    → AllByRecursion (λ y. entry_cmp e y ≡ Equal → e.customer ≡ y.customer) rows
entry_place e [] = tt
entry_place e (y ∷ ys) = (
  (λ h. same_place e.customer y.customer (first_equal _ _ (first_equal _ _ h))),
  entry_place e ys,
)

-- a step of a customer's device, by the seat that made it and the number of its entry over all
-- customers
module _ {owners : Ownership} {t : Tables} (sound : IsSound owners t) (c seat : List ℕ)
    (step : DeviceStep) (id : ℕ) where
  abbrev d : OfCustomer Device
  d = record { customer = c; row = step.device }

  abbrev its_entry : OfCustomer NewEntry
  its_entry = record {
    customer = c;
    row = entry_of seat (last_number c step.device.chip t + 1) step;
  }

  abbrev entry : OfCustomer Entry
  entry = entry_under its_entry id

  abbrev pub after : Tables
  after = with_new_entry its_entry id (with_device d t)

  abbrev named : List ℕ → List ℕ → Option Map
  named = λ customer digest. map_named customer digest t

  -- what a step asks for: its customer is the site's, and its seat the customer's, its order and its
  -- map are there, its entry's number is new, it follows the device that was there, and its ledger is
  -- what its map asks for
  pub record IsLawful : Type 0 where
    pub mine : owners.customer c ≡ true
    pub is_seat : owners.seat seat ≡ Some c
    pub order : is_some (order_at c step.device.order t) ≡ true
    pub link : is_some (link_at c step.device.map t) ≡ true
    pub new_id : entry_with id t ≡ None
    pub follows : (old : OfCustomer Device) → device_at c step.device.chip t ≡ Some old
        → Follows old.row step.device
    pub numbered : SerialIsOfIdentified d
    pub ledger : HasLedger named after.ledger d

  -- the ledger of another device
  old_ledger : (y : OfCustomer Device) → is_device c step.device.chip y ≡ false
      → HasLedger named t.ledger y → HasLedger named after.ledger y
  old_ledger y other has =
      let same = filter_other (is_entry_of y.customer y.row.chip) entry_cmp entry t.ledger not_its
      (each t.ledger) in
      record {
        numbered = subst (AreNumberedFrom 1) (sym same) has.numbered;
        by_map = λ m is. subst (FitsFuseMap m y.row) (sym same) (has.by_map m is);
      }
    where
      not_its : is_entry_of y.customer y.row.chip entry ≡ false
      not_its =
          elim (is_entry_of y.customer y.row.chip entry) as
          (λ b. is_entry_of y.customer y.row.chip entry ≡ b → b ≡ false) [
            | true ↦ λ its.
                let parts =
                and_parts (bytes_eq y.customer c) (bytes_eq y.row.chip step.device.chip) its in
                let owner : y.customer ≡ c = same_text y.customer c parts.0 in
                let chip : y.row.chip ≡ step.device.chip =
                same_text y.row.chip step.device.chip parts.1 in
                let passes : is_device c step.device.chip y ≡ true =
                and_from (bytes_eq c y.customer) (bytes_eq step.device.chip y.row.chip)
                (text_itself c y.customer (sym owner))
                (text_itself step.device.chip y.row.chip (sym chip)) in
                cc (passes, other)
            | false ↦ λ _. refl
          ] refl

      each : (rows : List (OfCustomer Entry))
          → AllByRecursion (λ e. entry_cmp entry e ≡ Equal
          → is_entry_of y.customer y.row.chip e ≡ false) rows
      each [] = tt
      each (e ∷ es) = (
        λ same.
            let device = first_equal _ _ same in
            let owner : c ≡ e.customer = same_place c e.customer (first_equal _ _ device) in
            let chip : step.device.chip ≡ e.row.chip =
            same_place step.device.chip e.row.chip (second_equal _ _ device) in
            rw (← owner, ← chip) not_its,
        each es,
      )

  ledgers_after : (rows : List (OfCustomer Device)) → AllByRecursion (HasLedger named t.ledger) rows
      → AllByRecursion (λ y.
      (device_cmp d y ≡ Equal → ⊥) → HasLedger named after.ledger y) rows
  ledgers_after rows has =
      all_map (HasLedger named t.ledger) (λ y. (device_cmp d y ≡ Equal → ⊥)
      → HasLedger named after.ledger y) (λ y its other.
      old_ledger y (differs y other) its) rows has
    where
      differs : (y : OfCustomer Device) → (device_cmp d y ≡ Equal → ⊥)
          → is_device c step.device.chip y ≡ false
      differs y other =
          elim (is_device c step.device.chip y) as (λ b. is_device c step.device.chip y ≡ b
          → b ≡ false) [
            | true ↦ λ its. absurd (other (tied_key customer_of (λ (o : OfCustomer Device). o.row.chip) d y its))
            | false ↦ λ _. refl
          ] refl

  devices_after : IsLawful → AreSoundDevices owners after.devices after.ledger
  devices_after lawful = record {
    devices_ascending = placed_ascending device_cmp device_total d t.devices
        sound.devices.devices_ascending;
    entries = owned_placed sound.devices.entries entry lawful.is_seat entry_total;
    ids_apart = pairwise_placed entry_cmp entry (λ e other. has_entry_id e.row.id other ≡ false)
        (id_turned entry) t.ledger (none_passes (has_entry_id id) t.ledger lawful.new_id)
        sound.devices.ids_apart;
    customers = all_placed (λ o. owners.customer o.customer ≡ true) device_cmp d t.devices
        lawful.mine sound.devices.customers;
    numbered = all_placed SerialIsOfIdentified device_cmp d t.devices lawful.numbered sound.devices.numbered;
    of_devices = all_placed
        (λ e. is_some (find (is_device e.customer e.row.chip) after.devices) ≡ true) entry_cmp entry
        t.ledger (some_placed (is_device c step.device.chip) device_cmp d t.devices (own_device d))
        (all_map (λ e. is_some (find (is_device e.customer e.row.chip) t.devices) ≡ true)
        (λ e. is_some (find (is_device e.customer e.row.chip) after.devices) ≡ true)
        (λ e there. still_there (is_device e.customer e.row.chip) device_cmp d t.devices
        (each_same customer_of (λ (o : OfCustomer Device). o.row.chip) e.customer e.row.chip d t.devices) there) t.ledger sound.devices.of_devices);
  }

  pub step_sound : IsLawful → IsSound owners after
  step_sound lawful = record {
    seats = sound.seats;
    orders = sound.orders;
    given = sound.given;
    maps = sound.maps;
    devices = devices_after lawful;
    origins = all_map (λ g. IsRecordOf t.orders t.devices g g.row.chip)
        (λ g. IsRecordOf t.orders after.devices g g.row.chip)
        (λ g is. record_after_device t.orders t.devices g d lawful.follows g.row.chip is) t.given
        sound.origins;
    cursors = sound.cursors;
    references = all_placed (IsReferred t.orders t.links) device_cmp d t.devices
        (record { order = lawful.order; map = lawful.link }) sound.references;
    ledgers = all_placed_apart device_cmp d (HasLedger named after.ledger) device_total t.devices
        lawful.ledger sound.devices.devices_ascending (ledgers_after t.devices sound.ledgers);
  }

  -- the ledger of a device that wasn't there
  pub new_ledger : device_at c step.device.chip t ≡ None
      → ((m : Map) → named c step.device.map ≡ Some m → FitsFuseMap m step.device (entry ∷ []))
      → HasLedger named after.ledger d
  new_ledger new kept =
      let only =
      filter_only (is_entry_of c step.device.chip) entry_cmp entry t.ledger (own_device d)
      no_entries in
      let number : last_number c step.device.chip t + 1 ≡ 1 =
      ap (λ (rows : List (OfCustomer Entry)). greatest (map (λ e. e.row.number) rows) + 1)
      (filter_none (is_entry_of c step.device.chip) t.ledger no_entries) in
      record {
        numbered = subst (AreNumberedFrom 1) (sym only) (number, tt);
        by_map = λ m is. subst (FitsFuseMap m step.device) (sym only) (kept m is);
      }
    where
      not_its : (e : OfCustomer Entry) → is_some (find (is_device e.customer e.row.chip) t.devices)
          ≡ true → is_entry_of c step.device.chip e ≡ false
      not_its e there =
          elim (is_entry_of c step.device.chip e) as (λ b. is_entry_of c step.device.chip e ≡ b
          → b ≡ false) [
            | true ↦ λ its.
                let parts =
                and_parts (bytes_eq c e.customer) (bytes_eq step.device.chip e.row.chip) its in
                let owner : c ≡ e.customer = same_text c e.customer parts.0 in
                let chip : step.device.chip ≡ e.row.chip =
                same_text step.device.chip e.row.chip parts.1 in
                let none : find (is_device e.customer e.row.chip) t.devices ≡ None =
                rw (← owner, ← chip) new in
                cc
            | false ↦ λ _. refl
          ] refl

      no_entries : AllByRecursion (λ e. is_entry_of c step.device.chip e ≡ false) t.ledger
      no_entries =
          all_map (λ e. is_some (find (is_device e.customer e.row.chip) t.devices) ≡ true) (λ e.
          is_entry_of c step.device.chip e ≡ false) not_its t.ledger sound.devices.of_devices

  -- the ledger of a device that was there: one entry more at its end
  pub next_ledger : (old : OfCustomer Device) → device_at c step.device.chip t ≡ Some old
      → step.device.map ≡ old.row.map
      → ((m : Map) → named c old.row.map ≡ Some m → (es : List (OfCustomer Entry)) → FitsFuseMap m old.row es
      → FitsFuseMap m step.device (es ++ entry ∷ []))
      → HasLedger named after.ledger d
  next_ledger old there same_map kept =
      let found =
      find_holds (HasLedger named t.ledger) (is_device c step.device.chip) t.devices old
      sound.ledgers there in
      let parts =
      and_parts (bytes_eq c old.customer) (bytes_eq step.device.chip old.row.chip) found.1 in
      let owner : c ≡ old.customer = same_text c old.customer parts.0 in
      let chip : step.device.chip ≡ old.row.chip =
      same_text step.device.chip old.row.chip parts.1 in
      let es = filter (is_entry_of c step.device.chip) t.ledger in
      let was_numbered : AreNumberedFrom 1 es = rw (owner, chip) found.0.numbered in
      let last : last_number c step.device.chip t ≡ length es = last_of_numbered es was_numbered in
      let grown : filter (is_entry_of c step.device.chip) after.ledger ≡ es ++ entry ∷ [] =
      appended entry (own_device d) (λ x y. entry_total.trans entry x y) t.ledger
      sound.devices.entries.ascending
      (all_below c step.device.chip t.ledger (last_number c step.device.chip t + 1)
      (omega arith)) in
      record {
        numbered =
            subst (AreNumberedFrom 1) (sym grown) (numbered_appended 1 es entry was_numbered
            (omega (arith, last)));
        by_map = λ m is.
            let known : named c old.row.map ≡ Some m = rw (← same_map) is in
            let was : FitsFuseMap m old.row es =
            rw (owner, chip) (found.0.by_map m (rw (← owner) known)) in
            subst (FitsFuseMap m step.device) (sym grown) (kept m known es was);
      }

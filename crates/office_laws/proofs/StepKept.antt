-- A step of a device keeps the tables sound, and forgets nothing that was burnt.
use Rattle.std.proofs.Common.{◌≡◌, ◌+◌, ◌∙◌, ◌++◌, true, ℕ, List, [], ◌∷◌, Option, Some, None, refl, sym, ap, subst, bytes_eq, option_and_then, option_map}
use Rattle.std.specs.List.{AllByRecursion}
use Rattle.std.proofs.lemmas.Bool.{and_parts}
use Rattle.text_core.specs.Prelude.{first_that_holds}
use Rattle.text_core.proofs.Kit.{arith, same_text}
use Rattle.fusemap_core.specs.Prelude.{Map}
use Rattle.site_core.specs.Prelude.{IsSection, Ownership, Section}
use Rattle.office_laws.proofs.Types.{Device, Entry, NewEntry, OfCustomer, Action, DeviceStep}
use Rattle.office_tables.specs.Prelude.{Tables, device_at, entry_under, entry_with, is_device, last_number, state_row, with_device, with_new_entry}
use Rattle.office_commands.specs.Prelude.{IsAction}
use Rattle.office_rules.specs.Prelude.{action_refusals, rule_of, Effect, entry_of, step_effect, step_put, MakesPut, MakesPuts, its, map_named, map_text}
use Rattle.office_rules.specs.Prelude.{office_sight, Sight, device_in_sight, map_in_sight, step_refusals}
use Rattle.office_rules.proofs.Sights.{entry_same, map_same}
use Rattle.office_laws.specs.Prelude.{DeviceStays, IsSound, FitsFuseMap, IsReferred, SerialIsOfIdentified}
use Rattle.office_laws.proofs.Actions.{action_keeps, stays_given_up}
use Rattle.office_laws.proofs.Appended.{IsAbove, all_below}
use Rattle.office_laws.proofs.DeviceLaws.{next_ledger, step_sound}
use Rattle.office_laws.proofs.Filling.{filled_by_step}
use Rattle.office_laws.proofs.Growing.{device_grows, stays_known}
use Rattle.office_laws.proofs.Lasting.{Lasts, lasts_named}
use Rattle.office_laws.proofs.Looking.{device_seen, gave, puts_of}
use Rattle.office_laws.proofs.Readings.{find_holds}
use Rattle.office_laws.proofs.Registration.{found_is_map}
use Rattle.office_laws.proofs.Keeping.{Keeps}

-- the number of a device's next entry is above those that its ledger has
pub numbers_below : (s : Section) (t : Tables) (chip : List ℕ)
    → AllByRecursion (IsAbove s.name chip (last_number s.name chip t + 1)) t.ledger
numbers_below s t chip = all_below s.name chip t.ledger (last_number s.name chip t + 1) (omega arith)

module _ (s : Section) (seat : List ℕ) (t : Tables) where
  -- the entry of a step, and the tables with both
  abbrev pub entry_made : DeviceStep → OfCustomer NewEntry
  entry_made step = its s (entry_of seat (last_number s.name step.device.chip t + 1) step)

  abbrev pub stepped : DeviceStep → ℕ → Tables
  stepped step id = with_new_entry (entry_made step) id (with_device (its s step.device) t)

  -- the put of a step makes them, under a number that no entry has
  pub step_made : (step : DeviceStep) (mid : Tables)
      → MakesPut s (step_put seat (office_sight s seat t) step) t mid
      → (id : ℕ) × (entry_with id t ≡ None) × (mid ≡ stepped step id)
  step_made step mid (id, fresh, is) = (
    id,
    fresh,
    is ∙ ap (λ number. with_new_entry (its s (entry_of seat number step)) id
        (with_device (its s step.device) t)) (entry_same s seat t step.device.chip),
  )

module _ {owners : Ownership} {t : Tables} (sound : IsSound owners t) (s : Section)
    (section : IsSection owners s) (seat : List ℕ) (is_seat : owners.seat seat ≡ Some s.name) where
  abbrev v : Sight
  v = office_sight s seat t

  -- a step of a device that is there
  pub step_kept : (chip : List ℕ) (old : OfCustomer Device) (m : Map) (step : DeviceStep) (id : ℕ)
      → device_at s.name chip t ≡ Some old → map_named s.name old.row.map t ≡ Some m
      → Keeps m old.row step
      → ((state_row old.row.state).is_given_up ≡ true → (state_row step.device.state).is_given_up ≡ true)
      → entry_with id t ≡ None → Lasts owners t (stepped s seat t step id)
  step_kept chip old m step id there known keeps stays fresh =
      let found = find_holds (IsReferred t.orders t.links) (is_device s.name chip) t.devices old
      sound.references there in
      let parts = and_parts (bytes_eq s.name old.customer) (bytes_eq chip old.row.chip) found.1 in
      let owner : s.name ≡ old.customer = same_text s.name old.customer parts.0 in
      let its_chip : chip ≡ step.device.chip =
      same_text chip old.row.chip parts.1 ∙ sym keeps.chip in
      let there_still : device_at s.name step.device.chip t ≡ Some old = rw (← its_chip) there in
      let entry : OfCustomer Entry = entry_under (entry_made s seat t step) id in
      record {
        sound = step_sound sound s.name seat step id (record {
          mine = section.customer;
          is_seat = is_seat;
          order = rw (keeps.order, owner) found.0.order;
          link = rw (keeps.map, owner) found.0.map;
          new_id = fresh;
          follows = λ other also.
              let same : old ≡ other = cc (there_still, also) in
              record {
                order = subst (λ (o : OfCustomer Device). o.row.order ≡ step.device.order) same
                    (sym keeps.order);
                serial = λ serial has. keeps.serial serial
                    (subst (λ (o : OfCustomer Device). o.row.serial ≡ Some serial) (sym same) has);
              };
          numbered = keeps.numbered;
          ledger = next_ledger sound s.name seat step id old there_still keeps.map
              (λ other also es was.
              let same : m ≡ other = cc (known, also) in
              subst (λ (x : Map). FitsFuseMap x old.row es → FitsFuseMap x step.device (es ++ entry ∷ []))
              same (λ kept. keeps.kept es entry refl refl kept) was);
        });
        grows = device_grows t (its s step.device) (λ other also.
            let same : old ≡ other = cc (there_still, also) in
            let by_map : DeviceStays (map_named s.name old.row.map t) old.row step.device =
            stays_known (map_named s.name old.row.map t) m old.row step.device known keeps.order
            keeps.map keeps.burnt in
            subst (λ (o : OfCustomer Device). DeviceStays (map_named s.name o.row.map t) o.row step.device)
            same by_map) (entry_made s seat t step) id (numbers_below s t step.device.chip)
            (filled_by_step t sound.devices.devices_ascending (its s step.device) old there_still owner
            keeps.order stays);
      }

  -- an action of a device, where nothing refuses it
  pub action_kept : (chip : List ℕ) (a : Action) (e : Effect) (mid : Tables) → IsAction a
      → first_that_holds (step_refusals (action_refusals a) (device_in_sight v chip)) ≡ None
      → step_effect seat v (rule_of a).does chip ≡ Some e → MakesPuts s e.puts t mid
      → Lasts owners t mid
  action_kept chip a e mid asked free is puts = by (device_at s.name chip t) refl is
    where
      made : Device → Map → Effect
      made d m = record {
        body = ((rule_of a).does m d).1;
        puts = step_put seat v ((rule_of a).does m d).0 ∷ [];
      }

      by : (found : Option (OfCustomer Device)) → device_at s.name chip t ≡ found
          → option_and_then (λ d. option_and_then (λ m. Some (made d m)) (map_in_sight v d.map))
          (option_map (λ d. d.row) found) ≡ Some e → Lasts owners t mid
      by None there is = cc
      by (Some old) there is =
          let m = gave (map_in_sight v old.row.map) _ e is in
          let known : map_named s.name old.row.map t ≡ Some m.0 =
          map_same s seat t old.row.map ∙ m.1 in
          let refused : first_that_holds (action_refusals a m.0 old.row) ≡ None =
          subst (λ found. first_that_holds (step_refusals (action_refusals a) found) ≡ None)
          (device_seen s t seat chip old m.0 there known) free in
          let numbered = find_holds SerialIsOfIdentified (is_device s.name chip) t.devices old
          sound.devices.numbered there in
          let is_map = found_is_map (map_text s.name old.row.map t) m.0 known in
          let keeps = action_keeps m.0 is_map old numbered.0 a asked refused in
          let stays = stays_given_up m.0 is_map old numbered.0 a asked refused in
          let step : DeviceStep = ((rule_of a).does m.0 old.row).0 in
          let puts = puts_of s t mid m.2 puts in
          let change = step_made s seat t step puts.0 puts.1 in
          lasts_named (puts.2 ∙ change.2)
          (step_kept chip old m.0 step change.0 there known keeps stays change.1)

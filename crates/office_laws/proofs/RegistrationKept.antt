-- The registration of a device keeps the tables sound, and forgets nothing.
use Rattle.std.proofs.Common.{◌≡◌, ◌<◌, ◌∷◌, ◌||◌}
use Rattle.text_core.proofs.Kit.{◌∙◌, ℕ, Bool, true, false, List, [], Some, None, refl, sym, subst, option_map_or, is_some, not, not-false, bytes_eq-Decides}
use Rattle.text_core.proofs.Kit.{none_from_test, and_parts, bytes_eq, find-passes, leb-false, nat_le, option_map, same_text}
use Rattle.text_core.specs.Prelude.{first_that_holds}
use Rattle.fusemap_core.specs.Prelude.{Map}
use Rattle.fuse_image.specs.Prelude.{WordsFitMap, redacted, shows_what_is_hidden}
use Rattle.site_core.specs.Prelude.{IsSection, Ownership, Section}
use Rattle.office_laws.proofs.Types.{Device, Entry, Order, OfCustomer, NewDevice, DeviceStep}
use Rattle.office_tables.specs.Prelude.{Tables, device_at, entry_under, is_order, link_at, order_at, places_taken, rows_of}
use Rattle.office_rules.specs.Prelude.{Effect, MakesPuts, its, map_named, map_text, office_order_sight, office_sight, device_of_registration, first_step}
use Rattle.office_rules.specs.Prelude.{is_full, readback_refusals, registration_effect, registration_refusals, words_fit_map, Sight, map_in_sight}
use Rattle.office_rules.proofs.Linked.{map_is_linked}
use Rattle.office_rules.proofs.Refusing.{NoneHolds, is_some_map, lowest_none}
use Rattle.office_rules.proofs.Sights.{map_same}
use Rattle.office_laws.specs.Prelude.{IsSound, FitsFuseMap}
use Rattle.office_laws.proofs.DeviceLaws.{new_ledger, step_sound}
use Rattle.office_laws.proofs.Filling.{filled_by_new}
use Rattle.office_laws.proofs.Growing.{device_grows}
use Rattle.office_laws.proofs.Lasting.{Lasts, lasts_named}
use Rattle.office_laws.proofs.Looking.{gave, puts_of}
use Rattle.office_laws.proofs.Registration.{found_is_map, registered_kept}
use Rattle.office_laws.proofs.StepKept.{entry_made, numbers_below, step_made}

-- what nothing refuses of a read-back fits the map
fits_from : (m : Map) (blocks : List (List ℕ)) → NoneHolds (readback_refusals blocks m)
    → words_fit_map m blocks ≡ true
fits_from m blocks none =
    by (words_fit_map m blocks) (shows_what_is_hidden m (redacted m blocks)) none.1.0
  where
    by : (fits hidden : Bool) → (not fits || hidden) ≡ false → fits ≡ true
    by true hidden e = refl
    by false hidden e = cc

-- an order that isn't full has a place
has_room : (s : Section) (t : Tables) (name : List ℕ)
    → option_map_or is_full (option_map (office_order_sight s.name t) (order_at s.name name t)) false ≡ false
    → (o : OfCustomer Order) → order_at s.name name t ≡ Some o
    → places_taken name (rows_of s.name t.devices) < o.row.range.quantity
has_room s t name not_full o there =
    let passes = find-passes (is_order s.name name) t.orders o there in
    let same : name ≡ o.row.name =
    same_text name o.row.name (and_parts (bytes_eq s.name o.customer) (bytes_eq name o.row.name) passes).1 in
    leb-false o.row.range.quantity (places_taken name (rows_of s.name t.devices))
    (subst (λ (n : List ℕ). nat_le o.row.range.quantity (places_taken n (rows_of s.name t.devices)) ≡ false)
    (sym same) (subst (λ found. option_map_or is_full (option_map (office_order_sight s.name t) found) false ≡ false)
    there not_full))

module _ {owners : Ownership} {t : Tables} (sound : IsSound owners t) (s : Section)
    (section : IsSection owners s) (seat : List ℕ) (is_seat : owners.seat seat ≡ Some s.name) where
  abbrev v : Sight
  v = office_sight s seat t

  pub registration_kept : (n : NewDevice) (e : Effect) (mid : Tables)
      → first_that_holds (registration_refusals v n) ≡ None → registration_effect seat v n ≡ Some e
      → MakesPuts s e.puts t mid → Lasts owners t mid
  registration_kept n e mid free is puts =
      let none = lowest_none (registration_refusals v n) free in
      let found = gave (map_in_sight v n.map) _ e is in
      let m : Map = found.0 in
      let known : map_named s.name n.map t ≡ Some m = map_same s seat t n.map ∙ found.1 in
      let order : is_some (order_at s.name n.order t) ≡ true =
      sym (is_some_map (office_order_sight s.name t) (order_at s.name n.order t))
      ∙ not-false _ none.1.0 in
      let new : device_at s.name n.chip t ≡ None = none_from_test _
      (sym (is_some_map (λ (d : OfCustomer Device). d.row) (device_at s.name n.chip t)) ∙ none.1.1.0) in
      let fit : WordsFitMap m n.blocks = (bytes_eq-Decides _ _).0 (fits_from m n.blocks
      (subst (λ x. NoneHolds (option_map_or (readback_refusals n.blocks) x [])) found.1 none.1.1.1.1)) in
      let step : DeviceStep = first_step (device_of_registration m n (redacted m n.blocks)) in
      let puts = puts_of s t mid found.2 puts in
      let change = step_made s seat t step puts.0 puts.1 in
      let id = change.0 in
      let entry : OfCustomer Entry = entry_under (entry_made s seat t step) id in
      let kept : (also : Map) → map_named s.name n.map t ≡ Some also
      → FitsFuseMap also step.device (entry ∷ []) = λ other also.
      let same : m ≡ other = cc (known, also) in
      subst (λ (x : Map). FitsFuseMap x step.device (entry ∷ [])) same (registered_kept m
      (found_is_map (map_text s.name n.map t) m known) n fit entry refl refl) in
      lasts_named (puts.2 ∙ change.2) (record {
        sound = step_sound sound s.name seat step id (record {
          mine = section.customer;
          is_seat = is_seat;
          order = order;
          link = map_is_linked (link_at s.name n.map t) t m known;
          new_id = change.1;
          follows = λ old there. cc (new, there);
          numbered = λ has. cc;
          ledger = new_ledger sound s.name seat step id new kept;
        });
        grows = device_grows t (its s step.device) (λ old there. cc (new, there))
            (entry_made s seat t step) id (numbers_below s t step.device.chip)
            (filled_by_new t sound.devices.devices_ascending (its s step.device) new
            (has_room s t n.order none.1.1.1.0));
      })

-- What an identity finds in the tables.
use Rattle.std.proofs.Common.{◌≡◌, ◌∙◌, ℕ, List, [], ◌∷◌, Option, Some, None, refl, subst, option_and_then, option_map, is_some, not}
use Rattle.std.specs.Option.{option_map_or}
use Rattle.text_core.specs.Prelude.{first_that_holds}
use Rattle.text_core.proofs.Kit.{same_Some}
use Rattle.fusemap_core.specs.Prelude.{Map}
use Rattle.id_ranges.specs.Prelude.{with_text, Range, serial_text, IsLeastUnused}
use Rattle.id_ranges.proofs.NextNumbers.{next_is_least}
use Rattle.site_core.specs.Prelude.{Section}
use Rattle.office_laws.proofs.Types.{Device, Order, OfCustomer, NewIdentity}
use Rattle.office_commands.specs.declared.refusal.Refusal.TheVariants.{Exhausted, KeyBound}
use Rattle.office_tables.specs.Prelude.{Tables, device_at, order_at}
use Rattle.office_commands.specs.Prelude.{identity_body}
use Rattle.office_rules.specs.Prelude.{identified_from, state_refusal, Effect, number_put, step_put, step_of_identity, identity_effect, row_of, is_taken}
use Rattle.office_rules.specs.Prelude.{map_named, next_of, office_order_sight, office_sight, OrderSight, Refusals, identity_refusals, idevid_of_order, Sight}
use Rattle.office_rules.specs.Prelude.{map_in_sight, step_refusals}
use Rattle.office_rules.proofs.Sights.{map_same}
use Rattle.office_rules.proofs.Refusing.{NoneHolds, lowest_none}
use Rattle.office_laws.proofs.Looking.{device_seen, gave}

-- the next number comes with its serial number
text_of_next : (r : Range) (found : Option ℕ) (next : ℕ × List ℕ)
    → option_map (with_text r) found ≡ Some next → next.1 ≡ serial_text r next.0
text_of_next r None next e = cc
text_of_next r (Some n) next e =
    let same : with_text r n ≡ next = cc in
    subst (λ (x : ℕ × List ℕ). x.1 ≡ serial_text r x.0) same refl

-- an order's next number is the least that isn't given, and comes with its serial number
pub next_least : (t : Tables) (o : Order) (next : ℕ × List ℕ) → next_of t o ≡ Some next
    → (next.1 ≡ serial_text o.range next.0)
    × IsLeastUnused o.cursor (is_taken t o.issuer) o.range next.0
next_least t o next is =
    let text : next.1 ≡ serial_text o.range next.0 = text_of_next o.range _ next is in (
      text,
      next_is_least o.cursor (is_taken t o.issuer) o.range next.0
          (is ∙ (λ j. Some (next.0, text j))),
    )

-- what refuses an identity of a device in its order
abbrev pub number_and_key_refusals : List ℕ → Device → OrderSight → Refusals
number_and_key_refusals key d o = state_refusal identified_from d
    ∷ (not (is_some o.next), Exhausted) ∷ (o.is_bound key, KeyBound) ∷ []

module _ (s : Section) (seat : List ℕ) (t : Tables) (n : NewIdentity) where
  abbrev v : Sight
  v = office_sight s seat t

  -- what a device, its map and a number of its order come to
  abbrev pub numbered_effect : Device → Map → Order → ℕ × List ℕ → Effect
  numbered_effect d m o next = record {
    body = identity_body d.chip (idevid_of_order o next n.key);
    puts = step_put seat v (step_of_identity next.1 m d)
        ∷ number_put o.name next.0 (row_of (idevid_of_order o next n.key) (Some d.chip)) ∷ [];
  }

  -- what a device and its map come to, by what was looked up of its order
  abbrev pub effect_in : Device → Map → Option OrderSight → Option Effect
  effect_in d m o = option_and_then (λ o. option_and_then (λ next.
      Some (numbered_effect d m o.order next)) o.next) o

  -- what an identity found: the device, its fuse map, its order and the order's next number
  pub record Identifies (e : Effect) : Type 0 where
    pub old : OfCustomer Device
    pub fuse_map : Map
    pub order : OfCustomer Order
    pub next : ℕ × List ℕ
    pub there : device_at s.name n.chip t ≡ Some old
    pub known : map_named s.name old.row.map t ≡ Some fuse_map
    pub ordered : order_at s.name old.row.order t ≡ Some order
    pub is_next : next_of t order.row ≡ Some next
    pub is : numbered_effect old.row fuse_map order.row next ≡ e

  pub identity_found : (e : Effect) → identity_effect seat v n ≡ Some e → Identifies e
  identity_found e is = by (device_at s.name n.chip t) refl is
    where
      by_order : (old : OfCustomer Device) (m : Map) → device_at s.name n.chip t ≡ Some old
          → map_in_sight v old.row.map ≡ Some m
          → (found : Option (OfCustomer Order)) → order_at s.name old.row.order t ≡ found
          → effect_in old.row m (option_map (office_order_sight s.name t) found) ≡ Some e
          → Identifies e
      by_order old m there known None ordered is = cc
      by_order old m there known (Some o) ordered is =
          let next = gave (next_of t o.row) _ e is in
          record {
            old = old;
            fuse_map = m;
            order = o;
            next = next.0;
            there = there;
            known = map_same s seat t old.row.map ∙ known;
            ordered = ordered;
            is_next = next.1;
            is = same_Some _ _ next.2;
          }

      by : (found : Option (OfCustomer Device)) → device_at s.name n.chip t ≡ found
          → option_and_then (λ d. option_and_then (λ m. effect_in d m
          (option_map (office_order_sight s.name t) (order_at s.name d.order t)))
          (map_in_sight v d.map)) (option_map (λ d. d.row) found) ≡ Some e
          → Identifies e
      by None there is = cc
      by (Some old) there is =
          let m = gave (map_in_sight v old.row.map) _ e is in
          by_order old m.0 there m.1 (order_at s.name old.row.order t) refl m.2

  -- where nothing refuses it, nothing refuses that device in that order
  pub identity_free : (old : OfCustomer Device) (m : Map) (o : OfCustomer Order)
      → device_at s.name n.chip t ≡ Some old → map_named s.name old.row.map t ≡ Some m
      → order_at s.name old.row.order t ≡ Some o → first_that_holds (identity_refusals v n) ≡ None
      → NoneHolds (number_and_key_refusals n.key old.row (office_order_sight s.name t o))
  identity_free old m o there known ordered free =
      let against : Device → Option OrderSight → Refusals = λ d seen.
      option_map_or (number_and_key_refusals n.key d) seen [] in
      let refused : first_that_holds (against old.row (v.order old.row.order)) ≡ None =
      subst (λ found. first_that_holds (step_refusals (λ m d. against d (v.order d.order)) found)
      ≡ None) (device_seen s t seat n.chip old m there known) free in
      lowest_none (number_and_key_refusals n.key old.row (office_order_sight s.name t o))
      (subst (λ o. first_that_holds (against old.row (option_map (office_order_sight s.name t) o))
      ≡ None) ordered refused)

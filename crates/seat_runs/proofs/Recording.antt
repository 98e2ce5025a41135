-- Behind a plan that was done, what its reply says is to be burnt is in the device's row.
use Rattle.std.proofs.Common.{◌≡◌, ◌∷◌}
use Rattle.text_core.proofs.Kit.{◌∙◌, ℕ, true, List, [], Some, refl, sym, ap, subst, bytes_eq, find, option_and_then, option_map, same_text}
use Rattle.text_core.proofs.Lists.{find-passes}
use Rattle.fusemap_core.specs.Prelude.{Map, map_in}
use Rattle.fuse_plan.specs.declared.wish.Wish.{Wish}
use Rattle.http_replies.specs.Prelude.{Answer as Response}
use Rattle.site_core.specs.Prelude.{Ownership, Section}
use Rattle.office_tables.specs.declared.rows.Device.{Device}
use Rattle.office_tables.specs.Prelude.{Tables, link_at}
use Rattle.office_commands.specs.declared.command.Action.{Action}
use Rattle.office_commands.specs.declared.command.Action.TheVariants.{Plan}
use Rattle.office_commands.specs.declared.command.Change.{Change as Changing}
use Rattle.office_commands.specs.declared.command.Change.TheVariants.{Act, Identify}
use Rattle.office_commands.specs.declared.command.Command.TheVariants.{Change}
use Rattle.office_commands.specs.declared.command.Request.{Request}
use Rattle.office_commands.specs.Prelude.{acceptance}
use Rattle.office_rules.specs.Prelude.{Effect, kept_of, map_in_sight, map_named, pending_of_wishes}
use Rattle.office_rules.specs.Prelude.{Sight, step_of_plan, step_put}
use Rattle.office_rules.proofs.Sights.{map_same}
use Rattle.office_laws.specs.Prelude.{Exchange, IsSound, SoloState, is_accepted, is_no_repeat, is_own, solo_map, solo_sight}
use Rattle.office_laws.specs.Prelude.{view, with_puts}
use Rattle.office_laws.proofs.Passing.{Serves}
use Rattle.office_laws.proofs.Readings.{device_own, map_map, map_own}
use Rattle.seat_runs.specs.Prelude.{device_of}
use Rattle.seat_runs.specs.Prelude.{IsRecorded, asks_for, is_plan}
use Rattle.seat_runs.proofs.Coming.{IsMade}
use Rattle.seat_runs.proofs.Expecting.{IsOfMap, plan_pending}
use Rattle.seat_runs.proofs.Devices.{against_order, identity_against, seen, step_chip, device_found, devices_after, every, own_device}
use Rattle.seat_runs.proofs.Making.{done_made}
use Rattle.std.proofs.Common.{◌++◌}
use Rattle.text_core.proofs.Kit.{None, Option, and_parts, not, not-false}
use Rattle.text_core.specs.Prelude.{first_that_holds}
use Rattle.fuse_columns.specs.Prelude.{pending_in}
use Rattle.office_tables.specs.declared.rows.DeviceState.TheVariants.{Identified}
use Rattle.office_tables.specs.declared.rows.NewEntry.{NewEntry}
use Rattle.office_tables.specs.declared.rows.OfCustomer.{OfCustomer}
use Rattle.office_tables.specs.Prelude.{device_at, is_device, is_one_of}
use Rattle.office_commands.specs.declared.new_identity.NewIdentity.{NewIdentity}
use Rattle.office_commands.specs.declared.refusal.Refusal.TheVariants.{WrongState}
use Rattle.office_commands.specs.Prelude.{IsAction, IsChange, IsCommand}
use Rattle.office_rules.specs.Prelude.{Put, rule_of, action_refusals, device_put, identified_from, known_of, map_text, seat_put, step_refusals}
use Rattle.office_rules.proofs.Refusing.{first_is_false}
use Rattle.office_laws.specs.Prelude.{CanAsk, HasLedger, IsAwaited, with_put}
use Rattle.office_laws.proofs.Readings.{find_holds}
use Rattle.office_laws.proofs.Registration.{found_is_map}

-- an action of a chip that was made, of the device that was there, with its fuse map
pub record IsActed (chip : List ℕ) (action : Action) (v : Sight) (s mid : SoloState) (reply : Response) : Type 0 where
  pub old : Device
  pub by_map : Map
  pub was : own_device chip s ≡ Some old
  pub known : map_in_sight v old.map ≡ Some by_map
  pub free : first_that_holds (action_refusals action by_map old) ≡ None
  pub there : own_device chip mid ≡ Some ((rule_of action).does by_map old).0.device
  pub tells : reply ≡ acceptance ((rule_of action).does by_map old).1

-- an identity of a chip that was made, of a device that was settled
pub record IsIdentified (chip : List ℕ) (s mid : SoloState) : Type 0 where
  pub old : Device
  pub serial : List ℕ
  pub was : own_device chip s ≡ Some old
  pub settled : is_one_of identified_from old.state ≡ true
  pub there : own_device chip mid ≡ Some (record old { state = Identified; serial = Some serial })

module _ (c : Section) (seat chip asked : List ℕ) (s mid : SoloState) (reply : Response) (r : Request)
    (mine : bytes_eq chip asked ≡ true) where
  abbrev v : Sight
  v = solo_sight c seat s

  found_chip : (d : Device) → own_device asked s ≡ Some d → bytes_eq chip d.chip ≡ true
  found_chip d there =
      rw (same_text chip asked mine) (find-passes (λ e. bytes_eq asked e.chip) s.devices d there)

  found_own : (d : Device) → own_device asked s ≡ Some d → own_device chip s ≡ Some d
  found_own d there = rw (same_text chip asked mine) there

  -- the device as a put leaves it, with what else is put and the seat's row
  put_found : (made : Effect) (d : Device) (entry : NewEntry) (others : List Put) → made.puts ≡ device_put d entry ∷ others
      → ((st : SoloState) → (with_puts others st).devices ≡ st.devices) → bytes_eq chip d.chip ≡ true
      → mid ≡ with_puts (made.puts ++ seat_put (kept_of seat r made.body) ∷ []) s → own_device chip mid ≡ Some d
  put_found made d entry others puts leave own after =
      ap (own_device chip) after
      ∙ (ap (find (λ e. bytes_eq chip e.chip)) (devices_after made.puts (kept_of seat r made.body) s)
      ∙ (ap (λ ps. own_device chip (with_puts ps s)) puts
      ∙ (ap (find (λ e. bytes_eq chip e.chip)) (leave (with_put (device_put d entry) s))
      ∙ device_found d chip s.devices own)))

  pub acted : (action : Action) → IsMade c seat s mid reply r (Act asked action) → IsActed chip action v s mid reply
  acted action made =
      every (v.device asked) _ (λ o. o ≡ Some made.made → IsActed chip action v s mid reply) (λ e. cc)
      (λ d found. every (map_in_sight v d.map) _ (λ o. o ≡ Some made.made → IsActed chip action v s mid reply)
      (λ e. cc) (λ m known e. of_device d m found known (let same : effect_of d m ≡ made.made = cc in same))) made.is
    where
      effect_of : Device → Map → Effect
      effect_of d m = record {
        body = ((rule_of action).does m d).1;
        puts = step_put seat v ((rule_of action).does m d).0 ∷ [];
      }

      of_device : (d : Device) (m : Map) → own_device asked s ≡ Some d → map_in_sight v d.map ≡ Some m
          → effect_of d m ≡ made.made → IsActed chip action v s mid reply
      of_device d m found known same = record {
        old = d;
        by_map = m;
        was = found_own d found;
        known = known;
        free = subst (λ o. first_that_holds (step_refusals (action_refusals action) o) ≡ None)
            (seen c seat chip s asked d m found known) made.free;
        there = put_found made.made ((rule_of action).does m d).0.device _ [] (ap (λ (e : Effect). e.puts) (sym same))
            (λ st. refl) (rw (step_chip action m d) (found_chip d found)) made.after;
        tells = made.shown ∙ ap (λ (e : Effect). acceptance e.body) (sym same);
      }

-- a map of the tables is one of the customer's own rows
pub map_seen : {owners : Ownership} {t : Tables} → IsSound owners t → (s : Section) (seat digest : List ℕ)
    → map_named s.name digest t ≡ map_in_sight (solo_sight s seat (view s.name t)) digest
map_seen {t = t} sound s seat digest =
    map_same s seat t digest
    ∙ ap (option_and_then map_in) (sym (map_map (λ l. solo_map t l.row) (λ m. m.text) (link_at s.name digest t))
    ∙ ap (option_map (λ m. m.text)) (map_own sound s.name digest))

named_known : {owners : Ownership} {t : Tables} → IsSound owners t → (s : Section) (seat digest : List ℕ) (m : Map)
    → map_in_sight (solo_sight s seat (view s.name t)) digest ≡ Some m → map_named s.name digest t ≡ Some m
named_known sound s seat digest m known = map_seen sound s seat digest ∙ known

-- the effect of an identity whose device, map, order and number were found
module _ (c : Section) (seat chip : List ℕ) (s mid : SoloState) (reply : Response) (r : Request) (n : NewIdentity)
    (mine : bytes_eq chip n.chip ≡ true) (made : IsMade c seat s mid reply r (Identify n)) where
  abbrev seen_by : Sight
  seen_by = solo_sight c seat s

  abbrev Found : Option Effect → Type 0
  Found o = o ≡ Some made.made → IsIdentified chip s mid

  pub identified : IsIdentified chip s mid
  identified =
      every (seen_by.device n.chip) _ Found (λ e. cc) (λ d found.
      every (map_in_sight seen_by d.map) _ Found (λ e. cc) (λ m known.
      every (seen_by.order d.order) _ Found (λ e. cc) (λ o ordered. every o.next _ Found (λ e. cc) (λ next numbered e.
      record {
        old = d;
        serial = next.1;
        was = found_own c seat chip n.chip s mid reply r mine d found;
        settled =
            let looked = subst (λ x. first_that_holds (step_refusals (identity_against seen_by n) x) ≡ None)
            (seen c seat chip s n.chip d m found known) made.free in
            let first = subst (λ x. first_that_holds (against_order n d x) ≡ None) ordered looked in
            not-false _ (first_is_false (not (is_one_of identified_from d.state)) WrongState _ first);
        there = put_found c seat chip n.chip s mid reply r mine made.made
            (record d { state = Identified; serial = Some next.1 }) _ _
            (ap (λ (x : Option Effect). puts_in x) (sym e)) (λ st. refl)
            (found_chip c seat chip n.chip s mid reply r mine d found) made.after;
      })))) made.is
    where
      puts_in : Option Effect → List Put
      puts_in None = []
      puts_in (Some e) = e.puts

-- a device of sound tables is one of its map
pub device_fits : {owners : Ownership} {t : Tables} → IsSound owners t → (customer chip : List ℕ) (d : Device) (m : Map)
    → device_of customer chip t ≡ Some d → map_named customer d.map t ≡ Some m → IsOfMap m d
device_fits {t = t} sound customer chip d m there named = by (device_at customer chip t) refl there
  where
    by : (found : Option (OfCustomer Device)) → device_at customer chip t ≡ found
        → option_map (λ (o : OfCustomer Device). o.row) found ≡ Some d → IsOfMap m d
    by None is e = cc
    by (Some o) is e =
        let same : o.row ≡ d = cc in
        let held = find_holds (HasLedger (λ c digest. map_named c digest t) t.ledger) (is_device customer chip) t.devices
        o sound.ledgers is in
        let owner : customer ≡ o.customer = same_text customer o.customer
        (and_parts (bytes_eq customer o.customer) (bytes_eq chip o.row.chip) held.1).0 in
        let fits = held.0.by_map m (subst (λ c. map_named c o.row.map t ≡ Some m) owner
        (subst (λ (x : Device). map_named customer x.map t ≡ Some m) (sym same) named)) in
        record {
          is_map = found_is_map (map_text customer d.map t) m named;
          awaited = subst (λ (x : Device). IsAwaited m (known_of m x) x.state (pending_in m x.todo)) same fits.pending;
        }

-- a command that plans the chip
record IsPlanOf (chip : List ℕ) (change : Changing) : Type 0 where
  asked : List ℕ
  wishes : List Wish
  is : change ≡ Act asked (Plan wishes)
  mine : bytes_eq chip asked ≡ true

plan_of : (chip : List ℕ) (change : Changing) → is_plan chip (Change change) ≡ true → IsPlanOf chip change
plan_of chip (Act asked (Plan wishes)) is = record { asked = asked; wishes = wishes; is = refl; mine = is }
plan_of chip _ is = cc

-- what a plan that was done tells is recorded behind it
pub plan_recorded : {owners : Ownership} {t mid : Tables} → IsSound owners t → (site : Ownership) (x : Exchange)
    → Serves site x t mid → CanAsk x.0.wanted → is_own x.0.section.name x ≡ true → (chip : List ℕ)
    → asks_for (is_plan chip) x.0.wanted ≡ true → is_accepted x ≡ true → is_no_repeat t x ≡ true
    → IsRecorded x.0.section.name chip x.1 mid
plan_recorded {t = t} {mid = mid} sound site x serves can own chip plans_it accepted new =
    let s = view x.0.section.name t in
    let s2 = view x.0.section.name mid in
    let is = done_made x.0 s s2 x.1 x.0.wanted (serves.own x.0.section.name own) accepted new in
    let plan = plan_of chip is.change (subst (λ command. is_plan chip command ≡ true) is.command
    (subst (λ w. asks_for (is_plan chip) w ≡ true) is.asked plans_it)) in
    let asked : IsAction (Plan plan.wishes) = subst IsChange plan.is (subst IsCommand is.command (subst CanAsk is.asked can)) in
    let made = subst (IsMade x.0.section x.0.seat s s2 x.1 is.request) plan.is is.made in
    let p = acted x.0.section x.0.seat chip plan.asked s s2 x.1 is.request plan.mine (Plan plan.wishes) made in
    let named = named_known sound x.0.section x.0.seat p.old.map p.by_map p.known in
    let fits = device_fits sound x.0.section.name chip p.old p.by_map (device_own x.0.section.name chip t ∙ p.was) named in
    record {
      device = (step_of_plan (pending_of_wishes plan.wishes p.by_map p.old) p.by_map p.old).device;
      there = device_own x.0.section.name chip mid ∙ p.there;
      by_map = p.by_map;
      named = (let kept = serves.grows.maps x.0.section.name p.old.map in rw named at kept);
      work = pending_of_wishes plan.wishes p.by_map p.old;
      pending = plan_pending p.by_map p.old fits plan.wishes asked p.free;
      state = refl;
      tells = p.tells;
    }

-- What is burnt of a device or is to be burnt stays so over a run, unless the device is given up.
use Rattle.std.proofs.Common.{◌≡◌, ◌∷◌}
use Rattle.text_core.proofs.Kit.{◌∙◌, ℕ, inl, inr, Bool, true, false, List, [], None, Some, refl, sym, ap, subst, bytes_eq, not, and_parts, same_text}
use Rattle.text_core.specs.Prelude.{first_that_holds}
use Rattle.fusemap_core.specs.Prelude.{Map}
use Rattle.http_replies.specs.Prelude.{Answer as Response, is_unavailable}
use Rattle.site_core.specs.Prelude.{Ownership}
use Rattle.office_tables.specs.declared.rows.Device.{Device}
use Rattle.office_tables.specs.declared.rows.DeviceState.TheVariants.{Identified}
use Rattle.office_tables.specs.Prelude.{Tables, is_one_of}
use Rattle.office_commands.specs.declared.command.Action.{Action}
use Rattle.office_commands.specs.declared.command.Change.{Change as Changing}
use Rattle.office_commands.specs.declared.command.Change.TheVariants.{Act, Identify, Import, ImportMap, MakeOrder, RegisterDevice}
use Rattle.office_commands.specs.declared.command.Command.{Command}
use Rattle.office_commands.specs.declared.command.Command.TheVariants.{Change, Show}
use Rattle.office_commands.specs.declared.command.Request.{Request}
use Rattle.office_rules.specs.Prelude.{action_refusals, identified_from, map_in_sight, map_named, respond_to, rule_of}
use Rattle.office_laws.specs.Prelude.{AreSeats, Call, Exchange, IsRun, IsSound, SoloState, Wanted, alone_on, asks}
use Rattle.office_laws.specs.Prelude.{calls_of, is_own, refused, reports, solo_sight, view}
use Rattle.office_laws.proofs.Passing.{Serves}
use Rattle.office_laws.proofs.Readings.{device_own}
use Rattle.office_laws.proofs.RunLaws.{serves_grown}
use Rattle.seat_runs.specs.Prelude.{StaysExpected, device_of}
use Rattle.seat_runs.proofs.Coming.{Comes, IsMade, Responds, comes_to}
use Rattle.seat_runs.proofs.Devices.{left, own_device, registers}
use Rattle.seat_runs.proofs.Expecting.{IsOfMap, Keeps, action_moves, identity_moves, keeps_both, keeps_itself}
use Rattle.seat_runs.proofs.Recording.{acted, device_fits, identified, map_seen}

-- the device is there, and has all that it had
record Moves (chip : List ℕ) (m : Map) (d : Device) (mid : SoloState) : Type 0 where
  later : Device
  there : own_device chip mid ≡ Some later
  keeps : Keeps m d later

module _ (chip : List ℕ) (m : Map) (d : Device) (of : IsOfMap m d) where
  moves_itself : (mid : SoloState) → own_device chip mid ≡ Some d → Moves chip m d mid
  moves_itself mid there = record { later = d; there = there; keeps = keeps_itself m d }

  -- the same device, by the same map
  same_moves : (action : Action) (old : Device) (by_map : Map) → old ≡ d → by_map ≡ m
      → first_that_holds (action_refusals action by_map old) ≡ None
      → Keeps m d ((rule_of action).does by_map old).0.device
  same_moves action old by_map one two =
      subst (λ (x : Device). first_that_holds (action_refusals action by_map x) ≡ None
      → Keeps m d ((rule_of action).does by_map x).0.device) (sym one)
      (subst (λ (x : Map). first_that_holds (action_refusals action x d) ≡ None
      → Keeps m d ((rule_of action).does x d).0.device) (sym two) (action_moves m d of action))

  module _ (c : Call) (s mid : SoloState) (reply : Response) (there : own_device chip s ≡ Some d)
      (known : map_in_sight (solo_sight c.section c.seat s) d.map ≡ Some m) where
    made_moves : (r : Request) (change : Changing) → IsMade c.section c.seat s mid reply r change → Moves chip m d mid
    made_moves r (MakeOrder n) made =
        moves_itself mid (left c.section c.seat chip s mid reply r (MakeOrder n) made tt ∙ there)
    made_moves r (ImportMap text) made =
        moves_itself mid (left c.section c.seat chip s mid reply r (ImportMap text) made tt ∙ there)
    made_moves r (Import n) made =
        moves_itself mid (left c.section c.seat chip s mid reply r (Import n) made tt ∙ there)
    made_moves r (RegisterDevice n) made = by (bytes_eq chip n.chip) refl
      where
        by : (b : Bool) → bytes_eq chip n.chip ≡ b → Moves chip m d mid
        by true mine = absurd (registers c.section c.seat chip s d there n mine made.free)
        by false other =
            moves_itself mid (left c.section c.seat chip s mid reply r (RegisterDevice n) made other ∙ there)
    made_moves r (Act asked action) made = by (bytes_eq chip asked) refl
      where
        by : (b : Bool) → bytes_eq chip asked ≡ b → Moves chip m d mid
        by true mine =
            let p = acted c.section c.seat chip asked s mid reply r mine action made in
            let was = p.was in
            let one : p.old ≡ d = cc in
            let its = p.known in
            let at_map : map_in_sight (solo_sight c.section c.seat s) d.map ≡ Some p.by_map =
            subst (λ (x : Device). map_in_sight (solo_sight c.section c.seat s) x.map ≡ Some p.by_map) one its in
            let two : p.by_map ≡ m = cc in
            record {
              later = ((rule_of action).does p.by_map p.old).0.device;
              there = p.there;
              keeps = same_moves action p.old p.by_map one two p.free;
            }
        by false other =
            moves_itself mid (left c.section c.seat chip s mid reply r (Act asked action) made other ∙ there)
    made_moves r (Identify n) made = by (bytes_eq chip n.chip) refl
      where
        by : (b : Bool) → bytes_eq chip n.chip ≡ b → Moves chip m d mid
        by true mine =
            let p = identified c.section c.seat chip s mid reply r n mine made in
            let was = p.was in
            let one : p.old ≡ d = cc in
            record {
              later = _;
              there = p.there;
              keeps = subst (λ (x : Device). Keeps m d (record x { state = Identified; serial = Some p.serial })) (sym one)
                  (identity_moves m d of p.serial (subst (λ (x : Device). is_one_of identified_from x.state ≡ true) one p.settled));
            }
        by false other =
            moves_itself mid (left c.section c.seat chip s mid reply r (Identify n) made other ∙ there)

    same_state : mid ≡ s → Moves chip m d mid
    same_state same = moves_itself mid (ap (own_device chip) same ∙ there)

    on_command : (r : Request) (command : Command)
        → Responds c.section c.seat s mid reply
        (respond_to c.section c.seat (solo_sight c.section c.seat s) r command) → Moves chip m d mid
    on_command r (Show showing) e = same_state (ap (λ (p : Response × SoloState). p.1) e)
    on_command r (Change change) e = by (comes_to c.section c.seat s mid reply r change e)
      where
        by : Comes c.section c.seat s mid reply r change → Moves chip m d mid
        by (inl made) = made_moves r change made
        by (inr (inl again)) = same_state again.same
        by (inr (inr denied)) = same_state denied.same

    on_wanted : (w : Wanted) → ◌≡◌ {A = Response × SoloState} (reply, mid) (alone_on c s w) → Moves chip m d mid
    on_wanted reports e = same_state (ap (λ (p : Response × SoloState). p.1) e)
    on_wanted (refused reason) e = same_state (ap (λ (p : Response × SoloState). p.1) e)
    on_wanted (asks r) e = on_command r r.command e

-- the same over the tables
record Lasts (customer chip : List ℕ) (m : Map) (d : Device) (t2 : Tables) : Type 0 where
  later : Device
  there : device_of customer chip t2 ≡ Some later
  keeps : Keeps m d later

own_lasts : {owners : Ownership} {t mid : Tables} → IsSound owners t → (site : Ownership) (x : Exchange)
    → Serves site x t mid → (chip : List ℕ) (d : Device) (m : Map)
    → device_of x.0.section.name chip t ≡ Some d → map_named x.0.section.name d.map t ≡ Some m
    → is_own x.0.section.name x ≡ true → Lasts x.0.section.name chip m d mid
own_lasts {t = t} {mid = mid} sound site x serves chip d m there named own =
    let moves = on_wanted chip m d (device_fits sound x.0.section.name chip d m there named) x.0
    (view x.0.section.name t) (view x.0.section.name mid) x.1 (sym (device_own x.0.section.name chip t) ∙ there)
    (sym (map_seen sound x.0.section x.0.seat d.map) ∙ named) x.0.wanted (serves.own x.0.section.name own) in
    record {
      later = moves.later;
      there = device_own x.0.section.name chip mid ∙ moves.there;
      keeps = moves.keeps;
    }

one_lasts : {owners : Ownership} {t mid : Tables} → IsSound owners t → (site : Ownership) (x : Exchange)
    → Serves site x t mid → (customer chip : List ℕ) (d : Device) (m : Map)
    → device_of customer chip t ≡ Some d → map_named customer d.map t ≡ Some m → Lasts customer chip m d mid
one_lasts {t = t} {mid = mid} sound site x serves customer chip d m there named = by (is_own customer x) refl
  where
    by : (b : Bool) → is_own customer x ≡ b → Lasts customer chip m d mid
    by false other = record {
      later = d;
      there = device_own customer chip mid
          ∙ (ap (own_device chip) (serves.other customer other) ∙ (sym (device_own customer chip t) ∙ there));
      keeps = keeps_itself m d;
    }
    by true own =
        subst (λ c. device_of c chip t ≡ Some d → map_named c d.map t ≡ Some m → is_own c x ≡ true → Lasts c chip m d mid)
        (sym (same_text customer x.0.section.name
        (and_parts (bytes_eq customer x.0.section.name) (not (is_unavailable x.1.status)) own).0))
        (own_lasts sound site x serves chip d m) there named own

lasts : (customer chip : List ℕ) (m : Map) (first : Ownership) (xs : List Exchange) (last : Ownership) (t t2 : Tables)
    → IsSound first t → AreSeats first (calls_of xs) last → IsRun xs t t2 → (d : Device)
    → device_of customer chip t ≡ Some d → map_named customer d.map t ≡ Some m → Lasts customer chip m d t2
lasts customer chip m first [] last t t2 sound seats run d there named = record {
  later = d;
  there = ap (device_of customer chip) run ∙ there;
  keeps = keeps_itself m d;
}
lasts customer chip m first (x ∷ xs) last t t2 sound seats run d there named =
    let one = serves_grown first x xs last t run.0 sound seats run.1 in
    let step = one_lasts sound seats.0 x one customer chip d m there named in
    let kept : map_named customer d.map run.0 ≡ Some m =
    (let stays = one.grows.maps customer d.map in rw named at stays) in
    let now : map_named customer step.later.map run.0 ≡ Some m =
    subst (λ digest. map_named customer digest run.0 ≡ Some m) (sym step.keeps.map) kept in
    let rest = lasts customer chip m seats.0 xs last run.0 t2 one.sound seats.4 run.2 step.later step.there now in
    record {
      later = rest.later;
      there = rest.there;
      keeps = keeps_both m d step.later rest.later step.keeps rest.keeps;
    }

pub expected_stays : (customer chip : List ℕ) (m : Map) (first : Ownership) (xs : List Exchange) (last : Ownership)
    (t t2 : Tables) → IsSound first t → AreSeats first (calls_of xs) last → IsRun xs t t2 → (d : Device)
    → device_of customer chip t ≡ Some d → map_named customer d.map t ≡ Some m → StaysExpected customer chip m d t2
expected_stays customer chip m first xs last t t2 sound seats run d there named =
    let is = lasts customer chip m first xs last t t2 sound seats run d there named in
    record { later = is.later; there = is.there; map = is.keeps.map; expected = is.keeps.expected }

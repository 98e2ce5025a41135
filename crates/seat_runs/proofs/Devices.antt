-- What a command makes of the device of a chip, of which something is still to be burnt.
use Rattle.std.proofs.Common.{◌≡◌, ◌⊎◌, ◌∷◌, ◌++◌}
use Rattle.text_core.proofs.Kit.{◌∙◌, ℕ, inl, inr, Bool, true, false, List, [], Option, Some, None, Equal, refl, sym, ap, subst}
use Rattle.text_core.proofs.Kit.{AllByRecursion, bytes_eq, find, is_some, map, not, nat_list_cmp_total, option_and_then, result_ok, same_text, tied_itself}
use Rattle.std.specs.Prelude.{if◌then◌else◌}
use Rattle.sha2.specs.Sha256.{sha256}
use Rattle.std.specs.Option.{option_map_or}
use Rattle.text_core.proofs.Lists.{find-passes}
use Rattle.fusemap_core.specs.Prelude.{Map}
use Rattle.id_ranges.specs.declared.rows.ImportRow.{ImportRow}
use Rattle.http_replies.specs.Prelude.{Answer as Response}
use Rattle.text_core.specs.Prelude.{first_that_holds}
use Rattle.site_core.specs.Prelude.{Section}
use Rattle.office_tables.specs.declared.rows.Device.{Device}
use Rattle.office_tables.specs.declared.rows.DeviceState.TheVariants.{Identified, Registered, Settled}
use Rattle.office_tables.specs.Prelude.{is_one_of, with_row}
use Rattle.office_tables.proofs.Finding.{other_placed}
use Rattle.office_tables.proofs.Places.{same_place}
use Rattle.office_commands.specs.declared.command.Action.{Action}
use Rattle.office_commands.specs.declared.command.Action.TheVariants.{Plan, ReadBack, Scrap, Ship}
use Rattle.office_commands.specs.declared.command.Change.{Change as Changing}
use Rattle.office_commands.specs.declared.command.Change.TheVariants.{Act, Identify, Import, ImportMap, MakeOrder, RegisterDevice}
use Rattle.office_commands.specs.declared.command.Command.TheVariants.{Change}
use Rattle.office_commands.specs.declared.command.Request.{Request}
use Rattle.office_rules.specs.Prelude.{Effect, Put, StepRule, action_refusals, effect, kept_of, map_in_sight, map_put, merged_rows}
use Rattle.office_rules.specs.Prelude.{record_put, row_of_import, refusals, rule_of, seat_put, Sight, step_effect, step_refusals}
use Rattle.office_rules.specs.Prelude.{OrderSight, Refusals, device_in_sight, identified_from, registration_refusals, state_refusal}
use Rattle.office_commands.specs.declared.refusal.Refusal.{Refusal}
use Rattle.office_commands.specs.declared.refusal.Refusal.TheVariants.{Exhausted, KeyBound}
use Rattle.office_commands.specs.declared.new_device.NewDevice.{NewDevice}
use Rattle.office_commands.specs.declared.new_identity.NewIdentity.{NewIdentity}
use Rattle.office_rules.proofs.Refusing.{first_is_false, lowest_none}
use Rattle.office_laws.specs.Prelude.{SoloState, by_text, solo_sight, with_put, with_puts}
use Rattle.office_laws.proofs.Placed.{found_replaced}
use Rattle.seat_runs.specs.Prelude.{IsAwaiting, is_end}
use Rattle.seat_runs.proofs.Coming.{IsMade}

-- the device of a chip in a customer's rows
abbrev pub own_device : List ℕ → SoloState → Option Device
own_device chip s = find (λ d. bytes_eq chip d.chip) s.devices

-- what refuses an identity by its order, and by its device
abbrev pub against_order : NewIdentity → Device → Option OrderSight → Refusals
against_order n d found = option_map_or (λ o. state_refusal identified_from d
    ∷ (not (is_some o.next), Exhausted) ∷ (o.is_bound n.key, KeyBound) ∷ []) found []

abbrev pub identity_against : Sight → NewIdentity → Map → Device → Refusals
identity_against v n m d = against_order n d (v.order d.order)

-- a device's row in its place
module _ (d : Device) (chip : List ℕ) where
  abbrev placed : List Device → Option Device
  placed rows = find (λ e. bytes_eq chip e.chip) (with_row (by_text (λ e. e.chip)) d rows)

  tied : (rows : List Device) → bytes_eq chip d.chip ≡ true
      → AllByRecursion (λ y. bytes_eq chip y.chip ≡ true → by_text (λ e. e.chip) d y ≡ Equal) rows
  tied [] mine = tt
  tied (y ∷ ys) mine = (
    λ its. rw (← same_text chip y.chip its, ← same_text chip d.chip mine)
        (tied_itself nat_list_cmp_total chip),
    tied ys mine,
  )

  pub device_found : (rows : List Device) → bytes_eq chip d.chip ≡ true → placed rows ≡ Some d
  device_found rows mine =
      found_replaced (by_text (λ e. e.chip)) d (λ e. bytes_eq chip e.chip) rows mine (tied rows mine)

  fails : bytes_eq chip d.chip ≡ false → (rows : List Device)
      → AllByRecursion (λ y. by_text (λ e. e.chip) d y ≡ Equal → bytes_eq chip y.chip ≡ false) rows
  fails differs [] = tt
  fails differs (y ∷ ys) = (λ same. rw (← same_place d.chip y.chip same) differs, fails differs ys)

  pub device_other : (rows : List Device) → bytes_eq chip d.chip ≡ false
      → placed rows ≡ find (λ e. bytes_eq chip e.chip) rows
  device_other rows differs =
      other_placed (λ e. bytes_eq chip e.chip) (by_text (λ e. e.chip)) d rows differs (fails differs rows)

-- a seat's row leaves the devices
pub devices_after : (ps : List Put) (row : _) (s : SoloState)
    → (with_puts (ps ++ seat_put row ∷ []) s).devices ≡ (with_puts ps s).devices
devices_after [] row s = refl
devices_after (p ∷ ps) row s = devices_after ps row (with_put p s)

-- a put leaves the device of a chip
abbrev LeavesDevice : List ℕ → Put → Type 0
LeavesDevice chip p = (s : SoloState) → own_device chip (with_put p s) ≡ own_device chip s

puts_leave : (chip : List ℕ) (ps : List Put) (s : SoloState) → AllByRecursion (LeavesDevice chip) ps
    → own_device chip (with_puts ps s) ≡ own_device chip s
puts_leave chip [] s leave = refl
puts_leave chip (p ∷ ps) s leave = puts_leave chip ps (with_put p s) leave.1 ∙ leave.0 s

-- what holds of nothing, and of all that comes of what was found
pub every : {A B : Type 0} (o : Option A) (f : A → Option B) (P : Option B → Type 0) → P None
    → ((x : A) → o ≡ Some x → P (f x)) → P (option_and_then f o)
every None f P none some = none
every (Some x) f P none some = some x refl

pub step_chip : (a : Action) (m : Map) (d : Device) → ((rule_of a).does m d).0.device.chip ≡ d.chip
step_chip (Plan wishes) m d = refl
step_chip (ReadBack blocks) m d = refl
step_chip Ship m d = refl
step_chip Scrap m d = refl

not_planned : (d : Device) → IsAwaiting d → is_one_of (Registered ∷ Settled ∷ []) d.state ≡ false
not_planned d (inl e) = rw e refl
not_planned d (inr e) = rw e refl

not_identified : (d : Device) → IsAwaiting d → is_one_of (Settled ∷ []) d.state ≡ false
not_identified d (inl e) = rw e refl
not_identified d (inr e) = rw e refl

not_shipped : (d : Device) → IsAwaiting d → is_one_of (Identified ∷ []) d.state ≡ false
not_shipped d (inl e) = rw e refl
not_shipped d (inr e) = rw e refl

-- a state that isn't one of these is refused
is_refused : (b : Bool) (reason : Refusal) (later : Option Refusal) → b ≡ false
    → (if not b then Some reason else later) ≡ None → ⊥
is_refused b reason later fails free =
    let t : not b ≡ true = ap not fails in
    let f : not b ≡ false = first_is_false (not b) reason later free in cc (t, f)

module _ (c : Section) (seat chip : List ℕ) (s : SoloState) where
  abbrev v : Sight
  v = solo_sight c seat s

  -- its puts leave the device of the chip
  abbrev Leaves : Option Effect → Type 0
  Leaves None = Unit {0}
  Leaves (Some made) = AllByRecursion (LeavesDevice chip) made.puts

  other_chip : (asked : List ℕ) (d : Device) → bytes_eq chip asked ≡ false → own_device asked s ≡ Some d
      → bytes_eq chip d.chip ≡ false
  other_chip asked d differs there =
      subst (λ name. bytes_eq chip name ≡ false)
      (same_text asked d.chip (find-passes (λ e. bytes_eq asked e.chip) s.devices d there)) differs

  step_leaves : (does : StepRule) (asked : List ℕ) → bytes_eq chip asked ≡ false
      → ((m : Map) (d : Device) → (does m d).0.device.chip ≡ d.chip)
      → Leaves (step_effect seat v does asked)
  step_leaves does asked differs same =
      every (v.device asked) _ Leaves tt (λ d there. every (map_in_sight v d.map) _ Leaves tt (λ m _. (
        λ st. device_other (does m d).0.device chip st.devices
            (rw (same m d) (other_chip asked d differs there)),
        tt,
      )))

  records_leave : (issuer : List ℕ) (rows : List ImportRow)
      → AllByRecursion (LeavesDevice chip) (map (λ r. record_put (row_of_import issuer r)) rows)
  records_leave issuer [] = tt
  records_leave issuer (r ∷ rs) = (λ _. refl, records_leave issuer rs)

  map_leaves : (text : List ℕ) (there : Bool)
      → AllByRecursion (LeavesDevice chip) (if there then [] else map_put text ∷ [])
  map_leaves text true = tt
  map_leaves text false = (λ _. refl, tt)

  -- the command names another chip, or none
  abbrev pub IsOther : Changing → Type 0
  IsOther (RegisterDevice n) = bytes_eq chip n.chip ≡ false
  IsOther (Act asked a) = bytes_eq chip asked ≡ false
  IsOther (Identify n) = bytes_eq chip n.chip ≡ false
  IsOther change = Unit {0}

  effect_leaves : (change : Changing) → IsOther change → Leaves (effect c seat v change)
  effect_leaves (MakeOrder n) other = every (v.issuer n.issuer) _ Leaves tt (λ given _. (λ _. refl, tt))
  effect_leaves (ImportMap text) other = map_leaves text (is_some (v.text (sha256 text)))
  effect_leaves (RegisterDevice n) other =
      every (map_in_sight v n.map) _ Leaves tt (λ m _. (λ st. device_other _ chip st.devices other, tt))
  effect_leaves (Act asked a) other = step_leaves (rule_of a).does asked other (step_chip a)
  effect_leaves (Identify n) other =
      every (v.device n.chip) _ Leaves tt (λ d there. every (map_in_sight v d.map) _ Leaves tt (λ m _.
      every (v.order d.order) _ Leaves tt (λ o _. every o.next _ Leaves tt (λ next _.
      (λ st. device_other _ chip st.devices (other_chip n.chip d other there), (λ _. refl, tt))))))
  effect_leaves (Import n) other =
      every (option_and_then result_ok (merged_rows v n)) _ Leaves tt (λ i _. records_leave n.issuer i.added)

  -- a device that was looked up with its map
  pub seen : (asked : List ℕ) (d : Device) (m : Map) → own_device asked s ≡ Some d → map_in_sight v d.map ≡ Some m
      → device_in_sight v asked ≡ Some (record { device = d; map = Some m })
  seen asked d m there known = rw (there, known) refl

  -- an action of a chip of which something is to be burnt reads it back or scraps it
  action_ends : (asked : List ℕ) (a : Action) (d : Device) (m : Map) → IsAwaiting d → bytes_eq chip asked ≡ true
      → first_that_holds (action_refusals a m d) ≡ None → is_end chip (Change (Act asked a)) ≡ true
  action_ends asked (Plan wishes) d m awaits mine free = absurd (is_refused _ _ _ (not_planned d awaits) free)
  action_ends asked (ReadBack blocks) d m awaits mine free = mine
  action_ends asked Ship d m awaits mine free = absurd (is_refused _ _ _ (not_shipped d awaits) free)
  action_ends asked Scrap d m awaits mine free = mine

  -- a command that names another chip leaves the device
  pub left : (mid : SoloState) (reply : Response) (r : Request) (change : Changing)
      → IsMade c seat s mid reply r change → IsOther change → own_device chip mid ≡ own_device chip s
  left mid reply r change made other =
      let leave : AllByRecursion (LeavesDevice chip) made.made.puts =
      subst Leaves made.is (effect_leaves change other) in
      ap (own_device chip) made.after
      ∙ (ap (find (λ e. bytes_eq chip e.chip))
      (devices_after made.made.puts (kept_of seat r made.made.body) s)
      ∙ puts_leave chip made.made.puts s leave)

  module _ (d : Device) (there : own_device chip s ≡ Some d) where
    here : (asked : List ℕ) → bytes_eq chip asked ≡ true → own_device asked s ≡ Some d
    here asked mine = rw (← same_text chip asked mine) there

    pub registers : (n : NewDevice) → bytes_eq chip n.chip ≡ true
        → first_that_holds (refusals c v (RegisterDevice n)) ≡ None → ⊥
    registers n mine free =
        let none : is_some (v.device n.chip) ≡ false = (lowest_none (registration_refusals v n) free).1.1.0 in
        let some : is_some (v.device n.chip) ≡ true = ap is_some (here n.chip mine) in cc (none, some)

    module _ (awaits : IsAwaiting d) where
      acts : (asked : List ℕ) (a : Action) → bytes_eq chip asked ≡ true
          → first_that_holds (refusals c v (Act asked a)) ≡ None → (made : Effect)
          → effect c seat v (Act asked a) ≡ Some made → is_end chip (Change (Act asked a)) ≡ true
      acts asked a mine free made is =
          every (v.device asked) _ (λ o. o ≡ Some made → is_end chip (Change (Act asked a)) ≡ true) (λ e. cc)
          (λ other found. every (map_in_sight v other.map) _
          (λ o. o ≡ Some made → is_end chip (Change (Act asked a)) ≡ true) (λ e. cc)
          (λ m known _.
          let same : other ≡ d = let h = here asked mine in cc in
          let looked = seen asked other m found known in
          let clear : first_that_holds (action_refusals a m other) ≡ None =
          subst (λ o. first_that_holds (step_refusals (action_refusals a) o) ≡ None) looked free in
          action_ends asked a other m (subst IsAwaiting (sym same) awaits) mine clear)) is

      identifies : (n : NewIdentity) → bytes_eq chip n.chip ≡ true
          → first_that_holds (refusals c v (Identify n)) ≡ None → (made : Effect)
          → effect c seat v (Identify n) ≡ Some made → ⊥
      identifies n mine free made is =
          every (v.device n.chip) _ (λ o. o ≡ Some made → ⊥) (λ e. cc) (λ other found.
          every (map_in_sight v other.map) _ (λ o. o ≡ Some made → ⊥) (λ e. cc) (λ m known.
          every (v.order other.order) _ (λ o. o ≡ Some made → ⊥) (λ e. cc) (λ o ordered _.
          let same : other ≡ d = let h = here n.chip mine in cc in
          let looked = seen n.chip other m found known in
          let clear = subst (λ o. first_that_holds (step_refusals (identity_against v n) o) ≡ None)
          looked free in
          let first = subst (λ o. first_that_holds (against_order n other o) ≡ None) ordered clear in
          is_refused _ _ _ (not_identified other (subst IsAwaiting (sym same) awaits)) first))) is

      module _ (mid : SoloState) (reply : Response) (r : Request) where
        abbrev Kept : Changing → Type 0
        Kept change = (own_device chip mid ≡ Some d) ⊎ (is_end chip (Change change) ≡ true)

        -- a command that is made leaves the device, or reads its chip back or scraps it
        pub made_keeps : (change : Changing) → IsMade c seat s mid reply r change → Kept change
        made_keeps (MakeOrder n) made = inl (left mid reply r (MakeOrder n) made tt ∙ there)
        made_keeps (ImportMap text) made = inl (left mid reply r (ImportMap text) made tt ∙ there)
        made_keeps (Import n) made = inl (left mid reply r (Import n) made tt ∙ there)
        made_keeps (RegisterDevice n) made = by (bytes_eq chip n.chip) refl
          where
            by : (b : Bool) → bytes_eq chip n.chip ≡ b → Kept (RegisterDevice n)
            by true mine = absurd (registers n mine made.free)
            by false other = inl (left mid reply r (RegisterDevice n) made other ∙ there)
        made_keeps (Act asked a) made = by (bytes_eq chip asked) refl
          where
            by : (b : Bool) → bytes_eq chip asked ≡ b → Kept (Act asked a)
            by true mine = inr (acts asked a mine made.free made.made made.is)
            by false other = inl (left mid reply r (Act asked a) made other ∙ there)
        made_keeps (Identify n) made = by (bytes_eq chip n.chip) refl
          where
            by : (b : Bool) → bytes_eq chip n.chip ≡ b → Kept (Identify n)
            by true mine = absurd (identifies n mine made.free made.made made.is)
            by false other = inl (left mid reply r (Identify n) made other ∙ there)

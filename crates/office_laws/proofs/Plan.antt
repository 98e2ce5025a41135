-- A plan keeps of its device what its map asks for.
use Rattle.std.proofs.Common.{◌≡◌, ◌∷◌, ◌&&◌, ◌==◌, if◌then◌else◌}
use Rattle.text_core.proofs.Kit.{◌∙◌, ℕ, Bool, true, false, List, [], Option, Some, None, Ok, refl, sym, ap, subst, true≢false, map as list_map, is_some}
use Rattle.text_core.proofs.Kit.{length, nat_lt, option_and_then, IfSome, option_or, AllByRecursion, eqb-true}
use Rattle.std.specs.FinMap as table
use Rattle.std.specs.FinSet as set
use Rattle.text_core.specs.Prelude.{first_that_holds}
use Rattle.fusemap_core.specs.Prelude.{IsMap, Map, field_named}
use Rattle.office_laws.proofs.Types.{Field, Image, Pending, Want, PlanFault, Wish, Device, DeviceState, OfCustomer}
use Rattle.fuse_plan.specs.declared.wish.Want.TheVariants.{Bit, Key, ReadLock, Value, WriteLock}
use Rattle.office_commands.specs.declared.refusal.Refusal.TheVariants.{BadPlan}
use Rattle.fuse_image.specs.Prelude.{HoldsDigests, KeyTable, get-table_where, has_no_key, table_where, keys_without, Positions, is_empty, IsPending}
use Rattle.fuse_columns.specs.Prelude.{todo_column, pending_in}
use Rattle.fuse_columns.proofs.LawProofs.{work_comes_back}
use Rattle.fuse_plan.specs.Prelude.{faults, plan_of, key_of_want, missing, wanted_key, wanted_keys, wants_of}
use Rattle.fuse_plan.proofs.InMap.{plan_in_map}
use Rattle.fuse_plan.proofs.Pending.{plan_law}
use Rattle.office_tables.specs.Prelude.{state_row}
use Rattle.office_commands.specs.Prelude.{HasDigest}
use Rattle.office_rules.specs.Prelude.{known_of, wish_refusals, step_of_plan, state_of_pending, pending_of_wishes}
use Rattle.office_laws.specs.Prelude.{IsAwaited, IsOfBatches, SerialIsOfIdentified}
use Rattle.office_laws.proofs.Keeping.{Keeps}
use Rattle.office_laws.proofs.Unread.{unread_keeps}
use Rattle.office_tables.specs.declared.rows.Event.TheVariants as event

-- wishes that nothing refuses have no fault
pub no_fault_from : (cs : List (Bool × PlanFault)) → first_that_holds (list_map (λ c. (c.0, BadPlan c.1)) cs) ≡ None → first_that_holds cs ≡ None
no_fault_from [] free = refl
no_fault_from (c ∷ cs) free =
    elim (c.0) as (λ b. (if b then Some (BadPlan c.1) else first_that_holds (list_map (λ c. (c.0, BadPlan c.1)) cs)) ≡ None
    → (if b then Some c.1 else first_that_holds cs) ≡ None) [
      | true ↦ λ free. cc
      | false ↦ λ free. no_fault_from cs free
    ] free

no_positions : (s : Positions) → is_empty s ≡ true → s ≡ set.empty
no_positions s is = set.empty_of_len s (eqb-true (set.len s) 0 is)

no_keys : (t : KeyTable) → has_no_key t ≡ true → t ≡ table.empty
no_keys t is = table.empty_of_len t (eqb-true (table.len t) 0 is)

-- what holds in each of three cases, of two tests and a third one within, holds of the case that it is
by_tests : {A : Type 0} (P : A → Type 0) (x y z : A) (f k s : Bool) → (f ≡ true → k ≡ true → s ≡ true → P x) → (f ≡ true → k ≡ true → s ≡ false → P y)
    → P z → P (if f && k then (if s then x else y) else z)
by_tests P x y z true true true all first none = all refl refl refl
by_tests P x y z true true false all first none = first refl refl refl
by_tests P x y z true false s all first none = none
by_tests P x y z false k s all first none = none

-- work goes with the state that it leads to
pub of_its_state : (w : Pending) → IsOfBatches (state_row (state_of_pending w)).pending w
of_its_state w =
    by_tests (λ (state : DeviceState). IsOfBatches (state_row state).pending w) _ _ _ (is_empty w.first) (has_no_key w.keys) (is_empty w.second)
    (λ f k s i. record { first = no_positions w.first f i; second = no_positions w.second s i; keys = no_keys w.keys k i })
    (λ f k s. (no_positions w.first f, no_keys w.keys k)) tt

module _ (m : Map) (is : IsMap m) where
  module _ (d : Device) (ws : List Wish) where
    pub plan_keeps : first_that_holds (wish_refusals ws m d) ≡ None → HoldsDigests (missing (known_of m d) (wants_of m ws)).keys → d.serial ≡ None
        → Keeps m d (step_of_plan (pending_of_wishes ws m d) m d)
    plan_keeps free digests unnumbered =
        let a : Image = known_of m d in
        let w : Pending = pending_of_wishes ws m d in
        let no_fault : first_that_holds (faults m a ws) ≡ None = no_fault_from (faults m a ws) free in
        let is_plan : plan_of m a ws ≡ Ok w = rw no_fault refl in
        let lies : IsPending m w = plan_in_map m is a ws (wants_of m ws) (missing a (wants_of m ws)) refl refl no_fault digests in
        let back : pending_in m (todo_column m w) ≡ w = work_comes_back m is w lies in
        let awaited : IsAwaited m a (state_of_pending w) w = record { by_state = of_its_state w; pending = plan_law m is a ws w is_plan } in
        unread_keeps m is d event.Planned (state_of_pending w) (todo_column m w) d.serial (λ serial has. has) (λ has.
        absurd (true≢false (sym has ∙ ap is_some unnumbered)))
        (λ es was. (ap (todo_column m) back, subst (IsAwaited m a (state_of_pending w)) (sym back) awaited))

-- a device in a state that passes a test has no serial number, where no state that may have one passes it
pub unnumbered_where : (may : DeviceState → Bool)
    → ((state : DeviceState) → may state ≡ true → (state_row state).may_have_serial ≡ false)
    → (d : OfCustomer Device) → SerialIsOfIdentified d → may d.row.state ≡ true → d.row.serial ≡ None
unnumbered_where may none d numbered its = by d.row.serial refl
  where
    by : (serial : Option (List ℕ)) → d.row.serial ≡ serial → serial ≡ None
    by None is = refl
    by (Some text) is = absurd (true≢false (sym (numbered (ap is_some is)) ∙ none d.row.state its))

-- the keys that wishes ask for are digests where those of the wishes are
wanted_digest : (m : Map) (b : ℕ) (ws : List Wish) → AllByRecursion (λ w. HasDigest w.want) ws → IfSome (wanted_key m b ws) (λ digest. length digest ≡ 32)
wanted_digest m b [] all = tt
wanted_digest m b (w ∷ ws) all = by (field_named w.field m.fields) w.want all.0 (wanted_digest m b ws all.1)
  where
    by : (f : Option Field) (want : Want) → HasDigest want → IfSome (wanted_key m b ws) (λ digest.
        length digest ≡ 32) → IfSome (option_or (option_and_then (key_of_want b want) f) (wanted_key m b ws)) (λ digest. length digest ≡ 32)
    by None want is later = later
    by (Some f) (Bit i) is later = later
    by (Some f) (Value v) is later = later
    by (Some f) (Key digest) is later =
        elim (f.key && f.block == b) as (λ x. IfSome (option_or (if x then Some digest else None) (wanted_key m b ws)) (λ digest. length digest ≡ 32))
        [ true ↦ is | false ↦ later ]
    by (Some f) WriteLock is later = later
    by (Some f) ReadLock is later = later

-- what holds of each key of a table's function holds of the table's keys
in_table : (P : List ℕ → Type 0) (f : ℕ → Option (List ℕ)) → ((b : ℕ) → IfSome (f b) P) → (b : ℕ) → IfSome (table.get (table_where f) b) P
in_table P f each b = rw (get-table_where f b) (elim (nat_lt b 4) as (λ x. IfSome (if x then f b else None) P) [ true ↦ each b | false ↦ tt ])

pub missing_digests : (m : Map) (a : Image) (ws : List Wish) → AllByRecursion (λ w. HasDigest w.want) ws → HoldsDigests (missing a (wants_of m ws)).keys
unfolding wanted_keys keys_without
missing_digests m a ws all =
    in_table (λ digest. length digest ≡ 32) (λ b. if is_some (table.get a.keys b) then None else table.get (table_where (λ c. wanted_key m c ws)) b) (λ b.
    elim (is_some (table.get a.keys b)) as
    (λ x. IfSome (if x then None else table.get (table_where (λ c. wanted_key m c ws)) b) (λ digest. length digest ≡ 32)) [
      | true ↦ tt
      | false ↦ in_table (λ digest. length digest ≡ 32) (λ c. wanted_key m c ws) (λ c. wanted_digest m c ws all) b
    ])

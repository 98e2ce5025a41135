-- What is burnt of a device or is to be burnt is so behind each step of it, unless it is given up.
use Rattle.std.proofs.Common.{◌≡◌, ◌∷◌}
use Rattle.text_core.proofs.Kit.{◌∙◌, ℕ, Bool, true, false, List, [], Some, None, refl, sym, ap, subst, bytes_eq-Decides, not, not-false}
use Rattle.std.specs.FinMap as table
use Rattle.text_core.specs.Prelude.{first_that_holds}
use Rattle.fusemap_core.specs.Prelude.{IsMap, Map}
use Rattle.fuse_image.specs.declared.image.Image.{Image}
use Rattle.fuse_image.specs.declared.pending.Pending.{Pending}
use Rattle.fuse_image.specs.declared.redaction.ReadBack.{ReadBack as Seen}
use Rattle.fuse_image.specs.Prelude.{AreBits, AreKeysOf, IsImageWithin, IsPending, ReadBackInMap, WordsFitMap, no_pending, redacted}
use Rattle.fuse_image.proofs.InMap.{read_backs_in_map, sets_stay, tables_stay}
use Rattle.fuse_columns.specs.Prelude.{bits_column, image_in, keys_column, pending_in, todo_column}
use Rattle.fuse_columns.proofs.LawProofs.{bits_lie_in_map, image_comes_back, keys_lie_in_map, work_comes_back, work_lies_in_map}
use Rattle.fuse_plan.specs.declared.verdict.Verdict.{Verdict}
use Rattle.fuse_plan.specs.declared.verdict.Verdict.TheVariants.{Fault, Match, Short}
use Rattle.fuse_plan.specs.declared.wish.Wish.{Wish}
use Rattle.office_commands.specs.declared.refusal.Refusal.TheVariants.{WrongState}
use Rattle.fuse_plan.specs.Prelude.{faults, image_after, is_no_fault, rest_of, verdict_of, wants_of, missing}
use Rattle.fuse_plan.proofs.InMap.{plan_in_map}
use Rattle.fuse_plan.proofs.Pending.{rest_law}
use Rattle.office_tables.specs.declared.rows.Batches.{Batches}
use Rattle.office_tables.specs.declared.rows.Batches.TheVariants.{Both, Neither, Second}
use Rattle.office_tables.specs.declared.rows.Device.{Device}
use Rattle.office_tables.specs.declared.rows.DeviceState.{DeviceState}
use Rattle.office_tables.specs.declared.rows.DeviceState.TheVariants.{AwaitingFirst, AwaitingSecond, Identified, Registered, Settled}
use Rattle.office_tables.specs.Prelude.{is_one_of, state_row}
use Rattle.office_commands.specs.declared.command.Action.{Action}
use Rattle.office_commands.specs.declared.command.Action.TheVariants.{Plan, ReadBack, Scrap, Ship}
use Rattle.office_commands.specs.Prelude.{IsAction}
use Rattle.office_rules.specs.Prelude.{action_refusals, known_of, next_batch, pending_after, pending_of_wishes, reads_redacted, rule_of}
use Rattle.office_rules.specs.Prelude.{state_after, step_of_plan, verdict_of_read_back, with_rest}
use Rattle.office_rules.proofs.Refusing.{first_is_false, later_is_none}
use Rattle.office_laws.specs.Prelude.{IsAwaited, IsOfBatches}
use Rattle.office_laws.proofs.Plan.{missing_digests, no_fault_from}
use Rattle.office_laws.proofs.ReadBack.{lies_after}
use Rattle.office_laws.proofs.Within.{within_both, within_itself}
use Rattle.seat_runs.specs.Prelude.{expected_of}
use Rattle.seat_runs.proofs.Images.{all_of, first_stays, plan_stays, second_stays}

-- a device of a map, with what is to be burnt of it
pub record IsOfMap (m : Map) (d : Device) : Type 0 where
  pub is_map : IsMap m
  pub awaited : IsAwaited m (known_of m d) d.state (pending_in m d.todo)

-- the device has left its order
abbrev pub is_up : Device → Bool
is_up d = (state_row d.state).is_given_up

-- the later row has all that the earlier one has, unless the device is given up
pub record Keeps (m : Map) (d later : Device) : Type 0 where
  pub map : later.map ≡ d.map
  pub up : is_up d ≡ true → is_up later ≡ true
  pub expected : is_up later ≡ false → IsImageWithin (expected_of m d) (expected_of m later)

pub keeps_itself : (m : Map) (d : Device) → Keeps m d d
keeps_itself m d = record { map = refl; up = λ up. up; expected = λ _. within_itself (expected_of m d) }

pub keeps_both : (m : Map) (a b c : Device) → Keeps m a b → Keeps m b c → Keeps m a c
keeps_both m a b c one two = record {
  map = two.map ∙ one.map;
  up = λ up. two.up (one.up up);
  expected = λ down. within_both (expected_of m a) (expected_of m b) (expected_of m c) (one.expected (by (is_up b) refl down))
      (two.expected down);
}
  where
    by : (x : Bool) → is_up b ≡ x → is_up c ≡ false → is_up b ≡ false
    by true is down = let t = two.up is in cc (t, down)
    by false is down = is

-- what a read-back without a fault leaves of each kind of work
module _ (m : Map) (a : Image) (r : Seen) (w : Pending) where
  abbrev verdict : Batches → Verdict
  verdict b = verdict_of m a (next_batch b w).burnt (next_batch b w).keys r

  rest_stays : (b : Batches) → (b ≡ Neither → ⊥) → IsOfBatches b w → AreKeysOf m w.keys → is_no_fault (verdict b) ≡ true
      → IsImageWithin (all_of a w) (all_of (image_after a r) (with_rest b (rest_of (verdict b)) w))
  rest_stays Both some its lies right =
      subst (λ (x : Image). IsImageWithin (all_of a w) (all_of (image_after a r) (with_rest Both x w)))
      (sym (rest_law m a w.first w.keys r right)) (first_stays m a r w lies.keys right)
  rest_stays Second some its lies right =
      subst (λ (x : Image). IsImageWithin (all_of a w) (all_of (image_after a r) (with_rest Second x w)))
      (sym (rest_law m a w.second table.empty r right)) (second_stays m a r w its.0 its.1)
  rest_stays Neither some its lies right = absurd (some refl)

-- ---- states
idle_states : (s : DeviceState) → is_one_of (Registered ∷ Settled ∷ []) s ≡ true
    → ((state_row s).pending ≡ Neither) × ((state_row s).is_given_up ≡ false)
idle_states Registered is = (refl, refl)
idle_states Settled is = (refl, refl)
idle_states _ is = cc

read_states : (s : DeviceState) → is_one_of (AwaitingFirst ∷ AwaitingSecond ∷ []) s ≡ true
    → ((state_row s).pending ≡ Neither → ⊥) × ((state_row s).is_given_up ≡ false)
read_states AwaitingFirst is = ((λ e. cc), refl)
read_states AwaitingSecond is = ((λ e. cc), refl)
read_states _ is = cc

-- a state of an order
settled_in_order : (s : DeviceState) → is_one_of (Settled ∷ []) s ≡ true → (state_row s).is_given_up ≡ false
settled_in_order Settled is = refl
settled_in_order _ is = cc

identified_in_order : (s : DeviceState) → is_one_of (Identified ∷ []) s ≡ true → (state_row s).is_given_up ≡ false
identified_in_order Identified is = refl
identified_in_order _ is = cc

module _ (m : Map) (d : Device) (of : IsOfMap m d) where
  abbrev a : Image
  a = known_of m d

  abbrev w : Pending
  w = pending_in m d.todo

  -- a read-back
  module _ (r : Seen) (ones : AreBits m r.ones) (shown : AreKeysOf m r.shown)
      (states : ((state_row d.state).pending ≡ Neither → ⊥) × (is_up d ≡ false)) where
    abbrev v : Verdict
    v = verdict_of_read_back r m d

    read_core : (found : Verdict) → v ≡ found → (state_row (state_after found d.state w)).is_given_up ≡ false
        → IsImageWithin (all_of a w) (all_of (image_after a r) (pending_after found d.state w))
    read_core (Fault fault) e down = cc
    read_core Match e down =
        subst (λ (x : Verdict). IsImageWithin (all_of a w)
        (all_of (image_after a r) (with_rest (state_row d.state).pending (rest_of x) w))) e
        (rest_stays m a r w (state_row d.state).pending states.0 of.awaited.by_state
        (work_lies_in_map m d.todo).keys (ap is_no_fault e))
    read_core (Short left) e down =
        subst (λ (x : Verdict). IsImageWithin (all_of a w)
        (all_of (image_after a r) (with_rest (state_row d.state).pending (rest_of x) w))) e
        (rest_stays m a r w (state_row d.state).pending states.0 of.awaited.by_state
        (work_lies_in_map m d.todo).keys (ap is_no_fault e))

    read_moves : Keeps m d (reads_redacted r m d).0.device
    read_moves =
        let b : Image = image_after a r in
        let burnt : AreBits m b.burnt = (sets_stay m).union a.burnt r.ones (bits_lie_in_map m d.bits) ones in
        let known : AreKeysOf m b.keys = (tables_stay m).joined a.keys r.shown (keys_lie_in_map m d.keys) shown in
        let back : image_in m (bits_column m b.burnt) (keys_column m b.keys) ≡ b =
        image_comes_back m of.is_map b burnt known in
        let lies : IsPending m (pending_after v d.state w) =
        lies_after m a r d.state w (work_lies_in_map m d.todo) v refl in
        let work_back : pending_in m (todo_column m (pending_after v d.state w)) ≡ pending_after v d.state w =
        work_comes_back m of.is_map (pending_after v d.state w) lies in
        record {
          map = refl;
          up = λ up. let down = states.1 in cc (up, down);
          expected = λ down. subst (λ (x : Image). IsImageWithin (all_of a w) x)
              (λ i. all_of (sym back i) (sym work_back i)) (read_core v refl down);
        }

  -- a plan, of a device of which nothing was to be burnt
  plan_moves : (work : Pending) → is_one_of (Registered ∷ Settled ∷ []) d.state ≡ true
      → Keeps m d (step_of_plan work m d).device
  plan_moves work is =
      let states = idle_states d.state is in
      let none : w ≡ no_pending = subst (λ b. IsOfBatches b w) states.0 of.awaited.by_state in
      record {
        map = refl;
        up = λ up. let down = states.1 in cc (up, down);
        expected = λ _. subst (λ (x : Pending). IsImageWithin (all_of a x) (all_of a (pending_in m (todo_column m work))))
            (sym none) (plan_stays a (pending_in m (todo_column m work)));
      }

  pub identity_moves : (serial : List ℕ) → is_one_of (Settled ∷ []) d.state ≡ true
      → Keeps m d (record d { state = Identified; serial = Some serial })
  identity_moves serial is = record {
    map = refl;
    up = λ up. let down = settled_in_order d.state is in cc (up, down);
    expected = λ _. within_itself (expected_of m d);
  }

  goes_on : (action : Action) → first_that_holds (action_refusals action m d) ≡ None
      → is_one_of (rule_of action).from d.state ≡ true
  goes_on action free = not-false _ (first_is_false _ _ _ free)

  pub action_moves : (action : Action) → first_that_holds (action_refusals action m d) ≡ None
      → Keeps m d ((rule_of action).does m d).0.device
  action_moves (Plan wishes) free = plan_moves (pending_of_wishes wishes m d) (goes_on (Plan wishes) free)
  action_moves (ReadBack blocks) free =
      let fit : WordsFitMap m blocks = (bytes_eq-Decides _ _).0
      (not-false _ (first_is_false _ _ _ (later_is_none _ _ _ free))) in
      let lies : ReadBackInMap m blocks = read_backs_in_map m blocks fit in
      read_moves (redacted m blocks) lies.ones lies.shown (read_states d.state (goes_on (ReadBack blocks) free))
  action_moves Ship free = record {
    map = refl;
    up = λ up. let down = identified_in_order d.state (goes_on Ship free) in cc (up, down);
    expected = λ _. within_itself (expected_of m d);
  }
  action_moves Scrap free = record { map = refl; up = λ _. refl; expected = λ down. cc }

  -- what a plan leaves to be burnt is its work
  pub plan_pending : (wishes : List Wish) → IsAction (Plan wishes)
      → first_that_holds (action_refusals (Plan wishes) m d) ≡ None
      → pending_in m (todo_column m (pending_of_wishes wishes m d)) ≡ pending_of_wishes wishes m d
  plan_pending wishes asked free =
      work_comes_back m of.is_map (pending_of_wishes wishes m d)
      (plan_in_map m of.is_map a wishes (wants_of m wishes) (missing a (wants_of m wishes)) refl refl
      (no_fault_from (faults m a wishes)
      (later_is_none (not (is_one_of (rule_of (Plan wishes)).from d.state)) WrongState _ free)) (missing_digests m a wishes asked))

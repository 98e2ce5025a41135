-- Each action of a device that nothing refuses keeps of the device what its map asks for.
use Rattle.std.proofs.Common.{◌≡◌, arith}
use Rattle.text_core.proofs.Kit.{ℕ, List, true, false, None, refl, not-false, bytes_eq-Decides}
use Rattle.text_core.specs.Prelude.{first_that_holds}
use Rattle.fusemap_core.specs.Prelude.{IsMap, Map}
use Rattle.fuse_image.specs.Prelude.{ReadBackInMap, WordsFitMap, redacted}
use Rattle.fuse_image.proofs.InMap.{read_backs_in_map}
use Rattle.office_tables.specs.Prelude.{is_one_of, state_row}
use Rattle.office_laws.proofs.Types.{Device, DeviceState, Neither, OfCustomer, Action, Wish}
use Rattle.office_commands.specs.declared.command.Action.TheVariants.{Plan, Scrap, Ship, ReadBack}
use Rattle.office_commands.specs.Prelude.{IsAction}
use Rattle.office_rules.specs.Prelude.{action_refusals, rule_of, known_of}
use Rattle.office_rules.proofs.Refusing.{first_is_false, later_is_none}
use Rattle.office_laws.specs.Prelude.{SerialIsOfIdentified}
use Rattle.office_laws.proofs.End.{emptied_keeps, idle_keeps}
use Rattle.office_laws.proofs.Keeping.{Keeps}
use Rattle.office_laws.proofs.Plan.{missing_digests, plan_keeps, unnumbered_where}
use Rattle.office_laws.proofs.ReadBack.{read_keeps}

-- what is planned or read back has no serial number yet, and nothing is pending of what is shipped
planned_unnumbered : (wishes : List Wish) (s : DeviceState) → is_one_of (rule_of (Plan wishes)).from s ≡ true
    → (state_row s).may_have_serial ≡ false
planned_unnumbered wishes s may = grind arith

read_unnumbered : (blocks : List (List ℕ)) (s : DeviceState) → is_one_of (rule_of (ReadBack blocks)).from s ≡ true
    → (state_row s).may_have_serial ≡ false
read_unnumbered blocks s may = grind arith

ships_idle : (s : DeviceState) → is_one_of (rule_of Ship).from s ≡ true → Neither ≡ (state_row s).pending
ships_idle s may = grind arith

-- what is planned, read back or shipped hasn't left its order
plans_in_order : (wishes : List Wish) (s : DeviceState) → is_one_of (rule_of (Plan wishes)).from s ≡ true
    → (state_row s).is_given_up ≡ false
plans_in_order wishes s may = grind arith

reads_in_order : (blocks : List (List ℕ)) (s : DeviceState) → is_one_of (rule_of (ReadBack blocks)).from s ≡ true
    → (state_row s).is_given_up ≡ false
reads_in_order blocks s may = grind arith

ships_in_order : (s : DeviceState) → is_one_of (rule_of Ship).from s ≡ true → (state_row s).is_given_up ≡ false
ships_in_order s may = grind arith

module _ (m : Map) (is : IsMap m) (old : OfCustomer Device) (numbered : SerialIsOfIdentified old) where
  abbrev IsFree : Action → Type 0
  IsFree a = first_that_holds (action_refusals a m old.row) ≡ None

  -- the device is in one of the states from which the action goes on
  goes_on : (a : Action) → IsFree a → is_one_of (rule_of a).from old.row.state ≡ true
  goes_on a free = not-false _ (first_is_false _ _ _ free)

  -- it has no serial number, where none of these may have one
  unnumbered : (a : Action)
      → ((s : DeviceState) → is_one_of (rule_of a).from s ≡ true → (state_row s).may_have_serial ≡ false)
      → IsFree a → old.row.serial ≡ None
  unnumbered a none free = unnumbered_where (is_one_of (rule_of a).from) none old numbered (goes_on a free)

  -- an action that nothing refuses keeps of the device what its map asks for
  pub action_keeps : (a : Action) → IsAction a → IsFree a → Keeps m old.row ((rule_of a).does m old.row).0
  action_keeps (Plan wishes) asked free =
      plan_keeps m is old.row wishes (later_is_none _ _ _ free)
      (missing_digests m (known_of m old.row) wishes asked)
      (unnumbered (Plan wishes) (planned_unnumbered wishes) free)
  action_keeps (ReadBack blocks) asked free =
      let fit : WordsFitMap m blocks = (bytes_eq-Decides _ _).0
      (not-false _ (first_is_false _ _ _ (later_is_none _ _ _ free))) in
      let lies : ReadBackInMap m blocks = read_backs_in_map m blocks fit in
      read_keeps m is old.row (redacted m blocks) lies.ones lies.shown
      (unnumbered (ReadBack blocks) (read_unnumbered blocks) free)
  action_keeps Ship asked free = idle_keeps m is old.row _ _ refl (ships_idle old.row.state (goes_on Ship free))
  action_keeps Scrap asked free = emptied_keeps m is old.row _ _ refl refl

  -- what has left its order doesn't come back
  pub stays_given_up : (a : Action) → IsAction a → IsFree a → (state_row old.row.state).is_given_up ≡ true
      → (state_row ((rule_of a).does m old.row).0.device.state).is_given_up ≡ true
  stays_given_up (Plan wishes) asked free up =
      let none = plans_in_order wishes old.row.state (goes_on (Plan wishes) free) in cc (none, up)
  stays_given_up (ReadBack blocks) asked free up =
      let none = reads_in_order blocks old.row.state (goes_on (ReadBack blocks) free) in cc (none, up)
  stays_given_up Ship asked free up =
      let none = ships_in_order old.row.state (goes_on Ship free) in cc (none, up)
  stays_given_up Scrap asked free up = refl

-- An identity, and a step that leaves nothing pending, keep of their device what its map asks for.
use Rattle.std.proofs.Common.{◌≡◌, true, false, List, ℕ, Some, None, refl, sym, ap, arith, subst}
use Rattle.fusemap_core.specs.Prelude.{IsMap, Map}
use Rattle.fuse_image.specs.Prelude.{no_pending}
use Rattle.fuse_columns.specs.Prelude.{todo_column, pending_in}
use Rattle.fuse_columns.proofs.LawProofs.{work_comes_back}
use Rattle.office_tables.specs.Prelude.{is_one_of, state_row}
use Rattle.office_laws.proofs.Types.{Batches, Neither, Device, DeviceState, Entry, Event, OfCustomer}
use Rattle.office_rules.specs.Prelude.{identified_from, step_of_identity, known_of, without_addition}
use Rattle.fuse_plan.specs.Prelude.{PendingFitsImage}
use Rattle.office_laws.specs.Prelude.{IsAwaited, IsOfBatches, FitsFuseMap}
use Rattle.office_laws.proofs.Registration.{no_work_lies, nothing_pending}
use Rattle.office_laws.proofs.Keeping.{Keeps}
use Rattle.office_laws.proofs.Unread.{unread_keeps}

-- nothing is pending of a device that may be identified, and it has no serial number yet
identifies_idle : (state : DeviceState) → is_one_of identified_from state ≡ true → Neither ≡ (state_row state).pending
identifies_idle state may = grind arith

pub identifies_unnumbered : (state : DeviceState) → is_one_of identified_from state ≡ true
    → (state_row state).may_have_serial ≡ false
identifies_unnumbered state may = grind arith

-- and it hasn't left its order
pub identifies_in_order : (state : DeviceState) → is_one_of identified_from state ≡ true
    → (state_row state).is_given_up ≡ false
identifies_in_order state may = grind arith

module _ (m : Map) (is : IsMap m) (d : Device) where
  -- nothing is pending of it in a later state
  stays_idle : (state : DeviceState) → (state_row state).pending ≡ (state_row d.state).pending
      → (es : List (OfCustomer Entry)) → FitsFuseMap m d es
      → (todo_column m (pending_in m d.todo) ≡ d.todo) × IsAwaited m (known_of m d) state (pending_in m d.todo)
  stays_idle state same es was = (
    was.todo_back,
    record {
      by_state = subst (λ (b : Batches). IsOfBatches b (pending_in m d.todo)) (sym same) was.pending.by_state;
      pending = was.pending.pending;
    },
  )

  -- as much is pending in the new state as in the old one, whose work stays
  pub idle_keeps : (event : Event) (state : DeviceState) → (state_row state).may_have_serial ≡ true → (state_row state).pending ≡ (state_row d.state).pending
      → Keeps m d (without_addition event m (record d { state = state }))
  idle_keeps event state numbered same = unread_keeps m is d event state d.todo d.serial (λ text has. has) (λ has. numbered) (stays_idle state same)

  -- nothing is pending in the new state, and no work is left
  pub emptied_keeps : (event : Event) (state : DeviceState) → (state_row state).may_have_serial ≡ true → Neither ≡ (state_row state).pending
      → Keeps m d (without_addition event m (record d { state = state; todo = todo_column m no_pending }))
  emptied_keeps event state numbered none =
      let back : pending_in m (todo_column m no_pending) ≡ no_pending = work_comes_back m is no_pending (no_work_lies m) in
      unread_keeps m is d event state (todo_column m no_pending) d.serial (λ text has. has) (λ has. numbered)
      (λ es was. (
        ap (todo_column m) back,
        record {
          by_state = subst (λ (b : Batches). IsOfBatches b (pending_in m (todo_column m no_pending))) none back;
          pending = subst (PendingFitsImage m _) (sym back) (nothing_pending m _);
        },
      ))

  pub identity_keeps : (serial : List ℕ) → is_one_of identified_from d.state ≡ true → d.serial ≡ None → Keeps m d (step_of_identity serial m d)
  identity_keeps serial may unnumbered =
      unread_keeps m is d _ _ d.todo (Some serial) (λ text has. cc (has, unnumbered)) (λ has. refl)
      (stays_idle _ (identifies_idle d.state may))

-- What a crash leaves opens again, as the kit's store says, and the keeper says what that is.
use Rattle.text_core.proofs.Kit.{arith, subst, ∥∥₁_map}
use Rattle.office_sql.proofs.Kit.{over_files, HoldsDatabase, Trees, HasCleanDisk, state, opens_again}
use Rattle.office_store.specs.Prelude.{may_leave_at}
use Rattle.store_inspection.specs.Prelude.{HoldsSite, IsOfSite}
use Rattle.office_store.proofs.ending.into_store.Goals as goal

pub returns-clause-was_honest : goal.returns-clause-was_honest
returns-clause-was_honest g c = λ clean.
    let calm : HasCleanDisk (state over_files c.into_connection-conn.result) = omega (arith, c.into_store.ensures.quiet.clean, clean) in
    subst (λ k. HasCleanDisk (state over_files k)) c.into_connection-conn.ensures.same calm

pub returns-clause-held : goal.returns-clause-held
returns-clause-held g c = λ clean left may.
    let store = c.into_store.ensures in
    let calm : HasCleanDisk (state over_files c.into_connection-conn.result) = omega (arith, store.quiet.clean, clean) in
    ∥∥₁_map (opens_again c.into_store.result (store.numbered clean) (store.sound clean) left may)
    (λ it. let r : (db : Trees) × HoldsDatabase left db × IsOfSite c.args.keep.site db =
    (it.0, it.2, c.into_connection-conn.ensures.left calm it.0 (store.quiet.outcomes it.0 it.1))
    in r)

pub returns-clause-found : goal.returns-clause-found
returns-clause-found g c = λ clean left may tables found.
    let store = c.into_store.ensures in
    ∥∥₁_map (opens_again c.into_store.result (store.numbered clean) (store.sound clean) left may)
    (λ it. let r : may_leave_at over_files c.args.keep.conn tables = (
      it.0,
      subst (λ k.
          (state over_files k).may_leave it.0)
          c.into_connection-conn.ensures.same (store.quiet.outcomes it.0 it.1),
      found.held it.0 it.2,
    )
    in r)

pub returns-clause-told : goal.returns-clause-told
returns-clause-told g c = λ clean text tells left may.
    let store = c.into_store.ensures in
    ∥∥₁_map (opens_again c.into_store.result (store.numbered clean) (store.sound clean) left may)
    (λ it. let r : (db : Trees) × HoldsDatabase left db × HoldsSite text db = (
      it.0,
      it.2,
      tells it.0
          (subst (λ k.
          (state over_files k).may_leave it.0)
          c.into_connection-conn.ensures.same (store.quiet.outcomes it.0 it.1)),
    )
    in r)

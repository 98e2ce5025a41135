use Rattle.std.proofs.Common.{arith, subst}
use Rattle.std.proofs.Math.Logic.{∥∥₁_map}
use Rattle.sqlite_pool.proofs.StateLemmas.{may_leave_is}
use Rattle.office_sql.proofs.Kit.{file_state, opens_again, HoldsDatabase, Trees}
use Rattle.sqlite.specs.WalFiles.{outcomes}
use Rattle.sqlite.specs.WalReads.{AreClean}
use Rattle.office_store.proofs.ClosedFiles.{is_clean}
use Rattle.office_store.proofs.opening.close.Goals as goal

pub returns-clause-was_clean : goal.returns-clause-was_clean
returns-clause-was_clean g c = λ clean.
    let sure = is_clean c.into_store.result.pool (subst (λ p. AreClean g.D.Disk p.0 p.1) c.close.ensures clean) in
    omega (arith, c.into_store.ensures.quiet.clean, sure)

-- what a crash leaves opens again, as the kit's store says
pub returns-clause-left : goal.returns-clause-left
returns-clause-left g c = λ clean left may.
    let store = c.into_store.result in
    let was = subst (λ p. AreClean g.D.Disk p.0 p.1) c.close.ensures clean in
    let sure = is_clean store.pool was in
    let could = may_leave_is store.pool left was (subst (λ p. outcomes g.D.Disk p.0 p.1 left) c.close.ensures may) in
    ∥∥₁_map (opens_again store (c.into_store.ensures.numbered sure) (c.into_store.ensures.sound sure) left could)
    (λ it. let r : (db : Trees) × (file_state c.args.conn).may_leave db × HoldsDatabase left db =
    (it.0, c.into_store.ensures.quiet.outcomes it.0 it.1, it.2)
    in r)

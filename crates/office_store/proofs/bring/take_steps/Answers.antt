use Rattle.std.proofs.Common.{arith, refl}
use Rattle.office_store.specs.Prelude.{first_step_of}
use Rattle.office_store.proofs.Running.{steps_taken}
use Rattle.office_store.proofs.bring.take_steps.Goals as goal

pub returns-clause-changes : goal.returns-clause-changes
returns-clause-changes g c =
    steps_taken g.S.Store c.args.site.now.text c.args.tx.now.conn.now c.run_steps.new.tx.conn.now c.run_steps.result _ _ c.first_step.result
    (first_step_of c.args.found) c.run_steps.ensures.changes (omega arith) refl c.first_step.ensures.is

use Rattle.std.proofs.Common.{◌≡◌, map, take}
use Rattle.office_store.specs.Prelude.{text_of}
use Rattle.office_store.proofs.Running.{HaveRunSoFar}
use Rattle.office_store.proofs.steps.run_steps.Given as goal

abbrev pub invariant-loop-step : goal.invariant-loop-step
invariant-loop-step g l =
    (l.tx.conn.ghost_name ≡ l.fn.tx.conn.ghost_name)
    × HaveRunSoFar g.S.Store l.site.text (map text_of (take l.step-index l.steps)) l.fn.tx.conn.now l.tx.conn.now

use Rattle.std.proofs.Common.{subst}
use Rattle.sqlite_wal.specs.Reads.{AreClean}
use Rattle.office_store.specs.Prelude.{may_leave_at}
use Rattle.sqlite.specs.Files.{over_files}
use Rattle.office_store.proofs.ClosedFiles.{is_clean}
use Rattle.crash_laws.proofs.Crashed.{left_of_store}
use Rattle.crash_laws.proofs.crashing.crash.Goals as goal

pub returns-clause-was_honest : goal.returns-clause-was_honest
returns-clause-was_honest g c = λ clean.
    let was = subst (λ p. AreClean g.D.Disk p.0 p.1) c.close-stopped.ensures (c.crash_files.ensures.was_honest clean) in
    c.into_store.ensures.was_honest (is_clean c.into_store.result.pool was)

pub returns-clause-crashed : goal.returns-clause-crashed
returns-clause-crashed g c = record {
  stopped = c.close-stopped.result;
  are_crashed = c.crash_files.ensures.crashed;
  leaves = λ clean.
      left_of_store c.into_store.result c.close-stopped.result c.args.keep.site (may_leave_at over_files c.args.keep.conn)
      c.close-stopped.ensures c.into_store.ensures.held c.into_store.ensures.found (c.crash_files.ensures.was_honest clean);
}

pub returns-clause-leaves : goal.returns-clause-leaves
returns-clause-leaves g c = λ clean.
    let stopped = left_of_store c.into_store.result c.close-stopped.result c.args.keep.site (may_leave_at over_files c.args.keep.conn)
    c.close-stopped.ensures c.into_store.ensures.held c.into_store.ensures.found (c.crash_files.ensures.was_honest clean)
    in
    record {
      held = λ image may. stopped.held image (c.crash_files.ensures.no_more image may);
      found = λ image may. stopped.found image (c.crash_files.ensures.no_more image may);
    }

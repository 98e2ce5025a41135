use Rattle.std.proofs.Common.{[], refl, subst}
use Rattle.std.proofs.Math.Logic.{∥∥₁_map}
use Rattle.sqlite.specs.Files.{over_files}
use Rattle.sqlite_wal.specs.Reads.{AreClean}
use Rattle.office_core.specs.Prelude.{exchanges_in}
use Rattle.office_laws.specs.Prelude.{Leaves}
use Rattle.office_store.specs.Prelude.{tables_of}
use Rattle.office_store.proofs.ClosedFiles.{is_clean}
use Rattle.crash_laws.proofs.Crashed.{left_of_store}
use Rattle.crash_laws.proofs.restarted.replay_until_stop.Goals as goal

pub returns-in-Ok-clause-run : goal.returns-in-Ok-clause-run
returns-in-Ok-clause-run g c = λ clean.
    let was = subst (λ p. AreClean g.D.Disk p.0 p.1) c.close-files.ensures clean in
    let calm = c.into_store.ensures.was_honest (is_clean c.into_store.result.pool was) in
    let honest = c.replay_text-replies.ensures.was_honest calm in
    let first = tables_of over_files c.in_ok-keep.keep.conn in
    let done = c.in-Ok.ensures.run calm first (λ _. refl) in
    let xs = exchanges_in c.args.site.now.site c.args.requests.now c.in-Ok.replies.items in
    record {
      first = first;
      stood = done.0;
      held = c.in_ok-keep.ensures.tables honest;
      answered = done.1.run;
      digest = c.replay_text-replies.new.keep.site;
      leaves = left_of_store c.into_store.result c.close-files.result c.replay_text-replies.new.keep.site (Leaves xs done.0)
          c.close-files.ensures c.into_store.ensures.held
          (λ at left may tables found.
          ∥∥₁_map (c.into_store.ensures.found at left may tables found)
          (λ could. done.1.crash [] (λ other is. ([], c.in_ok-keep.ensures.only_committed honest other is)) tables could))
          clean;
      promises = done.2;
    }

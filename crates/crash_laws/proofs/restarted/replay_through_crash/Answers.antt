use Rattle.std.proofs.Common.{[], refl}
use Rattle.std.proofs.Math.Logic.{∥∥₁_map}
use Rattle.sqlite.specs.Files.{image_of, over_files}
use Rattle.site_core.specs.Prelude.{ownership_of}
use Rattle.site_core.proofs.Kept.{owners_grown}
use Rattle.office_core.specs.Prelude.{exchanges_in}
use Rattle.office_store.specs.Prelude.{tables_of}
use Rattle.crash_laws.proofs.OneRun.{one_run, seats_of}
use Rattle.crash_laws.proofs.restarted.replay_through_crash.Goals as goal

pub returns-in-Ok-clause-run : goal.returns-in-Ok-clause-run
returns-in-Ok-clause-run g c = λ honest.
    let again = c.replay_text.ensures.was_honest honest in
    let clean = c.in_ok-keep.ensures.was_honest again in
    let site = c.args.site.now.site in
    let grown = c.args.grown.now.site in
    let opened = c.in_ok-keep.keep in
    let left = tables_of over_files opened.conn in
    let found = c.in_ok-keep.ensures.tables again in
    let stopped = c.in_ok-replies.ensures.run (c.crash_files-left.ensures.was_honest clean) in
    let after = c.in-Ok.ensures.run honest left (λ _. refl) in
    let xs = exchanges_in site c.args.first.now c.in_ok-replies.field-0.replies.items in
    let ys = exchanges_in grown c.args.second.now c.in-Ok.after.items in
    ∥∥₁_map (stopped.leaves.found (image_of g.D.Disk c.crash_files-left.result) c.crash_files-left.ensures.image left found)
    (λ may. record {
      stopped = c.in_ok-replies.field-0.files;
      is_stopped = stopped;
      left = c.crash_files-left.result;
      are_crashed = c.crash_files-left.ensures.crashed;
      image = c.crash_files-left.ensures.image;
      again = opened;
      is_opened = record {
        of_site = c.in_ok-keep.ensures.opened.of_site;
        text = (c.in_ok-keep.ensures.opened.shows again).found.2.taken.tells.holds;
        tables = found;
        only = c.in_ok-keep.ensures.only_committed again;
      };
      more = may.0;
      leaves = may.1;
      last = after.0;
      answered_after = after.1.run;
      stands = after.1.stands;
      leaves_after = after.1.crash [] (λ other is. ([], c.in_ok-keep.ensures.only_committed again other is));
      promises = one_run (ownership_of site) (ownership_of grown) xs may.0 ys stopped.first stopped.stood left after.0
          (owners_grown site grown c.replay_text.ensures.site c.requires.grown) c.in_ok-replies.ensures.apart c.in-Ok.ensures.apart
          (seats_of site c.args.first.now c.in_ok-replies.field-0.replies.items c.in_ok-replies.ensures.count c.in_ok-replies.ensures.seats)
          (seats_of grown c.args.second.now c.in-Ok.after.items c.in-Ok.ensures.count c.in-Ok.ensures.seats)
          stopped.answered may.1 after.1.run;
    })

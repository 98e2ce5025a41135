use Rattle.std.proofs.Common.{ap, subst, ◌∙◌}
use Rattle.sqlite.specs.Files.{file_state}
use Rattle.office_sql.specs.Prelude.{tables_in}
use Rattle.office_store.specs.Prelude.{ShowsOpening}
use Rattle.office_store.specs.declared.opening.Absent.TheVariants.{Make}
use Rattle.crash_laws.proofs.opening.open_files.Goals as goal

pub returns-in-Ok-adopted-clause-opened : goal.returns-in-Ok-adopted-clause-opened
returns-in-Ok-adopted-clause-opened g c =
    let keep = c.in-Ok-adopted.keep in
    let it = c.in-Ok-adopted.ensures in
    record {
      of_site = it.opened.of_site;
      is_open = it.opened.is_open;
      shows = λ clean.
          let found = c.in-Ok.ensures.found (it.was_honest clean) in
          let shown = it.opened.shows clean in
          record {
            held = λ db holds. subst (λ before. ShowsOpening c.args.site.now Make before (file_state keep.conn).now.trees) (found.holds db holds) shown;
            found = ((file_state c.in-Ok.conn).committed.trees, found.reads, shown);
          };
      left = it.opened.left;
    }

pub returns-in-Ok-adopted-clause-tables : goal.returns-in-Ok-adopted-clause-tables
returns-in-Ok-adopted-clause-tables g c = λ clean.
    let found = c.in-Ok.ensures.found (c.in-Ok-adopted.ensures.was_honest clean) in
    let same = c.in-Ok-adopted.ensures.tables clean in
    record {
      held = λ db holds. same ∙ ap tables_in (found.holds db holds);
      found = ((file_state c.in-Ok.conn).committed.trees, found.reads, same);
    }

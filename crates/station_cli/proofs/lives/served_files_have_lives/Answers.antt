use Rattle.std.proofs.Common.{ap, subst, sym, ◌∙◌}
use Rattle.text_core.proofs.Kit.{∥∥₁_map}
use Rattle.sqlite.specs.Files.{file_state}
use Rattle.sqlite.specs.WalFiles.{image_at}
use Rattle.office_sql.specs.Prelude.{tables_in}
use Rattle.office_store.specs.Prelude.{HasTablesOf}
use Rattle.station_cli.proofs.LeftFiles.{left_found, left_honest}
use Rattle.station_cli.proofs.lives.served_files_have_lives.Goals as goal

pub returns : goal.returns
returns g c = λ site absent files tables served is_site found.
    let honest = left_honest served.last files tables served.leaves found in
    let clean = served.was_honest honest in
    let begun = tables_in (file_state served.opened.conn).now.trees in
    let shows = served.opens.opened.shows clean in
    let held : HasTablesOf (image_at g.S.Start) begun =
    record { held = λ db holds. (shows.held db holds).taken.tables; found = (shows.found.0, shows.found.1, shows.found.2.taken.tables) } in
    ∥∥₁_map (left_found served.last files tables served.leaves found) (λ may.
    let lived = c.served_stores_have_lives.ensures.stopped (record {
      site = site.site;
      begun = begun;
      opened = served.opened;
      exchanges = served.leads.0;
      ended = served.last;
      is_site = is_site;
      fresh = λ other left. left.2 ∙ ap tables_in (served.opens.opened.left clean left.0 left.1);
      leads = served.leads.2;
    }) tables honest may in (
      lived.0,
      lived.1.site,
      subst (HasTablesOf (image_at g.S.Start)) (sym lived.1.begun) held,
      lived.1.exchanges,
      lived.1.left,
    ))

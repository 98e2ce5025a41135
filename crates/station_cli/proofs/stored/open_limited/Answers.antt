use Rattle.std.proofs.Common.{refl, subst, sym}
use Rattle.sqlite.specs.WalFiles.{image_at}
use Rattle.station_cli.specs.Prelude.{IsOpening}
use Rattle.station_cli.proofs.stored.open_limited.Goals as goal

pub returns-in-Ok-clause-opened : goal.returns-in-Ok-clause-opened
returns-in-Ok-clause-opened g c =
    let it = c.in-Ok.ensures.opened in
    subst (IsOpening c.args.site.now (image_at g.S.Start) c.args.store.absent) (sym c.set_steps.ensures) (record {
      limit = refl;
      opened = record { of_site = it.of_site; is_open = it.is_open; shows = it.shows; left = it.left };
    })

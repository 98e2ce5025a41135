use Rattle.std.proofs.Common.{◌≡◌, ◌⊎◌, IfErr}
use Rattle.sqlite.specs.WalFiles.{image_at}
use Rattle.station_cli.specs.Prelude.{IsOfPort, IsOfStore}
use Rattle.station_cli.specs.declared.failure.Failure.TheVariants.{NoMemory}
use Rattle.station_cli.proofs.Books.{books_left, of_any_site}
use Rattle.station_cli.proofs.serving.serve_site.Goals as goal

pub returns-clause-failed : goal.returns-clause-failed
returns-clause-failed g c =
    of_any_site c.args.name (λ b. b.items) c.args.file (IfErr c.serve_store.result.result (λ failure. (failure ≡ NoMemory) ⊎ IsOfStore failure
    ⊎ IsOfPort failure)) c.serve_store.ensures.failed

pub returns-clause-books : goal.returns-clause-books
returns-clause-books g c =
    books_left {S = g.row.S.Denot} c.args.name (λ b. b.items) c.args.file c.in-Ok.site (image_at g.S.Start) c.args.store.name.now c.args.store.absent _
    c.serve_store.result.result c.serve_store.result.files c.in-Ok.ensures.read c.serve_store.ensures.books

use Rattle.sqlite.proofs.StateLemmas.{clean_if_open}
use Rattle.office_store.specs.Prelude.{PreparesTables}
use Rattle.office_store.proofs.Preparing.{brought, not_brought}
use Rattle.office_store.proofs.Refusals.{is_err}
use Rattle.office_store.proofs.Types.{Failed}
use Rattle.office_store.proofs.adopting.settle.Goals as goal

pub bring-requires-clause-can : goal.bring-requires-clause-can
bring-requires-clause-can g c up =
    let store = c.args.conn.now.store in
    c.requires.can (clean_if_open (g.S.Store.view store) (g.met.S.Store.shut_if_dirty store) up)

pub bring-requires-clause-shows_committed : goal.bring-requires-clause-shows_committed
bring-requires-clause-shows_committed g c up =
    let store = c.args.conn.now.store in
    c.requires.shows_committed (clean_if_open (g.S.Store.view store) (g.met.S.Store.shut_if_dirty store) up)

pub returns : goal.returns
returns g c =
    let conn = c.bring.new.conn in
    let it = c.in_ok-bring.ensures in
    brought g.S.Store c.args.site.now c.args.conn.now conn (clean_if_open (g.S.Store.view conn.store) (g.met.S.Store.shut_if_dirty conn.store))
    c.args.found it.mode c.requires.shows_committed c.requires.can it.crash it.ok

pub returns-in_err-bring : goal.returns-in_err-bring
returns-in_err-bring g c =
    let site = c.args.site.now in
    let old = c.args.conn.now in
    let conn = c.bring.new.conn in
    let it = c.in_err-bring.ensures in
    is_err (λ r. PreparesTables g.S.Store site old conn r) c.from_residual.result Failed c.from_residual.ensures.1
    (not_brought g.S.Store site old conn (clean_if_open (g.S.Store.view conn.store) (g.met.S.Store.shut_if_dirty conn.store))
    c.args.found it.mode c.requires.shows_committed c.requires.can it.crash it.err)

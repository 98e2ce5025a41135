use Rattle.std.proofs.Common.{rules, [], ◌∷◌, filter, map}
use Rattle.sqlite.specs.declared.types.Value.TheVariants.{Text}
use Rattle.office_sql.proofs.Kit.{bytes, column, state}
use Rattle.office_tables.specs.Prelude.{is_given_behind}
use Rattle.office_sql.proofs.GivenTexts.{serials_read, serials_shown}
use Rattle.office_sql.proofs.Visiting.{bare_returns, visits}
use Rattle.office_sql.proofs.given.visit_serials_behind.Goals as goal

pub visit_rows-requires : goal.visit_rows-requires
visit_rows-requires g c = bare_returns _ serials_read.bare c.args.conn.now.schema

pub returns : goal.returns
returns g c =
    let issuer = c.args.issuer.now in
    let serial = c.args.serial.now in
    visits g.S.Store serials_read _ (Text issuer ∷ Text serial ∷ []) (search rules)
    c.args.conn.now c.visit_rows.new.conn
    g.K.Sink.takes (λ r. bytes (column r 0)) c.visit_rows.result c.args.sink.now c.visit_rows.new.sink
    (λ t. map (λ g. g.row.serial) (filter (is_given_behind issuer serial) t.given)) c.requires
    (λ rows office s. serials_shown issuer serial (state g.S.Store c.args.conn.now).now office rows s)
    c.visit_rows.ensures.visited c.visit_rows.ensures.same c.visit_rows.ensures.rests c.visit_rows.ensures.mode c.visit_rows.ensures.crash

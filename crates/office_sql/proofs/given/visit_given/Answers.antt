use Rattle.std.proofs.Common.{rules, [], ◌∷◌, filter}
use Rattle.sqlite.specs.declared.types.Value.TheVariants.{Text}
use Rattle.office_sql.proofs.Kit.{state}
use Rattle.office_tables.specs.Prelude.{is_of_issuer}
use Rattle.office_sql.specs.Prelude.{joined_given}
use Rattle.office_sql.proofs.GivenTexts.{all_read, all_shown}
use Rattle.office_sql.proofs.Visiting.{bare_returns, visits_as}
use Rattle.office_sql.proofs.given.visit_given.Goals as goal

pub visit_rows-requires : goal.visit_rows-requires
visit_rows-requires g c = bare_returns _ all_read.bare c.args.conn.now.schema

pub returns : goal.returns
returns g c =
    let issuer = c.args.issuer.now in
    visits_as g.S.Store _ _ all_read _ (Text issuer
    ∷ []) (search rules) c.args.conn.now c.visit_rows.new.conn
    g.K.Sink.takes joined_given c.visit_rows.result c.args.sink.now c.visit_rows.new.sink (λ t. filter (is_of_issuer issuer) t.given) c.requires
    (λ rows office a. all_shown issuer (state g.S.Store c.args.conn.now).now office rows a)
    c.visit_rows.ensures.visited c.visit_rows.ensures.same c.visit_rows.ensures.rests c.visit_rows.ensures.mode c.visit_rows.ensures.crash

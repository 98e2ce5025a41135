use Rattle.std.proofs.Common.{rules, [], ◌∷◌, filter, map}
use Rattle.sqlite.specs.declared.types.Value.TheVariants.{Text}
use Rattle.office_sql.proofs.Kit.{state}
use Rattle.office_tables.specs.Prelude.{claim_of, is_of}
use Rattle.office_sql.specs.Prelude.{claim_in}
use Rattle.office_sql.proofs.OrderTexts.{claims_read, claims_shown}
use Rattle.office_sql.proofs.Visiting.{bare_returns, visits}
use Rattle.office_sql.proofs.orders.visit_claims.Goals as goal

pub visit_rows-requires : goal.visit_rows-requires
visit_rows-requires g c = bare_returns _ claims_read.bare c.args.conn.now.schema

pub returns : goal.returns
returns g c =
    let customer = c.args.customer.now in
    visits g.S.Store claims_read _ (Text customer ∷ []) (search rules)
    c.args.conn.now c.visit_rows.new.conn
    g.K.Sink.takes claim_in c.visit_rows.result c.args.sink.now c.visit_rows.new.sink
    (λ t. map (λ o. claim_of o.row) (filter (is_of customer) t.orders)) c.requires
    (λ rows office s. claims_shown customer (state g.S.Store c.args.conn.now).now office rows s)
    c.visit_rows.ensures.visited c.visit_rows.ensures.same c.visit_rows.ensures.rests c.visit_rows.ensures.mode c.visit_rows.ensures.crash

use Rattle.text_core.proofs.Kit.{rules}
use Rattle.office_tables.specs.Prelude.{is_bound}
use Rattle.office_sql.specs.Prelude.{joined_given}
use Rattle.office_sql.proofs.Reading.{asks_first}
use Rattle.office_sql.proofs.given.given_by_key.Goals as goal

pub returns : goal.returns
returns g c =
    asks_first g.S.Store c.args.conn.now c.rows_by_key.new.conn c.rows_by_key.result _ c.first_row.result joined_given
    (is_bound c.args.issuer.now c.args.key.now) (λ t. t.given) c.rows_by_key.ensures c.first_row.ensures (λ t is. search rules) (search rules)

-- The states that are read are those that the query shows.
use Rattle.text_core.proofs.Kit.{rules, ◌∙◌, IfOk-weaker}
use Rattle.office_sql.proofs.Reading.{asks_more}
use Rattle.office_sql.proofs.devices.order_states.Goals as goal

pub returns : goal.returns
returns g c =
    asks_more g.S.Store c.args.conn.now c.state_rows.new.conn c.state_rows.result c.read_states.result _ _ c.state_rows.ensures
    (λ t is. IfOk-weaker c.read_states.result _ _ (λ states e. e ∙ search rules) c.read_states.ensures)
    (search rules)

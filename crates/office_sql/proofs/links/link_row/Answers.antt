use Rattle.std.proofs.Common.{rules, ◌∷◌}
use Rattle.sqlite.specs.declared.types.Value.TheVariants.{Null}
use Rattle.office_tables.specs.Prelude.{is_link}
use Rattle.office_sql.specs.Prelude.{link_in_row}
use Rattle.office_sql.proofs.Reading.{asks_first}
use Rattle.office_sql.proofs.links.link_row.Goals as goal

pub returns : goal.returns
returns g c =
    asks_first g.S.Store c.args.conn.now c.link_rows.new.conn c.link_rows.result _ c.first_row.result (λ r. link_in_row (Null ∷ r))
    (is_link c.args.customer.now c.args.digest.now) (λ t. t.links) c.link_rows.ensures c.first_row.ensures (λ t is. search rules) (search rules)

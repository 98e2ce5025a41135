use Rattle.std.proofs.Common.{rules, [], ◌∷◌}
use Rattle.sqlite.specs.declared.types.Value.TheVariants.{Text, Blob}
use Rattle.office_sql.specs.Prelude.{links}
use Rattle.office_sql.proofs.Reading.{asked}
use Rattle.office_sql.proofs.LinkTexts.{one_read, one_shown}
use Rattle.office_sql.proofs.links.link_rows.Goals as goal

pub returns : goal.returns
returns g c =
    let customer = c.args.customer.now in
    let digest = c.args.digest.now in
    asked g.S.Store one_read _ (Text customer ∷ Blob digest
    ∷ []) (search rules) c.args.conn.now c.query_all.new.self c.query_all.result _ c.requires
    (λ rows office s. one_shown customer digest _ rows.items (office.rows links) s)
    c.query_all.ensures.ok c.query_all.ensures.err c.query_all.ensures.mode c.query_all.ensures.survives

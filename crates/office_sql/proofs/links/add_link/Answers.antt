use Rattle.std.proofs.Common.{rules}
use Rattle.office_sql.specs.Prelude.{link_columns, Wrote}
use Rattle.office_tables.specs.declared.rows.Write.TheVariants.{AddLink as TheLink}
use Rattle.office_sql.proofs.Inserting.{inserts, done}
use Rattle.office_sql.proofs.MapChanges.{refused}
use Rattle.office_sql.proofs.LinkTexts.{add_insert, add_casts, link_wrote}
use Rattle.office_sql.proofs.links.add_link.Goals as goal

pub returns-in_err-execute-clause-changes : goal.returns-in_err-execute-clause-changes
returns-in_err-execute-clause-changes g c =
    refused g.S.Store c.args.tx.now.conn.now c.execute.new.self.conn.now _ _ c.execute.result _
    c.from_residual-in_err-execute.result _ c.from_residual-in_err-execute.ensures.0
    c.execute.ensures.ended c.execute.ensures.runs c.execute.ensures.survives

pub returns-clause-changes : goal.returns-clause-changes
returns-clause-changes g c =
    let link = c.args.link.now in
    let old = c.args.tx.now.conn.now in
    let new = c.execute.new.self.conn.now in
    done g.S.Store old new c.in_ok-execute.field-0 tt (λ x y _. Wrote (TheLink link) x y) _
    (inserts g.S.Store add_insert _ (link_columns link)
    (link_columns link) (search rules) (add_casts link) old new _ (λ x y _.
    Wrote (TheLink link) x y) c.requires.office
    (λ count up office adds. link_wrote link _ _ office (c.requires.free up) adds)
    c.in_ok-execute.ensures.ended c.in_ok-execute.ensures.runs c.in_ok-execute.ensures.survives)
    (λ x y is. is)

use Rattle.std.proofs.Common.{rules, [], ◌∷◌}
use Rattle.sqlite.specs.declared.types.Value.TheVariants.{Text}
use Rattle.office_sql.proofs.Kit.{state}
use Rattle.office_sql.proofs.LedgerAsked.{asked_as}
use Rattle.office_sql.proofs.GivenTexts.{at_read, at_shown}
use Rattle.office_sql.proofs.given.rows_at.Goals as goal

pub returns : goal.returns
returns g c =
    asked_as g.S.Store _ _ at_read _ (Text c.args.issuer.now ∷ Text c.args.serial.now
    ∷ []) (search rules)
    c.args.conn.now c.query_all.new.self c.query_all.result _ c.requires
    (λ rows office a. at_shown c.args.issuer.now c.args.serial.now (state g.S.Store c.args.conn.now).now office rows.items a)
    c.query_all.ensures.ok c.query_all.ensures.err c.query_all.ensures.mode c.query_all.ensures.survives

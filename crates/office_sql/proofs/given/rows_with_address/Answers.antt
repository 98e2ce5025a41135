use Rattle.std.proofs.Common.{rules, [], ◌∷◌}
use Rattle.sqlite.specs.declared.types.Value.TheVariants.{Text}
use Rattle.office_sql.proofs.Kit.{state}
use Rattle.office_sql.proofs.GivenTexts.{address_read, address_shown}
use Rattle.office_sql.proofs.Looking.{looked}
use Rattle.office_sql.proofs.given.rows_with_address.Goals as goal

pub returns-clause-looks : goal.returns-clause-looks
returns-clause-looks g c =
    looked g.S.Store _ _ address_read _ (Text c.args.text.now ∷ []) (search rules)
    c.args.tx.now.conn.now c.query_all.new.self.conn.now c.query_all.result _ c.requires
    (λ rows office a mac is. address_shown mac c.args.text.now is (state g.S.Store c.args.tx.now.conn.now).now office rows.items a)
    c.query_all.ensures.ok c.query_all.ensures.err c.query_all.ensures.survives

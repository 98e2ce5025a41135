use Rattle.std.proofs.Common.{rules, [], ◌∷◌}
use Rattle.sqlite.specs.declared.types.Value.TheVariants.{Text, Blob}
use Rattle.office_sql.proofs.Kit.{state}
use Rattle.office_sql.proofs.LedgerAsked.{asked_as}
use Rattle.office_sql.proofs.GivenTexts.{key_read, key_shown}
use Rattle.office_sql.proofs.given.rows_by_key.Goals as goal

pub returns : goal.returns
returns g c =
    asked_as g.S.Store _ _ key_read _ (Text c.args.issuer.now ∷ Blob c.args.key.now
    ∷ []) (search rules)
    c.args.conn.now c.query_all.new.self c.query_all.result _ c.requires
    (λ rows office a. key_shown c.args.issuer.now c.args.key.now (state g.S.Store c.args.conn.now).now office rows.items a)
    c.query_all.ensures.ok c.query_all.ensures.err c.query_all.ensures.mode c.query_all.ensures.survives

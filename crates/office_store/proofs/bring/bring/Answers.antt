use Rattle.std.proofs.Common.{◌≡◌, rules, sym, subst, IsTrue}
use Rattle.office_sql.proofs.Kit.{Survives, state, Trees, survives_then}
use Rattle.office_sql.specs.Prelude.{office_over}
use Rattle.office_sql.proofs.Asked.{was_clean}
use Rattle.office_store.specs.Prelude.{Brings}
use Rattle.office_store.proofs.Brought.{office_brought}
use Rattle.office_store.proofs.bring.bring.Goals as goal

pub returns-clause-crash : goal.returns-clause-crash
returns-clause-crash g c =
    let old = state g.S.Store c.args.conn.now in
    let last = state g.S.Store c.change_all.new.tx.conn.now in
    let changes = c.in_ok-change_all.ensures.changes in
    let brought = Brings c.args.found c.args.site.now.text in
    let P = λ (trees : Trees). IsTrue old.is_open × brought old.now.trees (office_over trees) in
    let whole = survives_then old last (state g.S.Store c.commit.new.self.0) _ _ P (λ _ db none. absurd none)
    (λ clean db is.
    let before = was_clean last _ _ c.commit.ensures.survives clean in
    let made : brought old.now.trees last.now =
    subst (λ h. brought (state g.S.Store h).now.trees last.now) c.transaction-tx.ensures.begun (changes.answer before) in
    let office = office_brought c.args.found c.args.site.now.text old.now last.now made in
    let left : office_over db ≡ last.now = λ i. record { schema = sym office.schema i; trees = is i } in
    let up : IsTrue old.is_open = subst (λ h. IsTrue (state g.S.Store h).is_open) c.transaction-tx.ensures.begun (changes.inside before).was_open in
    (up, subst (brought old.now.trees) (sym left) made)) (search rules) c.commit.ensures.survives in
    let same : c.commit.new.self.0 ≡ c.conn-2-1.given.0 = search rules in
    subst (λ h. Survives old (state g.S.Store h) P) same whole

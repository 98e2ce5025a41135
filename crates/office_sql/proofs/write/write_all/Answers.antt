use Rattle.std.proofs.Common.{◌≡◌, rules, subst, sym, take, take_all}
use Rattle.std.proofs.lemmas.List.{take_more}
use Rattle.office_sql.proofs.Kit.{Survives, state, survives_then, clean_if_open}
use Rattle.office_sql.specs.Prelude.{HasMade, HasWritten, LeavesMade, IsOffice, office_over, tables_in}
use Rattle.office_sql.proofs.Asked.{was_clean}
use Rattle.office_sql.proofs.Making.{made_more, free_at}
use Rattle.office_sql.proofs.write.write_all.Goals as goal

pub loop-write-preserved : goal.loop-write-preserved
loop-write-preserved g c =
    let old = state g.S.Store c.args.conn.now in
    let mid = state g.S.Store c.loop-write.tx.conn.now in
    let new = state g.S.Store c.write_one.new.tx.conn.now in
    let so_far = c.loop-write.invariant in (
      search rules,
      survives_then old mid new _ _ (λ _. ⊥) (λ _ db none. none) (λ _ db none. none) so_far.1 c.write_one.ensures.changes.crash,
      λ clean.
          let h = so_far.2 (was_clean mid new _ c.write_one.ensures.changes.crash clean) in
          let one = made_more (take c.loop-write.write-index c.args.writes.now) c.write-item.result old mid new h (search rules) (search rules) in
          let seam = take_more c.args.writes.now c.loop-write.write-index c.write-item.result (search rules) in
          subst (λ done. HasMade done old new) (search rules) one,
    )

pub returns-clause-crash : goal.returns-clause-crash
returns-clause-crash g c =
    let old = state g.S.Store c.args.conn.now in
    let last = state g.S.Store c.loop-write.tx.conn.now in
    let so_far = c.loop-write.invariant in
    let P = LeavesMade c.args.writes.now old in
    let whole = survives_then old last (state g.S.Store c.commit.new.self.0) _ _ P (λ _ db none. absurd none)
    (λ clean db is.
    let all = take_all c.loop-write.write-index c.args.writes.now c.loop-write-test.false in
    let h = subst (λ ws. HasMade ws old last) all (so_far.2 (was_clean last _ _ c.commit.ensures.survives clean)) in
    let up = h.is_open c.requires.some in
    let office = h.office up in
    let left : office_over db ≡ last.now = λ i. record { schema = sym office.schema i; trees = is i } in
    (h.was_open up, subst IsOffice (sym left) office, subst (HasWritten c.args.writes.now old.now) (sym left) h.written)) so_far.1 c.commit.ensures.survives in
    let same : c.commit.new.self.0 ≡ c.conn-2-1.given.0 = search rules in
    subst (λ h. Survives old (state g.S.Store h) P) same whole

pub write_one-requires-clause-office : goal.write_one-requires-clause-office
write_one-requires-clause-office g c up =
    let store = c.loop-write.tx.conn.now.store in
    (c.loop-write.invariant.2 (clean_if_open (g.S.Store.view store) (g.met.S.Store.shut_if_dirty store) up)).office up

pub write_one-requires-clause-free : goal.write_one-requires-clause-free
write_one-requires-clause-free g c up =
    let store = c.loop-write.tx.conn.now.store in
    let old = state g.S.Store c.args.conn.now in
    let h = c.loop-write.invariant.2 (clean_if_open (g.S.Store.view store) (g.met.S.Store.shut_if_dirty store) up) in
    free_at c.args.writes.now c.loop-write.write-index c.write-item.result (tables_in old.now.trees)
    _ (search rules) (search rules) (c.requires.free (h.was_open up)) h.written.tables

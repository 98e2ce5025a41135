use Rattle.std.proofs.Common.{◌≡◌, ℕ, List, OnOk, IfErr, refl, subst, subst₂, IsUtf8}
use Rattle.office_sql.proofs.Kit.{Database, clean_if_open}
use Rattle.office_store.specs.Prelude.{CanTake, IsShownText, IsGrownFrom}
use Rattle.office_store.proofs.Types.{OtherSite, OtherTables, V3}
use Rattle.office_store.proofs.Refusals.{growth_judged, unread}
use Rattle.office_store.proofs.adopting.test_growth.Goals as goal

pub told_rows-requires : goal.told_rows-requires
told_rows-requires g c up =
    let store = c.args.conn.now.store in
    c.requires.found (clean_if_open (g.S.Store.view store) (g.met.S.Store.shut_if_dirty store) up)

pub returns-in-Ok : goal.returns-in-Ok
returns-in-Ok g c =
    let conn = c.told_rows.new.conn in
    let calm = clean_if_open (g.S.Store.view conn.store) (g.met.S.Store.shut_if_dirty conn.store) in
    let found = c.requires in
    let meta = c.in-Ok.meta in
    let rows = c.as_slice.ensures.value in
    let site = c.site.ensures.same in
    growth_judged g.S.Store c.args.site.now c.args.conn.now conn calm V3 found.mode found.shows_committed (λ clean. (found.found clean).schema)
    refl (meta, c.in-Ok.rows) c.in-Ok.ensures c.judge_text.result
    (subst₂ (λ r s. OnOk c.judge_text.result ((text : List ℕ) × IsShownText text r meta × IsGrownFrom text s)) rows site c.judge_text.ensures.grown)
    (subst₂ (λ r s.
    IfErr c.judge_text.result (λ fault. fault ≡ OtherSite → (text : List ℕ)
    × IsShownText text r meta
    × ¬ IsGrownFrom text s)) rows site c.judge_text.ensures.other_site)
    (subst (λ r.
    IfErr c.judge_text.result (λ fault. fault ≡ OtherTables → (text : List ℕ) → IsUtf8 text
    → ¬ IsShownText text r meta)) rows c.judge_text.ensures.other_tables)

pub returns-in-Err : goal.returns-in-Err
returns-in-Err g c =
    let conn = c.told_rows.new.conn in
    let calm = clean_if_open (g.S.Store.view conn.store) (g.met.S.Store.shut_if_dirty conn.store) in
    let found = c.requires in
    unread g.S.Store c.args.site.now c.args.conn.now conn calm V3 found.mode found.shows_committed (λ clean. (found.found clean).schema)
    _ _ c.in-Err.ensures (λ (db : Database). CanTake c.args.site.now.site db.trees)

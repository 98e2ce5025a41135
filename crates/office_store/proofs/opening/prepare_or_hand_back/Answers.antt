use Rattle.std.proofs.Common.{◌∙◌, subst, sym, true≢false}
use Rattle.office_sql.proofs.Kit.{Trees, state, clean_if_open}
use Rattle.store_inspection.specs.Prelude.{IsOfSite}
use Rattle.office_store.proofs.ReadAnswers.{ready_if_open}
use Rattle.office_store.specs.Prelude.{IsOpenedFor}
use Rattle.office_store.proofs.Opened.{leaves_shown, left_of_site, ours}
use Rattle.office_store.proofs.opening.prepare_or_hand_back.Goals as goal

pub over-requires-clause-ready : goal.over-requires-clause-ready
over-requires-clause-ready g c =
    let conn = c.prepare_tables.new.conn in
    let it = c.in-Ok.ensures.prepares in
    ready_if_open (state g.S.Store conn) it.mode (λ up.
    (it.ready (clean_if_open (g.S.Store.view conn.store) (g.met.S.Store.shut_if_dirty conn.store) up)).1)

pub over-requires-clause-left : goal.over-requires-clause-left
over-requires-clause-left g c = λ clean db may.
    let conn = c.prepare_tables.new.conn in
    let it = c.in-Ok.ensures.prepares in
    subst (λ site. IsOfSite site db) (sym c.digest.ensures.same)
    (left_of_site c.args.site.now (state g.S.Store c.args.conn).now.trees (state g.S.Store conn) (λ db up may. g.met.S.Store.settled conn.store db up may)
    (it.ready clean).0 (it.ready clean).1 (it.takes clean) (sym c.digest.ensures.of_text ∙ c.digest.ensures.same) db may)

pub returns-in-Ok-clause-opened : goal.returns-in-Ok-clause-opened
returns-in-Ok-clause-opened g c =
    let site = c.args.site.now in
    let absent = c.args.absent in
    let before = (state g.S.Store c.args.conn).now.trees in
    let conn = c.prepare_tables.new.conn in
    let it = c.in-Ok.ensures.prepares in
    let named = sym c.digest.ensures.of_text ∙ c.digest.ensures.same in
    let settled = λ (db : Trees). g.met.S.Store.settled conn.store db in
    subst (λ h. IsOpenedFor g.S.Store site absent (λ Says. Says before) (record { conn = h; site = c.over.result.site })) (sym c.over.ensures.conn) (record {
      of_site = c.over.ensures.site ∙ c.digest.ensures.same;
      is_open = λ clean. (it.ready clean).0;
      shows = λ clean. record {
        was = it.was clean absent (λ lacks. true≢false (sym (c.lacks_store.ensures.1 lacks) ∙ c.if-lacks_store.false));
        same_site = ours site before (state g.S.Store conn) settled (it.ready clean).0 (it.ready clean).1 (it.takes clean) named;
        taken = it.takes clean;
      };
      left = λ clean. leaves_shown site before (state g.S.Store conn) settled (it.ready clean).0 (it.ready clean).1 (it.takes clean) named;
    })

pub returns-in-Err-clause-turned_away : goal.returns-in-Err-clause-turned_away
returns-in-Err-clause-turned_away g c =
    let it = c.in-Err.ensures in
    record {
      lacks = λ lacks. absurd (true≢false (sym (c.lacks_store.ensures.1 lacks) ∙ c.if-lacks_store.false));
      refused = λ _. it.prepares.refused;
      other_schema = λ other. let e = it.other_schema other in cc;
      unchanged = it.prepares.unchanged;
      untouched = it.prepares.untouched;
      crash = it.prepares.crash;
    }

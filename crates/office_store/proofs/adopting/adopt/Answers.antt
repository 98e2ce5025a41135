use Rattle.std.proofs.Common.{◌∙◌, ap, subst, sym}
use Rattle.office_sql.proofs.Kit.{Database, state}
use Rattle.office_sql.proofs.Asked.{was_clean}
use Rattle.office_store.proofs.Types.{Make}
use Rattle.office_store.proofs.Opened.{opened_of}
use Rattle.office_store.proofs.Preparing.{left_anew}
use Rattle.office_store.proofs.adopting.adopt.Goals as goal

pub returns-in-Ok-prepare_or_hand_back-clause-opened : goal.returns-in-Ok-prepare_or_hand_back-clause-opened
returns-in-Ok-prepare_or_hand_back-clause-opened g c =
    let it = c.in-Ok-prepare_or_hand_back.ensures in
    opened_of g.S.Store c.args.site.now Make it.opened (λ clean Says is.
    subst Says (c.in-Ok.ensures.tables (was_clean (state g.S.Store c.in-Ok.conn) (state g.S.Store c.in-Ok-prepare_or_hand_back.keep.conn) _ it.crash clean)) is)

pub returns-in-Ok-prepare_or_hand_back-clause-crash : goal.returns-in-Ok-prepare_or_hand_back-clause-crash
returns-in-Ok-prepare_or_hand_back-clause-crash g c =
    left_anew g.S.Store c.args.site.now c.args.conn c.in-Ok.conn c.in-Ok-prepare_or_hand_back.keep.conn
    c.in-Ok.ensures.shows_committed c.in-Ok.ensures.tables c.in-Ok.ensures.crash c.in-Ok-prepare_or_hand_back.ensures.crash

pub returns-in-Err-prepare_or_hand_back-clause-refused : goal.returns-in-Err-prepare_or_hand_back-clause-refused
returns-in-Err-prepare_or_hand_back-clause-refused g c =
    c.in-Err-prepare_or_hand_back.ensures.turned_away.refused (λ lacks. let e = lacks.0 in cc)

pub returns-in-Err-prepare_or_hand_back-clause-unchanged : goal.returns-in-Err-prepare_or_hand_back-clause-unchanged
returns-in-Err-prepare_or_hand_back-clause-unchanged g c = λ clean up.
    let away = c.in-Err-prepare_or_hand_back.ensures.turned_away in
    let calm = was_clean (state g.S.Store c.in-Ok.conn) (state g.S.Store c.in-Err-prepare_or_hand_back.conn) _ away.crash clean in
    ap (λ (d : Database). d.trees) ((away.unchanged clean).committed up ∙ sym (c.in-Ok.ensures.shows_committed calm)) ∙ c.in-Ok.ensures.tables calm

pub returns-in-Err-prepare_or_hand_back-clause-crash_left : goal.returns-in-Err-prepare_or_hand_back-clause-crash_left
returns-in-Err-prepare_or_hand_back-clause-crash_left g c =
    left_anew g.S.Store c.args.site.now c.args.conn c.in-Ok.conn c.in-Err-prepare_or_hand_back.conn
    c.in-Ok.ensures.shows_committed c.in-Ok.ensures.tables c.in-Ok.ensures.crash c.in-Err-prepare_or_hand_back.ensures.turned_away.crash

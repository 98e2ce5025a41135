use Rattle.std.proofs.Common.{Ok, false, subst}
use Rattle.sqlite.specs.Held.{state}
use Rattle.store_inspection.specs.Prelude.{IsOnlyText}
use Rattle.store_inspection.proofs.FoundAsked.{tests_more}
use Rattle.store_inspection.proofs.TextShows.{held_if_same, not_held}
use Rattle.store_inspection.proofs.site_text.has_site_text.Goals as goal

pub returns-in-Some : goal.returns-in-Some
returns-in-Some g c =
    let rows = c.in_ok-rows.rows in
    let held = c.in-Some.held.now in
    let only = subst (IsOnlyText 1 held) c.as_slice.ensures.value c.in-Some.ensures.some in
    tests_more g.S.Store c.args.conn.now c.text_rows.new.conn (Ok rows) (Ok c.eq.result) _ _ c.in_ok-rows.ensures
    (λ shows. held_if_same held c.args.text.now (state g.S.Store c.args.conn.now).now.trees rows.items c.eq.result shows only c.eq.ensures)
    (λ same. same)

pub returns : goal.returns
returns g c =
    let rows = c.in_ok-rows.rows in
    let text = c.args.text.now in
    let none = subst (λ l. ¬ IsOnlyText 1 text l) c.as_slice.ensures.value (c.in-None.ensures.none text c.utf8.text) in
    tests_more g.S.Store c.args.conn.now c.text_rows.new.conn (Ok rows) (Ok false) _ _ c.in_ok-rows.ensures
    (λ shows. not_held text (state g.S.Store c.args.conn.now).now.trees rows.items shows none)
    (λ same. same)

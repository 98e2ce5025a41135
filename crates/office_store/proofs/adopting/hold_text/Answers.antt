use Rattle.std.proofs.Common.{◌↔◌, ◌∙◌, Bool, Ok, Err, IsTrue, subst, sym, true≢false}
use Rattle.std.specs.Prelude.{⊤}
use Rattle.office_sql.proofs.Kit.{Error, clean_if_open, state}
use Rattle.office_sql.proofs.Asked.{was_clean}
use Rattle.office_store.specs.declared.bring.Found.TheVariants.{Today}
use Rattle.office_store.specs.Prelude.{CanBring}
use Rattle.store_inspection.specs.Prelude.{Tests, HoldsSiteText}
use Rattle.office_store.proofs.Preparing.{has_it, not_asked, prepared_after}
use Rattle.office_store.proofs.adopting.hold_text.Goals as goal

pub has_site_text-requires : goal.has_site_text-requires
has_site_text-requires g c up =
    let store = c.args.conn.now.store in
    c.requires.found.found (clean_if_open (g.S.Store.view store) (g.met.S.Store.shut_if_dirty store) up)

pub returns-in-Ok-true : goal.returns-in-Ok-true
returns-in-Ok-true g c =
    let old = c.args.conn.now in
    let conn = c.has_site_text.new.conn in
    let test = subst (λ t.
    Tests {E = Error} g.S.Store old conn (Ok c.in-Ok-true.field-0) (λ db same.
    IsTrue same ↔ HoldsSiteText t db)) c.text.ensures.same c.in-Ok-true.ensures in
    has_it g.S.Store c.args.site.now old conn (clean_if_open (g.S.Store.view conn.store) (g.met.S.Store.shut_if_dirty conn.store))
    c.requires.found c.requires.apart c.requires.can (test.mode c.requires.found.mode) c.in-Ok-true.field-0 c.in-Ok-true.field-0-test test

pub returns-in-Err : goal.returns-in-Err
returns-in-Err g c =
    let old = c.args.conn.now in
    let conn = c.has_site_text.new.conn in
    let test = subst (λ t.
    Tests {A = Bool} g.S.Store old conn (Err c.in-Err.field-0) (λ db same.
    IsTrue same ↔ HoldsSiteText t db)) c.text.ensures.same c.in-Err.ensures in
    not_asked g.S.Store c.args.site.now old conn (clean_if_open (g.S.Store.view conn.store) (g.met.S.Store.shut_if_dirty conn.store))
    c.requires.found c.requires.apart c.requires.can (test.mode c.requires.found.mode) c.in-Err.field-0 test

pub settle-requires : goal.settle-requires
settle-requires g c =
    let site = c.args.site.now in
    let old = c.args.conn.now in
    let conn = c.has_site_text.new.conn in
    let test = subst (λ t.
    Tests {E = Error} g.S.Store old conn (Ok c.in-Ok-false.field-0) (λ db same.
    IsTrue same ↔ HoldsSiteText t db)) c.text.ensures.same c.in-Ok-false.ensures in
    let before = was_clean (state g.S.Store old) (state g.S.Store conn) _ test.crash in
    record {
      mode = test.mode c.requires.found.mode;
      shows_committed = λ clean.
          let same = (test.same clean).0 in
          same.now_is ∙ c.requires.found.shows_committed (before clean) ∙ sym same.committed_is;
      can = λ clean.
          let other = λ (had : HoldsSiteText site.text (state g.S.Store old).now.trees).
          true≢false (sym ((test.answer clean).1 had) ∙ c.in-Ok-false.field-0-test) in
          subst (CanBring Today site) (sym (test.same clean).0.now_is)
          ((c.requires.found.found (before clean), c.requires.apart (before clean)), c.requires.can (before clean), other);
    }

pub returns-in-Ok-false : goal.returns-in-Ok-false
returns-in-Ok-false g c =
    let test = c.in-Ok-false.ensures in
    prepared_after g.S.Store c.args.site.now {old = c.args.conn.now} {mid = c.has_site_text.new.conn} {Says = λ _. ⊤} (record {
      answer = λ clean. tt;
      same = test.same;
      rests = test.rests;
      mode = test.mode c.requires.found.mode;
      refused = tt;
      shown = λ clean. tt;
      crash = test.crash;
    })
    c.settle.ensures

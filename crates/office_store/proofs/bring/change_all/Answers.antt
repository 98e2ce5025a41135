use Rattle.std.proofs.Common.{◌∙◌, drop, sym, true≢false}
use Rattle.office_store.specs.Prelude.{all_steps, first_step_of, Brings, CanBring, HaveRun}
use Rattle.office_store.proofs.Brought.{brings}
use Rattle.office_store.proofs.Changing.{said_if_open, says_more}
use Rattle.office_store.proofs.bring.change_all.Goals as goal

pub returns-clause-changes : goal.returns-clause-changes
returns-clause-changes g c =
    let found = c.args.found in
    let site = c.args.site.now in
    said_if_open g.S.Store c.args.tx.now.conn.now c.take_steps.new.tx.conn.now c.take_steps.result (CanBring found site)
    (λ x z _. Brings found site.text x.trees z) c.requires
    (says_more g.S.Store _ _ _ (λ x z _. HaveRun g.S.Store (drop (first_step_of found) all_steps) site.text x z)
    (λ x z _. CanBring found site x → Brings found site.text x.trees z) c.take_steps.ensures.changes
    (λ x z _ run can. brings g.S.Store site found (λ early. true≢false (sym (c.is_early.ensures.1 early) ∙ c.if-is_early.false)) x z can run))

use Rattle.std.proofs.Common.{rules, [], map, take, subst, sym}
use Rattle.std.proofs.lemmas.List.{map_more}
use Rattle.office_store.specs.declared.steps.Takes.TheVariants.{Nothing}
use Rattle.office_store.specs.Prelude.{text_of}
use Rattle.office_store.proofs.Running.{HaveRunSoFar, runs_next}
use Rattle.office_store.proofs.steps.run_steps.Goals as goal

pub loop-step-preserved : goal.loop-step-preserved
loop-step-preserved g c =
    let steps = c.args.steps.now in
    let site = c.args.site.now.text in
    let at = c.loop-step.step-index in
    let old = c.args.tx.now.conn.now in
    let new = c.run_step.new.tx.conn.now in
    let next = runs_next g.S.Store site (map text_of (take at steps)) _ old c.loop-step.tx.conn.now new c.loop-step.invariant.1
    c.in_ok-run_step.ensures.changes in (
      search rules,
      subst (λ texts. HaveRunSoFar g.S.Store site texts old new)
          (sym (map_more text_of steps at (record { text = record { ref_ptr = (0, 0); now = [] }; takes = Nothing }) (search rules))) next,
    )

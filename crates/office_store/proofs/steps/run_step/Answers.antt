use Rattle.std.proofs.Common.{rules, [], ◌∷◌, ◌∙◌, sym, ap}
use Rattle.sqlite.specs.declared.types.Value.TheVariants.{Text as Words, Blob as Bytes}
use Rattle.office_store.specs.Prelude.{taken, text_of}
use Rattle.office_store.proofs.Running.{step_run}
use Rattle.office_store.proofs.steps.run_step.Goals as goal

pub returns-in_ok-execute-in-Nothing-clause-changes : goal.returns-in_ok-execute-in-Nothing-clause-changes
returns-in_ok-execute-in-Nothing-clause-changes g c =
    let ran = c.in_ok-execute-in-Nothing in
    step_run g.S.Store (text_of c.args.step) c.args.site.now.text c.args.tx.now.conn.now c.execute.new.self.conn.now _ [] ran.field-0
    (search rules) (sym (ap (λ t. taken t c.args.site.now.text) c.in-Nothing.is)) ran.ensures.ended ran.ensures.runs ran.ensures.survives

pub returns-in_ok-execute-in-Text-clause-changes : goal.returns-in_ok-execute-in-Text-clause-changes
returns-in_ok-execute-in-Text-clause-changes g c =
    let ran = c.in_ok-execute-in-Text in
    step_run g.S.Store (text_of c.args.step) c.args.site.now.text c.args.tx.now.conn.now c.execute-in-Text.new.self.conn.now _
    (Words c.text.result.now ∷ []) ran.field-0 (search rules)
    (ap (λ t. Words t ∷ []) c.text.ensures.same ∙ sym (ap (λ t. taken t c.args.site.now.text) c.in-Text.is))
    ran.ensures.ended ran.ensures.runs ran.ensures.survives

pub returns-in_ok-execute-in-Name-clause-changes : goal.returns-in_ok-execute-in-Name-clause-changes
returns-in_ok-execute-in-Name-clause-changes g c =
    let ran = c.in_ok-execute-in-Name in
    step_run g.S.Store (text_of c.args.step) c.args.site.now.text c.args.tx.now.conn.now c.execute-in-Name.new.self.conn.now _
    (Bytes c.digest.result ∷ []) ran.field-0 (search rules)
    (ap (λ d. Bytes d ∷ []) c.digest.ensures.of_text ∙ sym (ap (λ t. taken t c.args.site.now.text) c.in-Name.is))
    ran.ensures.ended ran.ensures.runs ran.ensures.survives

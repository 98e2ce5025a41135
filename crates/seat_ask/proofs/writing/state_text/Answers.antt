use Rattle.std.proofs.Common.{◌≤◌, ◌∙◌, Some, ap, subst, sym}
use Rattle.std.proofs.lemmas.Result.{IfOk-weaker}
use Rattle.serde_json.specs.Data.{depth}
use Rattle.serde_json.specs.Written.{compact_text, has_float}
use Rattle.seat_ask.specs.Prelude.{value_with}
use Rattle.seat_ask.proofs.Written.{depth-state_data, has_float-state_data}
use Rattle.seat_ask.proofs.writing.state_text.Goals as goal

pub returns-clause-text : goal.returns-clause-text
returns-clause-text c =
    let same = c.in_ok-state_value.ensures in
    let s = value_with c.args.file.now c.args.names.now in
    IfOk-weaker c.to_string.result _ _ (λ text h. h (ap has_float same ∙ has_float-state_data s) ∙ ap compact_text same) c.to_string.ensures.text

pub returns-clause-reads : goal.returns-clause-reads
returns-clause-reads c =
    let same = c.in_ok-state_value.ensures in
    let s = value_with c.args.file.now c.args.names.now in
    IfOk-weaker c.to_string.result _ _ (λ text h. h (subst (λ d. depth d ≤ 127) (sym same) (depth-state_data s)) ∙ ap Some same) c.to_string.ensures.reads_back

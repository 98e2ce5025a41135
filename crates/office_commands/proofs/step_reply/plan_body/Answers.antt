use Rattle.text_core.proofs.Kit.{ap, ◌∙◌, IfOk-weaker}
use Rattle.serde_json.specs.Written.{compact_text, has_float}
use Rattle.office_commands.specs.Prelude.{plan_body}
use Rattle.office_commands.proofs.Floats.{in_plan}
use Rattle.office_commands.proofs.step_reply.plan_body.Goals as goal

pub returns : goal.returns
unfolding plan_body
returns c =
    let same = rw c.fields.ensures.same at c.in_ok-plan_value.ensures in
    let plain = ap has_float same ∙ in_plan c.args.map.now.fields c.args.work.now c.args.state in
    IfOk-weaker c.to_string.result _ _ (λ body printed. printed plain ∙ ap compact_text same) c.to_string.ensures.text

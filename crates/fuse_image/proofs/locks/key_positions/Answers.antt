use Rattle.std.proofs.Common.{Bool, ap₂, ◌∙◌}
use Rattle.std.specs.FinSet as set
use Rattle.fusemap_core.specs.declared.field.Field.{Field}
use Rattle.fusemap_core.specs.declared.pos.Pos.{Pos}
use Rattle.fuse_image.specs.Prelude.{Positions, run}
use Rattle.fuse_image.proofs.Governed.{positions_in-none, positions_in-passes, positions_in-fails}
use Rattle.fuse_image.proofs.locks.key_positions.Goals as goal
use Rattle.fuse_image.proofs.locks.key_positions.Goals.{then-field, else-field}

pub loop-field-init : goal.loop-field-init
loop-field-init c = c.empty-positions.ensures ∙ positions_in-none (λ f. f.key)

pub loop-field-preserved : goal.loop-field-preserved
loop-field-preserved c =
    let f = c.field-item.result in
    let fields = c.fields-fields.result.now in
    let is_key : Field → Bool = λ g. g.key in
    elim c.if-field.branch [
      | then-field w ↦
          w.positions-is
          ∙ (w.with_run-positions.ensures
          ∙ (ap₂ (λ (s : Positions) (first : Pos). set.union s (run first f.count)) c.loop-field.invariant w.first-first.ensures
          ∙ positions_in-passes is_key fields c.loop-field.field-index f c.loop-field-test.true c.field-item.is w.if-field.true))
      | else-field w ↦
          w.positions-is
          ∙ (c.loop-field.invariant
          ∙ positions_in-fails is_key fields c.loop-field.field-index f c.loop-field-test.true c.field-item.is w.if-field.false)
    ]

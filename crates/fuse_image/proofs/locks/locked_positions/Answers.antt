use Rattle.std.proofs.Common.{◌≡◌, Bool, sym, ap, ap₂, ◌∙◌, take_all}
use Rattle.std.specs.FinSet as set
use Rattle.fusemap_core.specs.declared.field.Field.{Field}
use Rattle.fusemap_core.specs.declared.pos.Pos.{Pos}
use Rattle.fuse_image.specs.Prelude.{has_burnt_lock, is_burnt, positions_in, Positions, run}
use Rattle.fuse_image.proofs.Governed.{lock_in_fields, positions_in-none, positions_in-passes, positions_in-fails}
use Rattle.fuse_image.proofs.locks.locked_positions.Goals as goal
use Rattle.fuse_image.proofs.locks.locked_positions.Goals.{then-is_burnt, else-is_burnt}

pub loop-field-init : goal.loop-field-init
loop-field-init c = c.empty-positions.ensures ∙ positions_in-none (has_burnt_lock c.args.map.now c.args.lock c.args.burnt.now)

pub is_burnt-requires : goal.is_burnt-requires
is_burnt-requires c =
    rw c.lock_of.ensures (lock_in_fields c.args.map.now c.fields-fields.ensures.map c.fields-fields.result.now c.fields-fields.ensures.same c.args.lock
    c.loop-field.field-index c.field-item.result c.loop-field-test.true c.field-item.is)

pub loop-field-preserved : goal.loop-field-preserved
loop-field-preserved c =
    let f = c.field-item.result in
    let fields = c.fields-fields.result.now in
    let test : Field → Bool = has_burnt_lock c.args.map.now c.args.lock c.args.burnt.now in
    let told : test f ≡ c.is_burnt.result = ap (is_burnt c.args.burnt.now) (sym c.lock_of.ensures) ∙ sym c.is_burnt.ensures in
    elim c.if-is_burnt.branch [
      | then-is_burnt w ↦
          w.positions-is
          ∙ (w.with_run-positions.ensures
          ∙ (ap₂ (λ (s : Positions) (first : Pos). set.union s (run first f.count)) c.loop-field.invariant w.first.ensures
          ∙ positions_in-passes test fields c.loop-field.field-index f c.loop-field-test.true c.field-item.is (told ∙ w.if-is_burnt.true)))
      | else-is_burnt w ↦
          w.positions-is
          ∙ (c.loop-field.invariant
          ∙ positions_in-fails test fields c.loop-field.field-index f c.loop-field-test.true c.field-item.is (told ∙ w.if-is_burnt.false))
    ]

pub returns : goal.returns
returns c =
    let test : Field → Bool = has_burnt_lock c.args.map.now c.args.lock c.args.burnt.now in
    c.loop-field.invariant
    ∙ (ap (positions_in test) (take_all c.loop-field.field-index c.fields-fields.result.now c.loop-field-test.false)
    ∙ ap (positions_in test) c.fields-fields.ensures.same)

use Rattle.fuse_image.proofs.Governed.{lock_in_fields}
use Rattle.fuse_image.proofs.locks.is_locked_key.Goals as goal

pub is_burnt-requires : goal.is_burnt-requires
is_burnt-requires c =
    rw c.lock_of.ensures (lock_in_fields c.args.map.now c.fields-fields.ensures.map c.fields-fields.result.now c.fields-fields.ensures.same c.args.lock
    c.loop-field.field-index c.field-item.result c.loop-field-test.true c.field-item.is)

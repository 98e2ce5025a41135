use Rattle.std.proofs.Common.{◌≡◌, ◌+◌, ◌≤◌, List, length, take, ap, ◌∙◌, arith, length-append, flat_map, take_all}
use Rattle.std.specs.FinMap as map
use Rattle.fusemap_core.specs.declared.field.Field.{Field}
use Rattle.fuse_columns.specs.Prelude.{key_blocks, key_bytes, keys_column}
use Rattle.fuse_columns.proofs.KeyFields.{few_keys, fewer_keys, key_more}
use Rattle.fuse_columns.proofs.keys.encode_keys.Goals as goal

pub append_key-requires : goal.append_key-requires
append_key-requires c =
    let fields = c.fields-fields.result.now in
    let i = c.loop-field.field-index in
    let more : length (key_blocks (take (i + 1) fields)) ≡ length (key_blocks (take i fields)) + 1 =
    ap length (key_more fields i c.field-item.result c.loop-field-test.true c.field-item.is c.if-field.true) ∙ length-append (key_blocks (take i fields)) _ in
    let few : length (key_blocks fields) ≤ 4 = rw c.fields-fields.ensures.same (few_keys c.args.map.now c.fields-fields.ensures.map) in
    omega (arith, more, few, fewer_keys fields (i + 1), c.loop-field.invariant.size)

pub returns-clause-same : goal.returns-clause-same
unfolding keys_column
returns-clause-same c =
    c.loop-field.invariant.value
    ∙ ap (λ (fields : List Field). flat_map (λ block. key_bytes (map.get c.args.keys.now block)) (key_blocks fields))
    (take_all c.loop-field.field-index c.fields-fields.result.now c.loop-field-test.false ∙ c.fields-fields.ensures.same)

use Rattle.std.proofs.Common.{◌++◌, ℕ, List, ap₂, ◌∙◌}
use Rattle.fuse_columns.specs.Prelude.{todo_column}
use Rattle.fuse_columns.proofs.todo.encode_todo.Goals as goal

pub returns-clause-same : goal.returns-clause-same
unfolding todo_column
returns-clause-same c =
    let first = c.as_bytes.ensures.same ∙ c.encode_bits-first.ensures.same in
    let second = c.as_bytes-2.ensures.same ∙ c.encode_bits-second.ensures.same in
    let keys = c.as_bytes-3.ensures.same ∙ c.encode_keys-keys.ensures.same in
    c.append-3.ensures
    ∙ ap₂ (λ (xs ys : List ℕ). xs ++ ys)
    (c.append-2.ensures ∙ ap₂ (λ (xs ys : List ℕ). xs ++ ys) (c.append.ensures ∙ ap₂ (λ (xs ys : List ℕ). xs ++ ys) c.empty-column.ensures first) second) keys

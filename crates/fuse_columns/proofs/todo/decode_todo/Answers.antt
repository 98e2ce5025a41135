use Rattle.std.proofs.Common.{ℕ, List, drop, sym, ap, ap₂, ◌∙◌, subst, drop-drop}
use Rattle.fuse_columns.specs.Prelude.{bits_in, bits_length, keys_in, pending_in}
use Rattle.fuse_image.specs.Prelude.{IsPending}
use Rattle.fuse_columns.proofs.WorkBytes.{IsPending-pending_in}
use Rattle.fuse_columns.proofs.todo.decode_todo.Goals as goal

pub returns-clause-same : goal.returns-clause-same
unfolding pending_in
returns-clause-same c =
    let m = c.args.map.now in
    let bytes = c.args.column.now in
    let n = bits_length m in
    let first = c.read_bits.ensures ∙ ap (bits_in m) c.as_bytes-first.ensures.same in
    let rest = c.after-second.ensures ∙ ap₂ (λ (k : ℕ) (bs : List ℕ). drop k bs) c.bits_length-length.ensures c.as_bytes-first.ensures.same in
    let second = c.read_bits-2.ensures ∙ ap (bits_in m) rest in
    let keys =
    c.read_keys.ensures ∙ ap (keys_in m) (c.after-keys.ensures
    ∙ (ap₂ (λ (k : ℕ) (bs : List ℕ). drop k bs) c.bits_length-length.ensures rest ∙ drop-drop n n bytes)) in
    λ i. record { first = first i; second = second i; keys = keys i }

pub returns-clause-work : goal.returns-clause-work
returns-clause-work c = subst (IsPending c.args.map.now) (sym (returns-clause-same c)) (IsPending-pending_in c.args.map.now c.args.column.now)

use Rattle.std.proofs.Common.{◌≡◌, ◌+◌, ◌*◌, ◌++◌, ◌<◌, ℕ, List, length, sym, ap, ap₂, ◌∙◌, arith, length-append, append_assoc, append-nil}
use Rattle.fuse_columns.specs.Prelude.{bytes_of_words}
use Rattle.fuse_columns.proofs.Blocks.{bytes_of_words-zero, bytes_of_words-more, length-bytes_of_words}
use Rattle.fuse_columns.proofs.bits.append_block.Goals as goal

pub loop-word-init : goal.loop-word-init
loop-word-init c =
    sym (append-nil c.args.column.now) ∙ ap (λ (bytes : List ℕ). c.args.column.now ++ bytes) (bytes_of_words-zero c.args.words.now c.args.block)

pub append-requires : goal.append-requires
append-requires c =
    let done : List ℕ = bytes_of_words c.args.words.now c.args.block c.loop-word.word in
    let size : length c.loop-word.column ≡ length c.args.column.now + 4 * c.loop-word.word =
    ap length c.loop-word.invariant ∙ (length-append c.args.column.now done ∙ ap (λ k.
    length c.args.column.now + k) (length-bytes_of_words c.args.words.now c.args.block c.loop-word.word)) in
    let four : length c.to_le_bytes.result ≡ 4 = ap length c.to_le_bytes.ensures in
    let low : c.loop-word.word < c.args.count = omega (arith, c.loop-word-test.true, c.from-word-end.ensures) in
    (omega arith, omega (arith, size, four, low, c.requires.room))

pub loop-word-preserved : goal.loop-word-preserved
loop-word-preserved c =
    let done : List ℕ = bytes_of_words c.args.words.now c.args.block c.loop-word.word in
    c.append.ensures
    ∙ (ap₂ (λ (xs ys : List ℕ). xs ++ ys) c.loop-word.invariant c.to_le_bytes.ensures
    ∙ (append_assoc c.args.column.now done _
    ∙ ap (λ (bytes : List ℕ). c.args.column.now ++ bytes) (sym (bytes_of_words-more c.args.words.now c.args.block c.loop-word.word))))

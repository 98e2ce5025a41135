use Rattle.std.proofs.Common.{ℕ, ◌+◌, ◌-◌, ◌%◌, ap, ap₂, ◌∙◌, ◌==◌, nat_lt, if◌then◌else◌}
use Rattle.std.specs.Int.{bit_at}
use Rattle.fuse_plan.proofs.Windows.{window-is}
use Rattle.fuse_plan.proofs.values.window.Goals as goal

pub returns : goal.returns
returns c bit low =
    let shift = c.args.start % 32 in
    ap (λ (n : ℕ). n == 1) (c.shifted.ensures bit low ∙ ap₂ (λ (lower upper : ℕ). if nat_lt bit shift then bit_at lower (32 + bit - shift)
    else bit_at upper (bit - shift)) c.word_past-lower.ensures c.word_past-upper.ensures)
    ∙ window-is c.args.value.now c.args.word c.args.start bit low

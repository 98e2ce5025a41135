use Rattle.std.proofs.Common.{◌≡◌, ℕ, ◌+◌, ◌-◌, ◌*◌, ◌/◌, ◌%◌, ◌^◌, ap, ◌∙◌, arith}
use Rattle.std.specs.Int.{bit_at}
use Rattle.fuse_plan.proofs.Windows.{shifted-bit}
use Rattle.fuse_plan.proofs.values.shifted.Goals as goal

pub returns : goal.returns
returns c bit low =
    let pair : c.from.result * 2 ^ 32 % 2 ^ 64 + c.from-2.result ≡ c.args.upper * 2 ^ 32 + c.args.lower =
    omega (arith, c.from.ensures, c.from-2.ensures, c.ranges.upper.fits) in
    ap (λ (n : ℕ). bit_at (n / 2 ^ (32 - c.args.shift) % 2 ^ 32) bit) pair
    ∙ shifted-bit c.args.upper c.args.lower c.args.shift bit (omega (arith, c.ranges.lower.fits)) c.requires low

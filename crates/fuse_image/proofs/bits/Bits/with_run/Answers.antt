use Rattle.std.proofs.Common.{ℕ, ◌+◌, ◌*◌, get_or, bit_or, ap, ◌∙◌}
use Rattle.std.specs.FinSet as set
use Rattle.fuse_image.specs.Prelude.{mask_of, Positions, run}
use Rattle.fuse_image.proofs.Masks.{positions_of-run}
use Rattle.fuse_image.proofs.bits.Bits.with_run.Goals as goal

pub returns : goal.returns
returns c =
    positions_of-run c.self.inside.words c.with_range.result c.args.first c.args.count c.requires.fits (λ w low.
    c.with_range.ensures w low
    ∙ ap (λ (block : ℕ). bit_or (get_or c.self.inside.words w 0) (mask_of (256 * block + c.args.first.bit) (256 * block + c.args.first.bit + c.args.count) w))
    c.from.ensures)
    ∙ ap (λ (s : Positions). set.union s (run c.args.first c.args.count)) c.self.view_is

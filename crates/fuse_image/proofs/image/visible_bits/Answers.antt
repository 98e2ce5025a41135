use Rattle.std.proofs.Common.{ap, ◌∙◌}
use Rattle.std.specs.FinSet as set
use Rattle.fuse_image.specs.Prelude.{is_hidden}
use Rattle.fuse_image.proofs.Sets.{difference-places_where}
use Rattle.fuse_image.proofs.image.visible_bits.Goals as goal

pub returns : goal.returns
returns c =
    c.minus.ensures
    ∙ (ap (set.difference c.args.burnt.now) c.hidden_positions.ensures
    ∙ difference-places_where c.args.burnt.now (is_hidden c.args.map.now c.args.burnt.now) c.fact_places.ensures)

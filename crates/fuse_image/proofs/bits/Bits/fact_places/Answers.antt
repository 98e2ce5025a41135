use Rattle.std.proofs.Common.{ap, ◌∙◌}
use Rattle.std.specs.FinSet as set
use Rattle.fuse_image.specs.Prelude.{Positions}
use Rattle.fuse_image.proofs.BitSets.{is_place-of_words}
use Rattle.fuse_image.proofs.bits.Bits.fact_places.Goals as goal

pub returns : goal.returns
returns c p has = is_place-of_words c.self.inside.words p (ap (λ (s : Positions). set.contains s p) c.self.view_is ∙ has)

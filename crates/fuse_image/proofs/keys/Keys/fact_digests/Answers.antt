use Rattle.std.proofs.Common.{subst}
use Rattle.fuse_image.specs.Prelude.{HoldsDigests}
use Rattle.fuse_image.proofs.Tables.{HoldsDigests-from_four}
use Rattle.fuse_image.proofs.keys.Keys.fact_digests.Goals as goal

pub returns : goal.returns
returns c =
    subst HoldsDigests c.self.view_is
    (HoldsDigests-from_four c.self.inside.digests _ _ _ _ c.self.invariant c.fact_digest.ensures c.fact_digest-2.ensures c.fact_digest-3.ensures
    c.fact_digest-4.ensures)

use Rattle.std.proofs.Common.{ℕ, get_or, ap, ◌∙◌, arith, None}
use Rattle.std.specs.FinMap as map
use Rattle.std.proofs.lemmas.List.{get_or_default}
use Rattle.fuse_image.specs.Prelude.{KeyTable}
use Rattle.fuse_image.proofs.Tables.{get_table}
use Rattle.fuse_image.proofs.keys.Keys.get.Goals as goal

pub returns : goal.returns
returns c =
    let ds = c.self.inside.digests in
    get_or_default ds c.from.result _ None (omega (arith, c.self.invariant, c.from.ensures, c.requires))
    ∙ ap (λ (b : ℕ). get_or ds b None) c.from.ensures ∙ get_table ds c.args.block c.requires
    ∙ ap (λ (t : KeyTable). map.get t c.args.block) c.self.view_is

use Rattle.std.proofs.Common.{ap₂, ◌∙◌}
use Rattle.std.specs.FinSet as set
use Rattle.fusemap_core.specs.declared.pos.Pos.{Pos}
use Rattle.fusemap_core.specs.Prelude.{holds}
use Rattle.fuse_image.specs.Prelude.{Positions, places_where, run}
use Rattle.fuse_image.proofs.Sets.{union-empty}
use Rattle.fuse_image.proofs.locks.positions_of.Goals as goal

pub returns : goal.returns
returns c =
    let field = c.args.field.now in
    c.with_run.ensures
    ∙ (ap₂ (λ (s : Positions) (first : Pos). set.union s (run first field.count)) c.empty.ensures c.first.ensures
    ∙ union-empty (places_where (holds field)))

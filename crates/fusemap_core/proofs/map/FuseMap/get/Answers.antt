use Rattle.std.proofs.Common.{◌<◌, length, ap}
use Rattle.fusemap_core.specs.Prelude.{Map}
use Rattle.fusemap_core.proofs.Bounds.{are_small}
use Rattle.fusemap_core.proofs.map.FuseMap.get.Goals as goal

pub returns-clause-small : goal.returns-clause-small
returns-clause-small c =
    let fields = ap (λ (m : Map). m.fields) c.self.view_is in
    let low : c.args.id.index < length c.self.inside.fields.items = rw fields c.requires in
    rw c.index.ensures (are_small _ c.self.invariant c.args.id.index c.index.result.now low)

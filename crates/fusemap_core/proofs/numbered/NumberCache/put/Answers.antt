use Rattle.fusemap_core.specs.Numbers.{IsMapOfNumber}
use Rattle.fusemap_core.specs.declared.numbered.NumberedMap.{NumberedMap}
use Rattle.fusemap_core.proofs.NumberedMaps.{All-put, numbers-put}
use Rattle.fusemap_core.proofs.numbered.NumberCache.put.Goals as goal

pub returns-clause-right : goal.returns-clause-right
returns-clause-right c = λ map_of right is.
    let one : NumberedMap = record { id = c.args.id; map = c.in_ok-map.map } in
    All-put (IsMapOfNumber map_of) c.put_first.result one c.args.self.now.kept.items c.put_first.new.kept.items
    c.put_first.ensures.ok c.put_first.ensures.err (rw c.in_ok-map.ensures is) right

pub returns-clause-ok : goal.returns-clause-ok
returns-clause-ok c =
    let one : NumberedMap = record { id = c.args.id; map = c.in_ok-map.map } in
    numbers-put c.put_first.result one c.args.self.now.kept.items c.put_first.new.kept.items c.put_first.ensures.ok

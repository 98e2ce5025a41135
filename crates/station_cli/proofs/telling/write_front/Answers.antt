use Rattle.std.proofs.Common.{◌++◌, take}
use Rattle.std.proofs.KnownBytes.{Appends-trans}
use Rattle.station_cli.proofs.Fronts.{front_grows}
use Rattle.station_cli.proofs.telling.write_front.Goals as goal

pub loop-call-preserved : goal.loop-call-preserved
loop-call-preserved g c =
    let (front, split, appended) = c.loop-call.invariant in
    let rest = c.loop-call.rest.now in
    let n = c.in-Some.count in
    (front ++ take n rest, front_grows _ front rest n split, Appends-trans _ _ _ _ _ appended c.in-Some.ensures.taken)

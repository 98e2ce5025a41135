-- What was found so far are the parts that are described.
use Rattle.std.proofs.Common.{◌≡◌, map, take}
use Rattle.store_inspection.proofs.schema.are_all.Given as goal

abbrev pub invariant-loop-at : goal.invariant-loop-at
invariant-loop-at g l = take l.at l.found ≡ map g.D.Describes.part (take l.at l.forms)

use Rattle.std.proofs.Common.{◌≡◌, drop}
use Rattle.fusemap_core.specs.MapFaults as faults
use Rattle.fusemap_core.specs.Prelude.{all_pairs}
use Rattle.fusemap_core.proofs.judge.are_apart.Given as goal

abbrev pub invariant-loop-index : goal.invariant-loop-index
invariant-loop-index l =
    all_pairs faults.are_apart l.fields ≡ all_pairs faults.are_apart (drop l.index l.fields)

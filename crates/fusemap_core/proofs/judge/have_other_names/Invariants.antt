use Rattle.std.proofs.Common.{◌≡◌, drop}
use Rattle.fusemap_core.specs.MapFaults as faults
use Rattle.fusemap_core.specs.Prelude.{all_pairs}
use Rattle.fusemap_core.proofs.judge.have_other_names.Given as goal

abbrev pub invariant-loop-index : goal.invariant-loop-index
invariant-loop-index l =
    all_pairs faults.have_other_names l.fields ≡ all_pairs faults.have_other_names (drop l.index l.fields)

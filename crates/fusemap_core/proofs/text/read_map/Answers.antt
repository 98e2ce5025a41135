use Rattle.text_core.proofs.Kit.{arith, common_steps}
use Rattle.text_core.specs.Prelude.{GivesUnless}
use Rattle.members.proofs.Reading.{wanted_from_given}
use Rattle.fusemap_core.specs.Prelude.{map_read}
use Rattle.fusemap_core.specs.declared.fault.MapFault.TheVariants.{OutOfMemory}
use Rattle.fusemap_core.proofs.Ranges.{IsInRange-from_map_of}
use Rattle.fusemap_core.proofs.Reading.{valid_from_exact, refused_from_exact, lowest_from_exact}
use Rattle.fusemap_core.proofs.text.read_map.Goals as goal

pub judged_map-requires : goal.judged_map-requires
judged_map-requires c = IsInRange-from_map_of _ _ (wanted_from_given _ _ _ _ c.in_ok-draft.ensures)

pub returns-clause-valid : goal.returns-clause-valid
returns-clause-valid c =
    let exact : GivesUnless OutOfMemory c.judged_map.result (map_read c.args.text.now) = grind (arith, common_steps) in
    valid_from_exact c.args.text.now c.judged_map.result exact

pub returns-clause-refused : goal.returns-clause-refused
returns-clause-refused c =
    let exact : GivesUnless OutOfMemory c.judged_map.result (map_read c.args.text.now) = grind (arith, common_steps) in
    refused_from_exact c.args.text.now c.judged_map.result exact

pub returns-clause-lowest : goal.returns-clause-lowest
returns-clause-lowest c =
    let exact : GivesUnless OutOfMemory c.judged_map.result (map_read c.args.text.now) = grind (arith, common_steps) in
    lowest_from_exact c.args.text.now c.judged_map.result exact

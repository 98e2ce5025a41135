use Rattle.std.proofs.Common.{refl}
use Rattle.fusemap_core.specs.Prelude.{map_read}
use Rattle.fusemap_core.specs.declared.fault.MapFault.TheVariants.{OutOfMemory}
use Rattle.station_cli.proofs.FileTexts.{given_of_text}
use Rattle.station_cli.specs.Prelude.{map_failure}
use Rattle.station_cli.proofs.map_file.map_from.Goals as goal

pub returns : goal.returns
returns c =
    given_of_text map_failure OutOfMemory map_read _ c.in_ok-text.text.now c.read_map.result c.map_err.result refl
    (rw c.map_failure-too_long.ensures at c.in_ok-text.ensures) c.read_map.ensures.exact c.map_err.ensures.cases

-- The fuse map that a file describes, or why there is none, and the line of a map.
use Rattle.std.specs.Prelude.{ℕ, ◌++◌, List, length, codes, decimal, Result}
use Rattle.std.specs.Borrow.{Bor}
use Rattle.text_core.specs.Prelude.{result_and_then}
use Rattle.fusemap_core.specs.Prelude.{Map, map_fault_number, map_read, map_text_limit}
use Rattle.fusemap_core.specs.declared.fault.MapFault.{MapFault}
use Rattle.fusemap_core.specs.declared.fault.MapFault.TheVariants.{BadMember}
use Rattle.station_cli.specs.FileText.{or_failure, text_of_file}
use Rattle.station_cli.specs.declared.failure.Failure.{Failure}
use Rattle.station_cli.specs.declared.failure.Failure.TheVariants.{NoMemory}

-- the failure that a fault of a map's text is
abbrev pub map_failure : MapFault → Failure
map_failure MapFault.OutOfMemory = NoMemory
map_failure fault = Failure.MapFault (map_fault_number fault)

-- the map in the bytes of a file, or the failure that its text's fault is. Bytes over the limit have the fault of that
abbrev pub map_of_file : Bor (List ℕ) → List ℕ → Result Map Failure
map_of_file name bytes =
    result_and_then (λ text. or_failure map_failure (map_read text)) (text_of_file name bytes map_text_limit (map_failure BadMember))

-- the line of a map, without its line feed: its name, how many blocks it has and how many fields
abbrev pub map_line : Map → List ℕ
map_line m = codes "ok " ++ m.name ++ codes " " ++ decimal (length m.blocks) ++ codes " " ++ decimal (length m.fields)

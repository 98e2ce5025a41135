-- A row as it was found, before it is known whether each row has a serial number.
use Rattle.std.specs.Prelude.{ℕ, List, Option, option_map}
use Rattle.text_core.specs.Prelude.{serial_of_text}
use Rattle.id_ranges.specs.declared.read.FoundRow.{FoundRow}
use Rattle.id_ranges.specs.declared.rows.ImportRow.{ImportRow}

-- a row of an import as it was found: its serial number, where its first field is one, and its digest
abbrev pub found_row : List ℕ × List ℕ → FoundRow
found_row row = record { serial = serial_of_text row.0; key = row.1 }

-- the row with its serial number, where it has one
abbrev pub with_serial : FoundRow → Option ImportRow
with_serial found = option_map (λ serial. record { serial = serial; key = found.key }) found.serial

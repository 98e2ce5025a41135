-- What the text of an import says. Blank lines are no records, as `csv` reads it, and so they are no rows.
use Rattle.std.specs.Prelude.{ℕ, Bool, ◌&&◌, nat_eq, nat_le, if◌then◌else◌, List, [], ◌∷◌, codes, length, Option, Some, None, option_map}
use Rattle.std.specs.Cmp.Lexicographic.{pointwise}
use Rattle.csv.specs.Reading.{default_config, records, strip_bom}
use Rattle.text_core.specs.Prelude.{digest_of_text, ◌>>=◌, all_of, serial_of_text}
use Rattle.id_ranges.specs.declared.rows.ImportRow.{ImportRow}

-- the header of an import
abbrev pub header : List (List ℕ)
header = codes "serial" ∷ codes "key_sha256" ∷ []

-- whether a record is that header
abbrev pub is_header : List (List ℕ) → Bool
is_header fields = pointwise (pointwise nat_eq) fields header

-- the two fields of a row that has two
abbrev pub two_fields : List (List ℕ) → Option (List ℕ × List ℕ)
two_fields [] = None
two_fields (only ∷ []) = None
two_fields (first ∷ second ∷ []) = Some (first, second)
two_fields (first ∷ second ∷ third ∷ rest) = None

-- a row of two fields, of which the second is a digest: the first field as it stands, and the digest
abbrev pub fields_of_row : List (List ℕ) → Option (List ℕ × List ℕ)
fields_of_row fields = two_fields fields >>= (λ pair. option_map (λ key. (pair.0, key)) (digest_of_text pair.1))

-- the most rows of an import
abbrev pub row_limit : ℕ
row_limit = 500

-- the rows under the header, each a row of two fields, and no more than the limit
abbrev pub import_table : List (List (List ℕ)) → Option (List (List ℕ × List ℕ))
import_table [] = None
import_table (first ∷ rows) = if is_header first && nat_le (length rows) row_limit then all_of fields_of_row rows else None

-- the row with its serial number, where its first field is one
abbrev pub row_with_serial : List ℕ × List ℕ → Option ImportRow
row_with_serial row = option_map (λ serial. record { serial = serial; key = row.1 }) (serial_of_text row.0)

-- the rows of a text: nothing where it is no import, and none of its rows where the first field of one is no serial number
unfoldable pub import_rows_of : List ℕ → Option (Option (List ImportRow))
import_rows_of text = option_map (all_of row_with_serial) (import_table (records default_config (strip_bom text)))

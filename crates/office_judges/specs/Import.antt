-- What a row of an import is to what is given, and what the rows of an import come to after some of them.
use Rattle.std.specs.Option.{option_map_or}
use Rattle.std.specs.Prelude.{◌+◌, ◌++◌, ◌&&◌, ◌||◌, ℕ, not, Bool, false, List, [], ◌∷◌, map, Some, is_some, Result, if◌then◌else◌, bytes_eq}
use Rattle.text_core.specs.Prelude.{result_map}
use Rattle.id_ranges.specs.declared.rows.ImportRow.{ImportRow}
use Rattle.office_tables.specs.declared.rows.Write.{Write}
use Rattle.office_tables.specs.declared.rows.Write.TheVariants.{AddGiven}
use Rattle.office_rules.specs.Prelude.{ImportResult, row_of_import, is_conflict, is_present, with_import_row, IssuedIn}
use Rattle.office_judges.specs.declared.row_verdicts.Binding.{Binding}
use Rattle.office_judges.specs.declared.row_verdicts.RowVerdict.{RowVerdict}
use Rattle.office_judges.specs.declared.row_verdicts.RowVerdict.TheVariants.{Present, New, Conflict}

-- what is given, and the rows that were added to it in turn
abbrev pub with_rows : List ImportRow → IssuedIn → IssuedIn
with_rows [] g = g
with_rows (r ∷ rs) g = with_rows rs (with_import_row r g)

-- what a row's serial number and key are bound to, by what is given
abbrev pub binding_of : IssuedIn → ImportRow → Binding
binding_of g r = record { key = g.key_of r.serial; is_bound = is_some (g.serial_of r.key) }

-- what a row's serial number and key are bound to, once another row was added
abbrev pub with_other : ImportRow → ImportRow → Binding → Binding
with_other r other found = record {
  key = if bytes_eq r.serial other.serial then Some other.key else found.key;
  is_bound = bytes_eq r.key other.key || found.is_bound;
}

-- what a row's serial number and key are bound to, once other rows were added in turn
abbrev pub with_others : ImportRow → List ImportRow → Binding → Binding
with_others r [] found = found
with_others r (other ∷ others) found = with_others r others (with_other r other found)

-- the row's serial number is bound to its key
abbrev pub is_bound_to_key : ImportRow → Binding → Bool
is_bound_to_key r found = option_map_or (bytes_eq r.key) found.key false

-- what a row is, by what its serial number and its key are bound to
abbrev pub verdict_by : Binding → ImportRow → RowVerdict
verdict_by found r =
    if not (is_bound_to_key r found) && (is_some found.key || found.is_bound) then Conflict
    else if is_bound_to_key r found then Present
    else New

-- what a row is by what is given: a conflict, present, or new
abbrev pub verdict_of_row : IssuedIn → ImportRow → RowVerdict
verdict_of_row g r = if is_conflict g r then Conflict else if is_present g r then Present else New

-- what the rest of an import comes to, with what was added and present before it
abbrev pub resumed : List ImportRow → ℕ → Result ImportResult (List ℕ) → Result ImportResult (List ℕ)
resumed added present = result_map (λ i. record { added = added ++ i.added; present = present + i.present })

-- the writes that add rows of an issuer as a customer's, in turn
abbrev pub additions : List ℕ → List ℕ → List ImportRow → List Write
additions customer issuer rows = map (λ r. AddGiven (record { customer = customer; row = row_of_import issuer r })) rows

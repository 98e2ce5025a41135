-- A text as a TOML document, and what its values are.
use Rattle.std.specs.Prelude.{ℕ, ℤ, pos, negsuc, List, [], ◌∷◌, ◌&&◌, nat_le, Option, Some, None, option_map, if◌then◌else◌}
use Rattle.toml.specs.Data.{Data, Items, no_items, item, table, as_array, as_integer, as_str}
use Rattle.toml.specs.Parse.{parse_document}
use Rattle.text_core.specs.Prelude.{◌>>=◌, name_of_text}

-- the table that a text is
abbrev pub document_of : List ℕ → Option Data
document_of text = option_map table (parse_document text)

-- a number of a range
abbrev pub integer_within : ℕ → ℕ → ℤ → Option ℕ
integer_within least greatest (pos n) = if nat_le least n && nat_le n greatest then Some n else None
integer_within least greatest (negsuc n) = None

-- a value that is a whole number of a range
abbrev pub whole_within : ℕ → ℕ → Data → Option ℕ
whole_within least greatest d = as_integer d >>= integer_within least greatest

-- what is read of what was found, or nothing where nothing was
abbrev pub if_there : {A : Type 0} → (Data → Option A) → Option Data → Option (Option A)
if_there read None = Some None
if_there read (Some d) = option_map Some (read d)

-- a value that is a name
abbrev pub name_in : Data → Option (List ℕ)
name_in d = as_str d >>= name_of_text

-- the items of an array of TOML
abbrev pub toml_items : Items → List Data
toml_items no_items = []
toml_items (item d ds) = d ∷ toml_items ds

-- the items of a value that is an array
abbrev pub items_in : Data → Option (List Data)
items_in d = option_map toml_items (as_array d)

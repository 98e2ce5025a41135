-- A body as JSON (RFC 8259), and the members of a JSON value.
use Rattle.std.specs.Prelude.{ℕ, List, [], ◌∷◌, ◌&&◌, nat_le, Option, Some, None, if◌then◌else◌}
use Rattle.std.specs.Str.{is_utf8}
use Rattle.serde_json.specs.Data.{Data, null, string, Items, no_items, item}
use Rattle.serde_json.specs.Read.{read}
use Rattle.serde_json.specs.Find.{get, as_number, as_u64}
use Rattle.text_core.specs.Prelude.{◌>>=◌}

-- the JSON value that a body is: UTF-8, at most 127 deep, the last of members with one name
abbrev pub json_of : List ℕ → Option Data
json_of body = if is_utf8 body then read body else None

-- a number of a range
abbrev pub number_within : ℕ → ℕ → ℕ → Option ℕ
number_within least greatest n = if nat_le least n && nat_le n greatest then Some n else None

-- a member that is a number with no sign, fraction or exponent, of a range below 2 to the power of 64
abbrev pub whole_member : List ℕ → ℕ → ℕ → Data → Option ℕ
whole_member name least greatest d = get name d >>= as_number >>= as_u64 >>= number_within least greatest

-- a text that may be missing: none where there is nothing or null, and neither where there is anything else
abbrev pub text_or_null : Option Data → Option (Option (List ℕ))
text_or_null None = Some None
text_or_null (Some null) = Some None
text_or_null (Some (string text)) = Some (Some text)
text_or_null (Some _) = None

-- the items of an array of JSON
abbrev pub json_items : Items → List Data
json_items no_items = []
json_items (item d ds) = d ∷ json_items ds

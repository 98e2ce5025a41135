-- What a value of a column stands for, whatever it is.
use Rattle.std.specs.Prelude.{ℕ, pos, List, [], Option, Some, None, option_and_then, option_map, unwrap_or}
use Rattle.sqlite.specs.declared.types.Value.{Value}
use Rattle.sqlite.specs.declared.types.Value.TheVariants.{Null, Int, Real, Text as Words, Blob as Bytes}
use Rattle.id_ranges.specs.Prelude.{mac_text, mac_of_text}
use Rattle.office_tables.specs.declared.rows.DeviceState.{DeviceState}
use Rattle.office_tables.specs.declared.rows.DeviceState.TheVariants.{Scrapped}
use Rattle.office_tables.specs.declared.rows.Event.{Event}
use Rattle.office_tables.specs.Prelude.{state_of_texts, event_of_texts}
use Rattle.office_tables.specs.declared.rows.Event.TheVariants.{Registered}

-- a whole number
abbrev pub number_in_cell : Value → ℕ
number_in_cell (Int (pos n)) = n
number_in_cell _ = 0

-- a text that may be missing
abbrev pub text_if : Value → Option (List ℕ)
text_if Null = None
text_if (Int n) = Some []
text_if (Real x) = Some []
text_if (Words t) = Some t
text_if (Bytes b) = Some b

-- an address that may be missing; a text that is none counts as missing
abbrev pub mac_if : Value → Option ℕ
mac_if v = option_and_then mac_of_text (text_if v)

-- a state, by its text and its reason
abbrev pub state_in : List ℕ → Option (List ℕ) → DeviceState
state_in text reason = unwrap_or (state_of_texts text reason) Scrapped

-- an event, by its text and its note
abbrev pub event_in : List ℕ → List ℕ → Event
event_in text note = unwrap_or (event_of_texts text note) Registered

-- the value that a text has in a column, if it isn't missing
abbrev pub text_value : Option (List ℕ) → Value
text_value None = Null
text_value (Some t) = Words t

-- that of an address, if it isn't missing
abbrev pub mac_value : Option ℕ → Value
mac_value mac = text_value (option_map mac_text mac)

-- that of a whole number
abbrev pub whole_value : ℕ → Value
whole_value n = Int (pos n)

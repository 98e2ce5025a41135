-- The bytes that a station sends.
use Rattle.std.specs.Prelude.{◌≡◌, ◌⊎◌, ℕ, ◌++◌, List, codes, decimal, false, length, string_bytes, Option, None, Some, Result, Ok, Err}
use Rattle.std.specs.declared.alloc.Global.{Global}
use Rattle.std.specs.declared.string.String.{String}
use Rattle.serde_json.specs.Data.{Data, object, put}
use Rattle.serde_json.specs.Written.{compact_text, has_float}
use Rattle.members.specs.Prelude.{json_of}
use Rattle.text_core.specs.Prelude.{◌>>=◌}
use Rattle.seat_ask.specs.declared.reading.TextFault.{TextFault}
use Rattle.seat_ask.specs.declared.reading.TextFault.TheVariants.{NoMemory, OtherForm}
use Rattle.seat_ask.specs.States.{number_data}

-- the members of an object, and the number in the place of any that was there
abbrev pub numbered : ℕ → Data → Option Data
numbered nr (object members) = Some (object (put (codes "nr") (number_data nr) members))
numbered nr d = None

-- the same of a text
abbrev pub numbered_in : ℕ → List ℕ → Option Data
numbered_in nr text = json_of text >>= numbered nr

-- The text is the compact JSON of what is wanted, where that has no float; and the fault is `OtherForm`
-- where nothing is wanted. Memory may run out in place of either.
abbrev pub IsTextOf : Option Data → Result (String Global) TextFault → Type 0
IsTextOf wanted (Ok text) =
    (d : Data) × (Some d ≡ wanted) × (has_float d ≡ false → string_bytes text ≡ compact_text d)
IsTextOf wanted (Err fault) = ((None ≡ wanted) × (fault ≡ OtherForm)) ⊎ (fault ≡ NoMemory)

-- the request line of a POST, and where it goes (RFC 9112, sections 3 and 3.2)
abbrev pub target_bytes : List ℕ → List ℕ → List ℕ
target_bytes path host = codes "POST " ++ path ++ codes " HTTP/1.1\r\nHost: " ++ host ++ codes "\r\n"

-- whose request it is (RFC 6750, section 2.1)
abbrev pub token_bytes : List ℕ → List ℕ
token_bytes token = codes "Authorization: Bearer " ++ token ++ codes "\r\n"

-- how long the JSON of its body is, and the end of the head: the connection ends behind the reply
abbrev pub size_bytes : ℕ → List ℕ
size_bytes size =
    codes "Content-Type: application/json\r\nContent-Length: " ++ decimal size
    ++ codes "\r\nConnection: close\r\n\r\n"

-- the head and the body
abbrev pub request_bytes : List ℕ → List ℕ → List ℕ → List ℕ → List ℕ
request_bytes host token path body =
    (target_bytes path host ++ token_bytes token) ++ (size_bytes (length body) ++ body)

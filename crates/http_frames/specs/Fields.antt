-- What the fields of a request's head say of its body, its connection and its caller, and the parts of its target (RFC 9110, 9112, 6750).
use Rattle.std.specs.Prelude.{◌≡◌, ◌<◌, take, drop, slice_index, ℕ, Bool, false, ◌++◌, ◌&&◌, List, [], ◌∷◌, map, length, Option, Some, None, Result, Ok, Err}
use Rattle.std.specs.Prelude.{if◌then◌else◌, nat_lt, nat_le, ◌==◌, codes, bytes_eq, flat_map}
use Rattle.std.specs.List.{list_all, list_any}
use Rattle.std.specs.Borrow.{Bor}
use Rattle.std.specs.Char.{is_ascii_digit, to_ascii_lowercase}
use Rattle.std.specs.Str.Parse.{digits_value}
use Rattle.httparse.specs.Ascii.{comma, space}
use Rattle.httparse.specs.Grammar.{trim_ows}
use Rattle.httparse.specs.declared.spans.HeaderSpan.{HeaderSpan}
use Rattle.httparse.specs.Spans.{header_bytes}
use Rattle.http_frames.specs.declared.fields.Occurrence.{Occurrence}
use Rattle.http_frames.specs.declared.fields.Occurrence.TheVariants.{Absent, Once, Repeated}
use Rattle.http_frames.specs.declared.fields.FrameRefusal.{FrameRefusal}
use Rattle.http_frames.specs.declared.fields.FrameRefusal.TheVariants.{BadHead, BadLength, TooLarge, Chunked}

-- the number of a refusal
abbrev pub frame_refusal_number : FrameRefusal → ℕ
frame_refusal_number BadHead = 1
frame_refusal_number BadLength = 2
frame_refusal_number TooLarge = 3
frame_refusal_number Chunked = 4

-- a field's name, and its value without the white space around it
abbrev pub Header : Type 0
Header = List ℕ × List ℕ

-- the texts are the same, in any case of their letters
unfoldable pub same_ignoring_case : List ℕ → List ℕ → Bool
same_ignoring_case a b = bytes_eq (map to_ascii_lowercase a) (map to_ascii_lowercase b)

-- the header has that name, in any case
abbrev pub is_header_named : List ℕ → Header → Bool
is_header_named name h = same_ignoring_case h.0 name

-- the value of every field with the name, in order
unfoldable pub values_named : List ℕ → List Header → List (List ℕ)
values_named name headers = flat_map (λ h. if is_header_named name h then h.1 ∷ [] else []) headers

-- one of the fields has the name
abbrev pub has_field : List ℕ → List Header → Bool
has_field name headers = list_any (is_header_named name) headers

-- the greatest size of a body, in bytes
abbrev pub body_limit : ℕ
body_limit = 65536

-- decimal digits alone, and at least one
abbrev pub is_decimal : List ℕ → Bool
is_decimal value = nat_lt 0 (length value) && list_all is_ascii_digit value

-- the size that the value of a `Content-Length` field gives, however many digits it has
abbrev pub size_of_value : List ℕ → Result ℕ FrameRefusal
size_of_value value =
    if is_decimal value then (if nat_le (digits_value 10 value) body_limit then Ok (digits_value 10 value) else Err TooLarge)
    else Err BadLength

-- the size that all `Content-Length` fields give: 0 without one
abbrev pub size_of_values : List (List ℕ) → Result ℕ FrameRefusal
size_of_values [] = Ok 0
size_of_values (value ∷ []) = size_of_value value
size_of_values (value ∷ (other ∷ more)) = Err BadLength

-- a size where no refusal came before and there is no transfer coding
abbrev pub unless_coded : Bool → Result ℕ FrameRefusal → Result ℕ FrameRefusal
unless_coded coded (Ok size) = if coded then Err Chunked else Ok size
unless_coded coded (Err refusal) = Err refusal

-- the size of the body, or the refusal: a bad length, one that is too large, a transfer coding, in this order
abbrev pub body_size : List Header → Result ℕ FrameRefusal
body_size headers =
    unless_coded (has_field (codes "transfer-encoding") headers) (size_of_values (values_named (codes "content-length") headers))

-- the byte doesn't stand there
abbrev pub Lacks : ℕ → List ℕ → Type 0
Lacks at bytes = list_any (λ b. b == at) bytes ≡ false

-- the parts in front of and behind the first such byte, or nothing where there is none
abbrev pub IsCut : ℕ → List ℕ → Option (Bor (List ℕ) × Bor (List ℕ)) → Type 0
IsCut at bytes (Some parts) = (bytes ≡ parts.0.now ++ at ∷ parts.1.now) × Lacks at parts.0.now
IsCut at bytes None = Lacks at bytes

-- the pieces, with a byte added to the front of the first
abbrev pub cons_first : ℕ → List (List ℕ) → List (List ℕ)
cons_first b [] = (b ∷ []) ∷ []
cons_first b (piece ∷ pieces) = (b ∷ piece) ∷ pieces

-- the pieces between the bytes that are `at`
abbrev pub split_at_byte : ℕ → List ℕ → List (List ℕ)
split_at_byte at [] = [] ∷ []
split_at_byte at (b ∷ bs) = let pieces = split_at_byte at bs in if b == at then [] ∷ pieces else cons_first b pieces

-- the value's comma list has the element `close`, in any case
unfoldable pub has_close : List ℕ → Bool
has_close value = list_any (λ piece. same_ignoring_case (trim_ows piece) (codes "close")) (split_at_byte comma value)

-- a `Connection` field has the element `close`
abbrev pub asks_close : List Header → Bool
asks_close headers = list_any (λ h. is_header_named (codes "connection") h && has_close h.1) headers

-- the bytes from the first that is no space
abbrev pub skip_spaces : List ℕ → List ℕ
skip_spaces [] = []
skip_spaces (b ∷ bytes) = if b == space then skip_spaces bytes else b ∷ bytes

-- the token, which isn't empty
abbrev pub some_token : List ℕ → Option (List ℕ)
some_token [] = None
some_token (b ∷ bytes) = Some (b ∷ bytes)

-- what follows `Bearer`, in any case, and one or more spaces, if it isn't empty
unfoldable pub bearer_token : List ℕ → Option (List ℕ)
bearer_token value =
    if same_ignoring_case (take 6 value) (codes "bearer") && (slice_index value 6 == space) then some_token (skip_spaces (drop 6 value)) else None

-- the token of the only value, if there is just one
abbrev pub token_of_values : List (List ℕ) → Option (List ℕ)
token_of_values [] = None
token_of_values (value ∷ []) = bearer_token value
token_of_values (value ∷ (other ∷ more)) = None

-- the token of the caller
abbrev pub token_in_headers : List Header → Option (List ℕ)
token_in_headers headers = token_of_values (values_named (codes "authorization") headers)

-- `values` has no member, just this one, or more than one
abbrev pub IsOccurrence : List (List ℕ) → Occurrence → Type 0
IsOccurrence values Absent = values ≡ []
IsOccurrence values (Once value) = values ≡ value.now ∷ []
IsOccurrence values Repeated = 1 < length values

-- what the spans cover, as names and values
abbrev pub headers_at : List ℕ → List HeaderSpan → List Header
headers_at buf spans = map (header_bytes buf) spans

-- the bytes in front of the first that is `at`, or all
abbrev pub before_byte : ℕ → List ℕ → List ℕ
before_byte at [] = []
before_byte at (b ∷ bytes) = if b == at then [] else b ∷ before_byte at bytes

-- the bytes after it, or none
abbrev pub after_byte : ℕ → List ℕ → List ℕ
after_byte at [] = []
after_byte at (b ∷ bytes) = if b == at then bytes else after_byte at bytes

-- the bytes `?`, `&` and `=`
abbrev pub question_mark : ℕ
question_mark = 63

abbrev pub ampersand : ℕ
ampersand = 38

abbrev pub equals_sign : ℕ
equals_sign = 61

-- the part of a target in front of its first `?`, or all of it
abbrev pub path_of : List ℕ → List ℕ
path_of target = before_byte question_mark target

-- the part after it, or nothing
abbrev pub query_of : List ℕ → List ℕ
query_of target = after_byte question_mark target

-- the piece of a query has that name: what stands in front of its first `=`, or all of it
abbrev pub piece_is_named : List ℕ → List ℕ → Bool
piece_is_named name piece = bytes_eq (before_byte equals_sign piece) name

-- the value of a piece that has the name: what stands after its first `=`, or nothing
abbrev pub piece_values : List ℕ → List ℕ → List (List ℕ)
piece_values name piece = if piece_is_named name piece then after_byte equals_sign piece ∷ [] else []

-- the values of the query's parameters with the name, in order; they aren't decoded
unfoldable pub parameters_named : List ℕ → List ℕ → List (List ℕ)
parameters_named name query = flat_map (piece_values name) (split_at_byte ampersand query)

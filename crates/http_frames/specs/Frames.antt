-- How a stream of bytes is cut into requests (RFC 9112, sections 2 to 6, in the server's profile).
use Rattle.std.specs.Prelude.{◌≡◌, ℕ, ◌<◌, ◌≤◌, ◌⊎◌, Bool, false, ◌||◌, List, [], ◌++◌, length, map, Ok, Err, ◌==◌, codes, bytes_eq}
use Rattle.httparse.specs.Grammar.{RequestHead, print_request, ReadsRequest, MayBecomeRequest}
use Rattle.httparse.specs.Spans.{name_and_value, RequestOverflows}
use Rattle.http_frames.specs.declared.fields.FrameRefusal.{FrameRefusal}
use Rattle.http_frames.specs.declared.fields.FrameRefusal.TheVariants.{BadHead}
use Rattle.http_frames.specs.Fields.{Header, body_size, asks_close}

-- the room for a head and a body, in bytes
abbrev pub room : ℕ
room = 73728

-- how many calls of its reader and its writer together a stream may make
abbrev pub call_limit : ℕ
call_limit = 16777216

-- the room for a head, in bytes, and for its fields
abbrev pub head_limit : ℕ
head_limit = 8192

abbrev pub field_limit : ℕ
field_limit = 64

-- the names and values of a head
abbrev pub headers_of : RequestHead → List Header
headers_of head = map name_and_value head.fields

-- the head fits the room
abbrev pub HeadFits : RequestHead → Type 0
HeadFits head = (length head.fields ≤ field_limit) × (length (print_request head) ≤ head_limit)

-- the rest begins with this head, which fits, and `after` follows it
abbrev pub HasHead : List ℕ → RequestHead → List ℕ → Type 0
HasHead rest head after = ReadsRequest rest head after × HeadFits head

-- no front of the rest is a head that fits
abbrev pub LacksHead : List ℕ → Type 0
LacksHead rest = (head : RequestHead) (after : List ℕ) → ¬ (HasHead rest head after)

-- a request as it stands in a stream
pub record Request : Type 0 where
  pub head : RequestHead
  pub body : List ℕ

-- the rest begins with this whole request, and `after` follows it
abbrev pub HasRequest : List ℕ → Request → List ℕ → Type 0
HasRequest rest request after =
    HasHead rest request.head (request.body ++ after) × (body_size (headers_of request.head) ≡ Ok (length request.body))

-- the reply leaves the body's bytes out
abbrev pub is_head_method : RequestHead → Bool
is_head_method head = bytes_eq head.method (codes "HEAD")

-- the stream ends after the reply to this request
abbrev pub ends_after : RequestHead → Bool
ends_after head = (head.minor == 0) || asks_close (headers_of head)

-- the rest begins with a head whose fields are refused so
abbrev pub HasRefusedHead : List ℕ → FrameRefusal → Bool → Type 0
HasRefusedHead rest refusal is_head =
    (head : RequestHead) × (after : List ℕ) × HasHead rest head after × (body_size (headers_of head) ≡ Err refusal)
    × (is_head ≡ is_head_method head)

-- no head, and either there is none in all the room, or no bytes that follow make one
abbrev pub HasBadHead : List ℕ → Type 0
HasBadHead rest = LacksHead rest × ((head_limit ≤ length rest) ⊎ RequestOverflows field_limit rest)

-- the rest is refused for want of a head
abbrev pub IsRefusedWhole : List ℕ → FrameRefusal → Bool → Type 0
IsRefusedWhole rest refusal is_head =
    (refusal ≡ BadHead) × (is_head ≡ false) × (0 < length rest) × HasBadHead rest

-- the front of the rest is refused so
abbrev pub IsRefused : List ℕ → FrameRefusal → Bool → Type 0
IsRefused rest refusal is_head = HasRefusedHead rest refusal is_head ⊎ IsRefusedWhole rest refusal is_head

-- a whole head, and fewer bytes than its body has
abbrev pub IsCutInBody : List ℕ → Type 0
IsCutInBody rest =
    (head : RequestHead) × (after : List ℕ) × (size : ℕ) × HasHead rest head after
    × (body_size (headers_of head) ≡ Ok size) × (length after < size)

-- part of a head: bytes can follow that make one, or make one with too many fields, or it ends inside the target
abbrev pub IsCutInHead : List ℕ → Type 0
IsCutInHead rest = (0 < length rest) × (length rest < head_limit) × LacksHead rest × MayBecomeRequest rest

-- the rest is part of a request
abbrev pub IsCutOff : List ℕ → Type 0
IsCutOff rest = IsCutInHead rest ⊎ IsCutInBody rest

-- nothing, or part of a request
abbrev pub IsUndecided : List ℕ → Type 0
IsUndecided rest = (rest ≡ []) ⊎ IsCutOff rest

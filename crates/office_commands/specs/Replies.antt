-- What a request is answered, and the objects that are shown, as JSON values (RFC 8259).
use Rattle.std.specs.Prelude.{ℕ, List, [], ◌∷◌, codes, Option, Some, None, option_map}
use Rattle.serde_json.specs.Data.{Data, null, number, unsigned, string, object, Members, no_members, member}
use Rattle.serde_json.specs.Written.{compact_text}
use Rattle.hex.specs.Hex.{encode_lower}
use Rattle.http_replies.specs.Prelude.{Answer}
use Rattle.http_replies.specs.declared.Status.TheVariants.{Success}
use Rattle.http_replies.specs.declared.Kind.TheVariants.{Json}
use Rattle.id_ranges.specs.Prelude.{mac_text}
use Rattle.office_tables.specs.declared.rows.Order.{Order}
use Rattle.office_commands.specs.declared.refusal.Refusal.{Refusal}
use Rattle.office_commands.specs.Refusals.{refusal_status, refusal_body}

-- the answer to an accepted request
abbrev pub acceptance : List ℕ → Answer
acceptance body = record { status = Success; kind = Json; body = body }

-- the answer to a refused one
abbrev pub refusal : Refusal → Answer
refusal r = record { status = refusal_status r; kind = Json; body = refusal_body r }

-- names with their values, as the members of an object
abbrev pub members_of : List (List ℕ × Data) → Members
members_of [] = no_members
members_of (m ∷ ms) = member m.0 m.1 (members_of ms)

-- a whole number
abbrev pub whole_data : ℕ → Data
whole_data n = number (unsigned n)

-- a text, null where there is none
abbrev pub text_data : Option (List ℕ) → Data
text_data None = null
text_data (Some text) = string text

-- an order with its next serial number, its members in byte order
abbrev pub order_data : Order → Option (List ℕ) → Data
order_data o next = object (members_of (
    (codes "first", whole_data o.range.first) ∷
    (codes "issuer", string o.issuer) ∷
    (codes "mac", text_data (option_map mac_text o.mac)) ∷
    (codes "macs", whole_data o.macs) ∷
    (codes "name", string o.name) ∷
    (codes "next", text_data next) ∷
    (codes "not_before", text_data o.not_before) ∷
    (codes "prefix", string o.range.prefix) ∷
    (codes "quantity", whole_data o.range.quantity) ∷
    (codes "width", whole_data o.range.width) ∷ []))

-- the JSON text of an order with its next serial number
unfoldable pub order_body : Order → Option (List ℕ) → List ℕ
order_body o next = compact_text (order_data o next)

-- a fuse map, by the digest of its text
abbrev pub map_data : List ℕ → Data
map_data digest = object (members_of ((codes "map", string (encode_lower digest)) ∷ []))

-- the JSON text of a fuse map
unfoldable pub map_body : List ℕ → List ℕ
map_body digest = compact_text (map_data digest)

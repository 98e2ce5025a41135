-- What a station hears in a reply (the API's page, "A reply is the server's").
use Rattle.std.specs.Prelude.{◌≡◌, ◌≤◌, ◌-◌, ◌&&◌, ◌==◌, ℕ, Bool, true, false, List, [], ◌∷◌, codes, bytes_eq, drop, length, map}
use Rattle.std.specs.Prelude.{if◌then◌else◌, is_some, Option, None, Some, Ok}
use Rattle.std.specs.List.{list_all}
use Rattle.httparse.specs.Grammar.{ReadsResponse, ResponseHead, status_code}
use Rattle.httparse.specs.Spans.{name_and_value}
use Rattle.http_frames.specs.Prelude.{body_size, has_field}
use Rattle.serde_json.specs.Data.{Data}
use Rattle.serde_json.specs.Find.{as_str, get}
use Rattle.members.specs.Prelude.{whole_member}
use Rattle.text_core.specs.Prelude.{◌>>=◌}
use Rattle.seat_ask.specs.declared.heard.Heard.{Heard}
use Rattle.seat_ask.specs.declared.heard.Heard.TheVariants.{Done, Refused, Nothing}
use Rattle.seat_ask.specs.declared.heard.ReplyCut.{ReplyCut}

-- the bytes begin with a whole reply: its head says how long its body is, and that is there
pub record IsReply (bytes : List ℕ) (cut : ReplyCut) : Type 0 where
  pub head : ResponseHead
  pub reads : ReadsResponse bytes head (drop cut.start bytes)
  pub status : cut.status ≡ status_code head
  pub sized : has_field (codes "content-length") (map name_and_value head.fields) ≡ true
  pub size : body_size (map name_and_value head.fields) ≡ Ok (cut.end - cut.start)
  pub ordered : cut.start ≤ cut.end
  pub whole : cut.end ≤ length bytes

-- it has each of these members
abbrev pub has_all : Data → List (List ℕ) → Bool
has_all d names = list_all (λ name. is_some (get name d)) names

abbrev pub order_names : List (List ℕ)
order_names =
    codes "first" ∷ codes "issuer" ∷ codes "mac" ∷ codes "macs" ∷ codes "name"
    ∷ codes "next" ∷ codes "not_before" ∷ codes "prefix" ∷ codes "quantity" ∷ codes "width" ∷ []

abbrev pub device_names : List (List ℕ)
device_names =
    codes "bits" ∷ codes "chip" ∷ codes "keys" ∷ codes "map" ∷ codes "order"
    ∷ codes "pending" ∷ codes "reason" ∷ codes "serial" ∷ codes "state" ∷ []

abbrev pub identity_names : List (List ℕ)
identity_names =
    codes "chip" ∷ codes "issuer" ∷ codes "key_sha256" ∷ codes "mac"
    ∷ codes "not_after" ∷ codes "not_before" ∷ codes "serial" ∷ []

-- it has the members of a reply to a request of the path, which is that of a POST
abbrev pub reply_has : List ℕ → Data → Bool
reply_has path d =
    if bytes_eq path (codes "/v1/order") then has_all d order_names
    else if bytes_eq path (codes "/v1/map") then has_all d (codes "map" ∷ [])
    else if bytes_eq path (codes "/v1/device") then has_all d device_names
    else if bytes_eq path (codes "/v1/plan") then has_all d (codes "batch1" ∷ codes "batch2" ∷ codes "state" ∷ [])
    else if bytes_eq path (codes "/v1/readback") then has_all d (codes "outcome" ∷ codes "rest" ∷ codes "state" ∷ [])
    else if bytes_eq path (codes "/v1/identity") then has_all d identity_names
    else if bytes_eq path (codes "/v1/ship") then has_all d (codes "chip" ∷ codes "state" ∷ [])
    else if bytes_eq path (codes "/v1/scrap") then has_all d (codes "chip" ∷ codes "state" ∷ [])
    else if bytes_eq path (codes "/v1/import") then has_all d (codes "added" ∷ codes "present" ∷ [])
    else false

abbrev pub same_text : Option (List ℕ) → Option (List ℕ) → Bool
same_text (Some asked) (Some told) = bytes_eq asked told
same_text asked told = true

-- a text of this name, where the request and the reply have one, is the same
abbrev pub agrees : List ℕ → Data → Data → Bool
agrees name asked told = same_text (get name asked >>= as_str) (get name told >>= as_str)

-- the members of the path's reply, with the request's chip and name
abbrev pub is_reply_to : List ℕ → Data → Data → Bool
is_reply_to path asked told =
    reply_has path told && agrees (codes "chip") asked told && agrees (codes "name") asked told

-- a refusal of 11 says which number is expected
abbrev pub refusal_of : Option ℕ → Option ℕ → Heard
refusal_of None expected = Nothing
refusal_of (Some code) None = if code == 11 then Nothing else Refused code 0
refusal_of (Some code) (Some expected) = Refused code expected

abbrev pub refusal_in : Data → Heard
refusal_in told = refusal_of (whole_member (codes "no") 1 255 told) (whole_member (codes "expected") 1 9007199254740992 told)

-- what the reply with this status and body says, to a request of this path and these members
abbrev pub heard_of : ℕ → List ℕ → Data → Data → Heard
heard_of status path asked told =
    if status == 200 then (if is_reply_to path asked told then Done else Nothing) else refusal_in told

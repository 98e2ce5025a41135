-- What an identity, the end of a device and an import are answered, as JSON values (RFC 8259).
use Rattle.std.specs.Prelude.{ℕ, List, [], ◌∷◌, codes, option_map}
use Rattle.serde_json.specs.Data.{Data, string, object}
use Rattle.serde_json.specs.Written.{compact_text}
use Rattle.hex.specs.Hex.{encode_lower}
use Rattle.id_ranges.specs.Prelude.{Idevid, mac_text}
use Rattle.office_tables.specs.Prelude.{state_row}
use Rattle.office_tables.specs.declared.rows.DeviceState.{DeviceState}
use Rattle.office_tables.specs.declared.rows.Given.{Given}
use Rattle.office_commands.specs.Replies.{members_of, text_data, whole_data}

-- the record of an identity that a row keeps
abbrev pub idevid_in : Given → Idevid
idevid_in g = record {
  issuer = g.issuer;
  serial = g.serial;
  key = g.key;
  mac = g.mac;
  not_after = g.not_after;
  not_before = g.not_before;
}

-- the record of a device's identity (IEEE 802.1AR), its members in byte order
abbrev pub identity_data : List ℕ → Idevid → Data
identity_data chip i = object (members_of (
    (codes "chip", string chip) ∷
    (codes "issuer", string i.issuer) ∷
    (codes "key_sha256", string (encode_lower i.key)) ∷
    (codes "mac", text_data (option_map mac_text i.mac)) ∷
    (codes "not_after", string i.not_after) ∷
    (codes "not_before", text_data i.not_before) ∷
    (codes "serial", string i.serial) ∷ []))

-- the JSON text of the record of an identity
unfoldable pub identity_body : List ℕ → Idevid → List ℕ
identity_body chip i = compact_text (identity_data chip i)

-- where a device stands
abbrev pub state_data : List ℕ → DeviceState → Data
state_data chip state = object (members_of ((codes "chip", string chip) ∷ (codes "state", string (state_row state).text) ∷ []))

-- the JSON text of where a device stands
unfoldable pub state_body : List ℕ → DeviceState → List ℕ
state_body chip state = compact_text (state_data chip state)

-- how many serial numbers an import gave, and how many were given already
abbrev pub import_data : ℕ → ℕ → Data
import_data added present = object (members_of ((codes "added", whole_data added) ∷ (codes "present", whole_data present) ∷ []))

-- the JSON text of what an import gave
unfoldable pub import_body : ℕ → ℕ → List ℕ
import_body added present = compact_text (import_data added present)

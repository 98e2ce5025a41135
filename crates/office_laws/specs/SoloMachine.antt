-- A customer's own machine: the machine over that customer's rows alone.
use Rattle.std.specs.Prelude.{ℕ, Bool, ◌&&◌, is_some, bytes_eq, if◌then◌else◌, List, []}
use Rattle.std.specs.Prelude.{◌∷◌, length, filter, find, Option, Some, None, option_map}
use Rattle.std.specs.Ordering.{nat_cmp, ordering_then}
use Rattle.std.specs.declared.cmp.Ordering.{Ordering}
use Rattle.sha2.specs.Sha256.{sha256}
use Rattle.http_replies.specs.Prelude.{Answer}
use Rattle.site_core.specs.Prelude.{Section}
use Rattle.id_ranges.specs.Prelude.{next_serial}
use Rattle.office_tables.specs.declared.rows.Device.{Device}
use Rattle.office_tables.specs.declared.rows.Given.{Given}
use Rattle.office_tables.specs.declared.rows.NewEntry.{NewEntry}
use Rattle.office_tables.specs.declared.rows.Order.{Order}
use Rattle.office_tables.specs.declared.rows.SeatState.{SeatState}
use Rattle.office_tables.specs.Prelude.{places_taken, with_row, text_cmp}
use Rattle.office_commands.specs.declared.command.Request.{Request}
use Rattle.office_rules.specs.Prelude.{Put, device_put, map_put, number_put, order_put, record_put}
use Rattle.office_rules.specs.Prelude.{seat_put, response, has_issuer, IssuedIn, OrderSight, Sight}

-- a fuse map of the customer's, by the digest of its text
pub record SoloMap : Type 0 where
  pub digest : List ℕ
  pub text : List ℕ

-- the customer's tables, each in the order of its key. An order's cursor stands at its first
-- number: the machine has no use for one
pub record SoloState : Type 0 where
  pub seats : List SeatState
  pub orders : List Order
  pub given : List Given
  pub maps : List SoloMap
  pub devices : List Device
  pub ledger : List NewEntry

-- the order of rows by a text of theirs
abbrev pub by_text : {A : Type 0} → (A → List ℕ) → A → A → Ordering
by_text text a b = text_cmp (text a) (text b)

-- the order of records: by issuer, then by serial number
abbrev pub solo_given_cmp : Given → Given → Ordering
solo_given_cmp a b = ordering_then (text_cmp a.issuer b.issuer) (text_cmp a.serial b.serial)

-- the order of entries: by device, then by number
abbrev pub solo_entry_cmp : NewEntry → NewEntry → Ordering
solo_entry_cmp a b = ordering_then (text_cmp a.chip b.chip) (nat_cmp a.number b.number)

-- the row of a seat, by its name
abbrev pub seat_named : List ℕ → SoloState → Option SeatState
seat_named name s = find (λ r. bytes_eq name r.name) s.seats

-- the record of a serial number of an issuer
abbrev pub record_of_serial : List ℕ → List ℕ → SoloState → Option Given
record_of_serial issuer serial s =
    find (λ g. bytes_eq issuer g.issuer && bytes_eq serial g.serial) s.given

-- the record of a key in an issuer
abbrev pub record_of_key : List ℕ → List ℕ → SoloState → Option Given
record_of_key issuer key s = find (λ g. bytes_eq issuer g.issuer && bytes_eq key g.key) s.given

-- the serial number is given in the issuer
abbrev pub is_issued : SoloState → List ℕ → List ℕ → Bool
is_issued s issuer serial = is_some (record_of_serial issuer serial s)

-- what is seen of an order: its next number is the least of all whose serial number isn't given
abbrev pub solo_order_sight : SoloState → Order → OrderSight
solo_order_sight s o = record {
  order = o;
  next = next_serial (is_issued s o.issuer) o.range;
  places = places_taken o.name s.devices;
  is_bound = λ key. is_some (record_of_key o.issuer key s);
  record_of = λ serial. record_of_serial o.issuer serial s;
}

-- what is given in an issuer: the key of each serial number, and the number of each key
abbrev pub solo_issued_in : List ℕ → SoloState → IssuedIn
solo_issued_in issuer s = record {
  key_of = λ serial. option_map (λ g. g.key) (record_of_serial issuer serial s);
  serial_of = λ key. option_map (λ g. g.serial) (record_of_key issuer key s);
}

-- what a seat sees of its customer's rows
abbrev pub solo_sight : Section → List ℕ → SoloState → Sight
solo_sight c seat s = record {
  seat = seat_named seat s;
  orders = s.orders;
  order = λ name. option_map (solo_order_sight s) (find (λ o. bytes_eq name o.name) s.orders);
  issuer = λ issuer. if has_issuer c issuer then Some (solo_issued_in issuer s) else None;
  maps = length s.maps;
  text = λ digest. option_map (λ m. m.text) (find (λ m. bytes_eq digest m.digest) s.maps);
  devices = s.devices;
  device = λ chip. find (λ d. bytes_eq chip d.chip) s.devices;
  ledger = λ chip. filter (λ e. bytes_eq chip e.chip) s.ledger;
}

-- the customer's rows with a put, each row in its place; no cursor moves, as there is none
abbrev pub with_put : Put → SoloState → SoloState
with_put (seat_put r) s = record s { seats = with_row (by_text (λ r. r.name)) r s.seats }
with_put (order_put o) s = record s { orders = with_row (by_text (λ o. o.name)) o s.orders }
with_put (map_put text) s = record s {
  maps = with_row (by_text (λ m. m.digest)) (record { digest = sha256 text; text = text }) s.maps;
}
with_put (device_put d e) s = record s {
  devices = with_row (by_text (λ d. d.chip)) d s.devices;
  ledger = with_row solo_entry_cmp e s.ledger;
}
with_put (record_put g) s = record s { given = with_row solo_given_cmp g s.given }
with_put (number_put order number g) s = record s { given = with_row solo_given_cmp g s.given }

-- the customer's rows with puts made in turn, the first of them first
abbrev pub with_puts : List Put → SoloState → SoloState
with_puts [] s = s
with_puts (p ∷ ps) s = with_puts ps (with_put p s)

-- the own machine: the reply to a seat's request, by what the seat sees, and the state after it;
-- none where a device's order or its map is missing
abbrev pub solo : Section → List ℕ → SoloState → Request → Option (Answer × SoloState)
solo c seat s r = option_map (λ made. (made.reply, with_puts made.puts s))
    (response c seat (solo_sight c seat s) r)

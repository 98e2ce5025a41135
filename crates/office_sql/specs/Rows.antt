-- What the rows of the tables in SQL stand for, whatever stands in their columns, and the columns of each row. A row's rowid has place 0.
use Rattle.std.specs.Prelude.{ℕ, Bool, ◌&&◌, List, [], ◌∷◌, find, Option, None, option_and_then, option_map, bytes_eq}
use Rattle.sqlite.specs.declared.types.Value.TheVariants.{Null, Text as Words, Blob as Bytes}
use Rattle.sqlite.specs.Order.{Row, column, bytes}
use Rattle.office_tables.specs.Prelude.{state_row, reason_text, event_text, note_text}
use Rattle.office_tables.specs.declared.rows.OfCustomer.{OfCustomer}
use Rattle.office_tables.specs.declared.rows.SeatState.{SeatState}
use Rattle.office_tables.specs.declared.rows.Order.{Order}
use Rattle.office_tables.specs.declared.rows.Given.{Given}
use Rattle.office_tables.specs.declared.rows.MapRow.{MapRow}
use Rattle.office_tables.specs.declared.rows.Link.{Link}
use Rattle.office_tables.specs.declared.rows.NewMap.{NewMap}
use Rattle.office_tables.specs.declared.rows.Device.{Device}
use Rattle.office_tables.specs.declared.rows.Entry.{Entry}
use Rattle.office_tables.specs.declared.rows.NewEntry.{NewEntry}
use Rattle.office_sql.specs.Values.{number_in_cell, text_if, mac_if, state_in, event_in, text_value, mac_value, whole_value}

-- the beginning of validity that the first row for this order or record has in its third column; none where there is no row
abbrev pub not_before_in_rows : {A : Type 0} → (A → Row → Bool) → List Row → A → Option (List ℕ)
not_before_in_rows is_for validities x = option_and_then (λ r. text_if (column r 3)) (find (is_for x) validities)

-- seat: name, customer, last, digest, reply
abbrev pub seat_in_row : Row → OfCustomer SeatState
seat_in_row r = record {
  customer = bytes (column r 2);
  row = record { name = bytes (column r 1); last = number_in_cell (column r 3); digest = bytes (column r 4); reply = bytes (column r 5) };
}

abbrev pub seat_columns : OfCustomer SeatState → Row
seat_columns s = Words s.row.name ∷ Words s.customer ∷ whole_value s.row.last ∷ Bytes s.row.digest ∷ Words s.row.reply ∷ []

-- map: id, body, digest. The id is the rowid
abbrev pub map_in_row : Row → MapRow
map_in_row r = record { id = number_in_cell (column r 0); body = bytes (column r 2) }

-- the columns of a new map but its id, in whose own column NULL stands
abbrev pub map_columns : OfCustomer NewMap → Row
map_columns m = Words m.row.body ∷ Bytes m.row.digest ∷ []

-- link: customer, digest, map
abbrev pub link_in_row : Row → OfCustomer Link
link_in_row r = record { customer = bytes (column r 1); row = record { digest = bytes (column r 2); map = number_in_cell (column r 3) } }

abbrev pub link_columns : OfCustomer Link → Row
link_columns l = Words l.customer ∷ Bytes l.row.digest ∷ whole_value l.row.map ∷ []

-- orders: customer, name, issuer, prefix, width, first, quantity, macs, mac, cursor. Its beginning of validity stands in another table
abbrev pub order_in_row : Row → OfCustomer Order
order_in_row r = record {
  customer = bytes (column r 1);
  row = record {
    name = bytes (column r 2);
    issuer = bytes (column r 3);
    range = record {
      prefix = bytes (column r 4);
      width = number_in_cell (column r 5);
      first =
          number_in_cell (column r 6);
      quantity = number_in_cell (column r 7);
    };
    macs = number_in_cell (column r 8);
    mac = mac_if (column r 9);
    cursor = number_in_cell (column r 10);
    not_before = None;
  };
}

abbrev pub order_columns : OfCustomer Order → Row
order_columns o = Words o.customer ∷ Words o.row.name ∷ Words o.row.issuer
    ∷ Words o.row.range.prefix ∷ whole_value o.row.range.width ∷ whole_value o.row.range.first
    ∷ whole_value o.row.range.quantity ∷ whole_value o.row.macs ∷ mac_value o.row.mac ∷ whole_value o.row.cursor ∷ []

-- order_start: customer, ord, not_before. The row is the order's
abbrev pub is_validity_of_order : OfCustomer Order → Row → Bool
is_validity_of_order o r = bytes_eq o.customer (bytes (column r 1)) && bytes_eq o.row.name (bytes (column r 2))

abbrev pub order_start_columns : OfCustomer Order → Row
order_start_columns o = Words o.customer ∷ Words o.row.name ∷ text_value o.row.not_before ∷ []

-- an order with the beginning of validity that one of these rows has for it
abbrev pub with_order_not_before : List Row → OfCustomer Order → OfCustomer Order
with_order_not_before validities o = record o { row = record o.row { not_before = not_before_in_rows is_validity_of_order validities o } }

-- a row of orders, without its rowid, and behind it the third column of its row of order_start
abbrev pub joined_order : Row → OfCustomer Order
joined_order r = let o = order_in_row (Null ∷ r) in record o { row = record o.row { not_before = text_if (column (Null ∷ r) 11) } }

-- the columns of an order's row with another cursor, and the others as they stand
abbrev pub columns_with_cursor : ℕ → Row → Row
columns_with_cursor cursor r =
    column r 1 ∷ column r 2 ∷ column r 3 ∷ column r 4 ∷ column r 5 ∷ column r 6 ∷ column r 7 ∷ column r 8 ∷ column r 9 ∷ whole_value cursor ∷ []

-- device: customer, chip, ord, map, state, reason, bits, keys, todo, serial
abbrev pub device_in_row : Row → OfCustomer Device
device_in_row r = record {
  customer = bytes (column r 1);
  row = record {
    chip = bytes (column r 2);
    order = bytes (column r 3);
    map = bytes (column r 4);
    state = state_in (bytes (column r 5)) (text_if (column r 6));
    bits = bytes (column r 7);
    keys = bytes (column r 8);
    todo = bytes (column r 9);
    serial = text_if (column r 10);
  };
}

abbrev pub device_columns : OfCustomer Device → Row
device_columns d = Words d.customer ∷ Words d.row.chip ∷ Words d.row.order ∷ Bytes d.row.map ∷ Words (state_row d.row.state).text
    ∷ text_value (option_map reason_text (state_row d.row.state).reason) ∷ Bytes d.row.bits ∷ Bytes d.row.keys ∷ Bytes d.row.todo ∷ text_value d.row.serial ∷ []

-- given: issuer, serial, customer, key, chip, mac, not_after. Its beginning of validity stands in another table
abbrev pub given_in_row : Row → OfCustomer Given
given_in_row r = record {
  customer = bytes (column r 3);
  row = record {
    issuer = bytes (column r 1);
    serial = bytes (column r 2);
    key = bytes (column r 4);
    chip = text_if (column r 5);
    mac = mac_if (column r 6);
    not_after = bytes (column r 7);
    not_before = None;
  };
}

abbrev pub given_columns : OfCustomer Given → Row
given_columns g = Words g.row.issuer ∷ Words g.row.serial ∷ Words g.customer ∷ Bytes g.row.key
    ∷ text_value g.row.chip ∷ mac_value g.row.mac ∷ Words g.row.not_after ∷ []

-- given_start: issuer, serial, not_before. The row is the record's
abbrev pub is_validity_of_given : OfCustomer Given → Row → Bool
is_validity_of_given g r = bytes_eq g.row.issuer (bytes (column r 1)) && bytes_eq g.row.serial (bytes (column r 2))

abbrev pub given_start_columns : OfCustomer Given → Row
given_start_columns g = Words g.row.issuer ∷ Words g.row.serial ∷ text_value g.row.not_before ∷ []

-- a record with the beginning of validity that one of these rows has for it
abbrev pub with_given_not_before : List Row → OfCustomer Given → OfCustomer Given
with_given_not_before validities g = record g { row = record g.row { not_before = not_before_in_rows is_validity_of_given validities g } }

-- a row of given, without its rowid, and behind it the third column of its row of given_start
abbrev pub joined_given : Row → OfCustomer Given
joined_given r = let g = given_in_row (Null ∷ r) in record g { row = record g.row { not_before = text_if (column (Null ∷ r) 8) } }

-- ledger: id, customer, chip, n, event, note, seat, bits, keys. The id is the rowid
abbrev pub entry_in_row : Row → OfCustomer Entry
entry_in_row r = record {
  customer = bytes (column r 2);
  row = record {
    id = number_in_cell (column r 0);
    chip = bytes (column r 3);
    number = number_in_cell (column r 4);
    event = event_in (bytes (column r 5)) (bytes (column r 6));
    seat = bytes (column r 7);
    bits = bytes (column r 8);
    keys = bytes (column r 9);
  };
}

-- the columns of a new entry of the ledger but its id, in whose own column NULL stands
abbrev pub entry_columns : OfCustomer NewEntry → Row
entry_columns e = Words e.customer ∷ Words e.row.chip ∷ whole_value e.row.number
    ∷ Words (event_text e.row.event) ∷ Words (note_text e.row.event) ∷ Words e.row.seat
    ∷ Bytes e.row.bits ∷ Bytes e.row.keys ∷ []

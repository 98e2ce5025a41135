-- What takes the writes of a commit back.
use Rattle.std.specs.Prelude.{List, [], ◌∷◌, Some}
use Rattle.office_tables.specs.Prelude.{Tables, has_id, is_device, is_entry, is_serial_of, seat_cmp, order_cmp, link_cmp, device_cmp}
use Rattle.memory_keeper.specs.Unplaced.{without, unplaced}
use Rattle.memory_keeper.specs.declared.memory.Undo.{Undo}
use Rattle.memory_keeper.specs.declared.memory.Undo.TheVariants.{PutSeat, AddOrder, SetCursor, AddMap, AddLink, AddDevice, PutDevice, AddGiven, AddEntry}

-- the tables with a write taken back
abbrev pub undone : Undo → Tables → Tables
undone (PutSeat row old) t = record t { seats = unplaced seat_cmp row.now old t.seats }
undone (AddOrder row old) t = record t { orders = unplaced order_cmp row.now old t.orders }
undone (SetCursor old) t = record t { orders = unplaced order_cmp old (Some old) t.orders }
undone (AddMap link old) t = record t { maps = without (has_id link.row.map) t.maps; links = unplaced link_cmp link old t.links }
undone (AddLink row old) t = record t { links = unplaced link_cmp row.now old t.links }
undone (AddDevice row) t = record t { devices = without (is_device row.now.customer row.now.row.chip) t.devices }
undone (PutDevice old) t = record t { devices = unplaced device_cmp old (Some old) t.devices }
undone (AddGiven g) t = record t { given = without (is_serial_of g.now.row.issuer g.now.row.serial) t.given }
undone (AddEntry e) t = record t { ledger = without (is_entry e.now.customer e.now.row.chip e.now.row.number) t.ledger }

-- the tables with each of several writes taken back, the last of them first
abbrev pub undone_all : List Undo → Tables → Tables
undone_all [] t = t
undone_all (undo ∷ undos) t = undone undo (undone_all undos t)

-- The words of this crate, passed on from one place. Declares nothing.
pub use Rattle.office_tables.specs.Keeping.{Crashes, KeepsText, LooksUp, Reads, Stands, Visits}
pub use Rattle.office_tables.specs.Numbers.{largest_number, one_more}
pub use Rattle.office_tables.specs.OrderPlaces.{places_taken, takes_place}
pub use Rattle.office_tables.specs.PlaceCounting.{place_of_device, text_pair_cmp}
pub use Rattle.office_tables.specs.Reading.{ReadsOnly}
pub use Rattle.office_tables.specs.States.{is_one_of, plain_states, state_row, StateRow}
pub use Rattle.office_tables.specs.Tables.{AreAscendingByKey, CanWrite, claim_of, device_at, device_cmp, entry_at, entry_cmp, entry_under, entry_with, given_at}
pub use Rattle.office_tables.specs.Tables.{given_by_key, given_cmp, is_device_behind, is_given_behind, greatest}
pub use Rattle.office_tables.specs.Tables.{has_address, has_body, has_entry_id, has_id, is_address}
pub use Rattle.office_tables.specs.Tables.{is_bound, is_device, is_entry, is_entry_of, is_link, is_of, is_of_issuer, is_order, is_seat, is_serial_of}
pub use Rattle.office_tables.specs.Tables.{IsAddressFree, IsFree, IsAscending, last_number, link_at, link_cmp, map_at, map_cmp, map_with, no_rows, order_at}
pub use Rattle.office_tables.specs.Tables.{order_cmp, rows_of, seat_at, seat_cmp, Tables, text_cmp, with_cursor, with_cursor_of, with_device, with_given}
pub use Rattle.office_tables.specs.Tables.{with_link, with_map, with_new_entry, with_new_map, with_order, with_row, with_seat, Writes, Written}
pub use Rattle.office_tables.specs.Texts.{event_of_texts, event_text, note_text, outcome_of_text, outcome_text, plain_event, reason_of_text, reason_text}
pub use Rattle.office_tables.specs.Texts.{state_of_texts}

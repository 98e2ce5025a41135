-- The words of this crate, passed on from one place. Declares nothing.
pub use Rattle.office_sql.specs.Asking.{HasOffice, HasOfficeSchema, SqlReads, SqlWrites}
pub use Rattle.office_sql.specs.Claims.{claim_in}
pub use Rattle.office_sql.specs.Change.{HasMade, HasWritten, IsInside, IsMade, IsUndone, LeavesMade, Makes, Remakes, Replaces, Rests, SameBut, SqlAdds}
pub use Rattle.office_sql.specs.Change.{SqlStays, WritesAllRows, WritesRows, Wrote}
pub use Rattle.office_sql.specs.Joins.{beside, first_that, HasBeside, is_same, over, over_by, pair, passes_join}
pub use Rattle.office_sql.specs.Keeping.{IsReady}
pub use Rattle.office_sql.specs.Ledger.{first_number, IsEventOfTexts, shown_entry}
pub use Rattle.office_sql.specs.Looking.{Looks, SqlUnchanged}
pub use Rattle.office_sql.specs.Maps.{GainsMap}
pub use Rattle.office_sql.specs.OfficeTable.{devices, given, given_starts, ledger, links, maps, meta, OfficeTable, order_starts, orders, seats, site_texts}
pub use Rattle.office_sql.specs.OrderStates.{order_state, order_state_in}
pub use Rattle.office_sql.specs.Rows.{columns_with_cursor, device_columns, device_in_row, entry_columns, entry_in_row, given_columns, given_in_row}
pub use Rattle.office_sql.specs.Rows.{given_start_columns, joined_given, joined_order, link_columns, link_in_row, map_columns, map_in_row, order_columns}
pub use Rattle.office_sql.specs.Rows.{order_in_row, order_start_columns, seat_columns, seat_in_row, not_before_in_rows, is_validity_of_given}
pub use Rattle.office_sql.specs.Rows.{is_validity_of_order, with_given_not_before, with_order_not_before}
pub use Rattle.office_sql.specs.Scan.{env, is_above_parameter, is_parameter, passes, passing, scan}
pub use Rattle.office_sql.specs.Schema.{blob, column, device_table, given_start_table, given_table, index_at, ledger_table, link_table, map_table, meta_table}
pub use Rattle.office_sql.specs.Schema.{no_schema, office_schema, order_start_table, orders_table, place_of, rows_in, seat_table, site_text_table, table_at}
pub use Rattle.office_sql.specs.Schema.{table_of, text, to, tree_of, whole, with_meta}
pub use Rattle.office_sql.specs.Seats.{LacksSeat}
pub use Rattle.office_sql.specs.Tables.{AreKeyed, AreOfficeRows, AreRows, AreRowsOf, HaveOneValidityRow, HasOne, IsBlob, IsDeviceRow, IsEntryRow, IsGivenRow}
pub use Rattle.office_sql.specs.Tables.{IsLinkRow, IsMapRow, IsOffice, IsOrderRow, IsSeatRow, IsValidityRow, IsText, IsTextIf, IsWhole, office_over, tables_in}
pub use Rattle.office_sql.specs.Tables.{tables_of, Told, told_in}
pub use Rattle.office_sql.specs.Values.{event_in, mac_if, mac_value, number_in_cell, state_in, text_if, text_value, whole_value}
pub use Rattle.office_sql.specs.Visiting.{HasVisited}

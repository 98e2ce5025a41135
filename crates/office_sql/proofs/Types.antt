-- The types that code declares and proofs here name, passed on from one place. Declares nothing.
pub use Rattle.id_ranges.specs.declared.fault.RangeFault.{RangeFault}
pub use Rattle.id_ranges.specs.declared.fault.RangeFault.TheVariants.{BadNotBefore}
pub use Rattle.office_tables.specs.declared.rows.Cursor.{Cursor}
pub use Rattle.office_tables.specs.declared.rows.Device.{Device}
pub use Rattle.office_tables.specs.declared.rows.DeviceState.{DeviceState}
pub use Rattle.office_tables.specs.declared.rows.Entry.{Entry}
pub use Rattle.office_tables.specs.declared.rows.Event.{Event}
pub use Rattle.office_tables.specs.declared.rows.Given.{Given}
pub use Rattle.office_tables.specs.declared.rows.Link.{Link}
pub use Rattle.office_tables.specs.declared.rows.MapRow.{MapRow}
pub use Rattle.office_tables.specs.declared.rows.NewEntry.{NewEntry}
pub use Rattle.office_tables.specs.declared.rows.NewMap.{NewMap}
pub use Rattle.office_tables.specs.declared.rows.OfCustomer.{OfCustomer}
pub use Rattle.office_tables.specs.declared.rows.Order.{Order}
pub use Rattle.office_tables.specs.declared.rows.SeatState.{SeatState}
pub use Rattle.office_tables.specs.declared.rows.Write.TheVariants.{AddDevice, AddEntry, AddGiven, AddLink, AddMap, AddOrder, PutDevice, PutSeat, SetCursor}

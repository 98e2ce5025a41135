-- The types that code declares and proofs here name, passed on from one place. Declares nothing.
pub use Rattle.office_sql.specs.declared.devices.OrderState.{OrderState}
pub use Rattle.office_tables.specs.declared.rows.Device.{Device}
pub use Rattle.office_tables.specs.declared.rows.MapRow.{MapRow}
pub use Rattle.office_tables.specs.declared.rows.OfCustomer.{OfCustomer}
pub use Rattle.office_tables.specs.declared.rows.Order.{Order}
pub use Rattle.office_tables.specs.declared.rows.Write.{Write}
pub use Rattle.office_tables.specs.declared.rows.Write.TheVariants.{AddEntry, AddGiven, AddMap, SetCursor}

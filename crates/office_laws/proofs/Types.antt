-- The types that code declares and proofs here name, passed on from one place. Declares nothing.
pub use Rattle.fuse_image.specs.declared.image.Image.{Image}
pub use Rattle.fuse_image.specs.declared.pending.Pending.{Pending}
pub use Rattle.fuse_image.specs.declared.redaction.ReadBack.{ReadBack}
pub use Rattle.fuse_plan.specs.declared.fault.PlanFault.{PlanFault}
pub use Rattle.fuse_plan.specs.declared.verdict.Verdict.{Verdict}
pub use Rattle.fuse_plan.specs.declared.wish.Want.{Want}
pub use Rattle.fuse_plan.specs.declared.wish.Wish.{Wish}
pub use Rattle.fusemap_core.specs.declared.fault.MapFault.{MapFault}
pub use Rattle.fusemap_core.specs.declared.field.Field.{Field}
pub use Rattle.id_ranges.specs.declared.rows.ImportRow.{ImportRow}
pub use Rattle.office_commands.specs.declared.command.Action.{Action}
pub use Rattle.office_commands.specs.declared.command.Change.{Change}
pub use Rattle.office_commands.specs.declared.command.Change.TheVariants.{Act, Identify, Import, ImportMap, MakeOrder, RegisterDevice}
pub use Rattle.office_commands.specs.declared.command.Command.{Command}
pub use Rattle.office_commands.specs.declared.command.Command.TheVariants.{Show}
pub use Rattle.office_commands.specs.declared.command.Request.{Request}
pub use Rattle.office_commands.specs.declared.new_device.NewDevice.{NewDevice}
pub use Rattle.office_commands.specs.declared.new_identity.NewIdentity.{NewIdentity}
pub use Rattle.office_commands.specs.declared.new_identity.NewImport.{NewImport}
pub use Rattle.office_commands.specs.declared.new_order.NewOrder.{NewOrder}
pub use Rattle.office_commands.specs.declared.refusal.Refusal.{Refusal}
pub use Rattle.office_commands.specs.declared.refusal.Refusal.TheVariants.{BadMap, Unkept}
pub use Rattle.office_commands.specs.Prelude.{unkept}
pub use Rattle.office_rules.specs.declared.device_step.DeviceStep.{DeviceStep}
pub use Rattle.office_rules.specs.declared.device_step.FoundDevice.{FoundDevice}
pub use Rattle.office_rules.specs.declared.retry.Retry.{Retry}
pub use Rattle.office_rules.specs.declared.retry.Retry.TheVariants.{Next, Repeats}
pub use Rattle.office_tables.specs.declared.rows.Batches.{Batches}
pub use Rattle.office_tables.specs.declared.rows.Batches.TheVariants.{Neither}
pub use Rattle.office_tables.specs.declared.rows.Cursor.{Cursor}
pub use Rattle.office_tables.specs.declared.rows.Device.{Device}
pub use Rattle.office_tables.specs.declared.rows.DeviceState.{DeviceState}
pub use Rattle.office_tables.specs.declared.rows.Entry.{Entry}
pub use Rattle.office_tables.specs.declared.rows.Event.{Event}
pub use Rattle.office_tables.specs.declared.rows.Given.{Given}
pub use Rattle.office_tables.specs.declared.rows.Link.{Link}
pub use Rattle.office_tables.specs.declared.rows.MapRow.{MapRow}
pub use Rattle.office_tables.specs.declared.rows.NewEntry.{NewEntry}
pub use Rattle.office_tables.specs.declared.rows.OfCustomer.{OfCustomer}
pub use Rattle.office_tables.specs.declared.rows.Order.{Order}
pub use Rattle.office_tables.specs.declared.rows.SeatState.{SeatState}
pub use Rattle.site_core.specs.declared.site.SeatCaller.{SeatCaller}

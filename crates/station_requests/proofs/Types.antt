-- The types that code declares and proofs here name, passed on from one place. Declares nothing.
pub use Rattle.fuse_plan.specs.declared.wish.Want.{Want}
pub use Rattle.fuse_plan.specs.declared.wish.Wish.{Wish}
pub use Rattle.office_commands.specs.declared.command.Action.{Action}
pub use Rattle.office_commands.specs.declared.command.Change.{Change}
pub use Rattle.office_commands.specs.declared.command.Request.{Request}
pub use Rattle.office_commands.specs.declared.command.Show.{Show}
pub use Rattle.office_commands.specs.declared.new_device.NewDevice.{NewDevice}
pub use Rattle.office_commands.specs.declared.new_identity.NewIdentity.{NewIdentity}
pub use Rattle.office_commands.specs.declared.new_identity.NewImport.{NewImport}
pub use Rattle.office_commands.specs.declared.new_order.NewOrder.{NewOrder}
pub use Rattle.office_commands.specs.declared.refusal.Refusal.{Refusal}
pub use Rattle.station_requests.specs.declared.parse.Operation.{Operation}
pub use Rattle.station_requests.specs.declared.parse.Parsed.{Parsed}
pub use Rattle.station_requests.specs.declared.parse.Route.{Route}
pub use Rattle.station_requests.specs.declared.plan.Kind.{Kind}

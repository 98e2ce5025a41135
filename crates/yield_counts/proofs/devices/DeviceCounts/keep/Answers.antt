use Rattle.std.proofs.Common.{◌≡◌, Some, refl, subst}
use Rattle.yield_counts.specs.Counting.{AreColumnsOf}
use Rattle.yield_counts.specs.declared.columns.OrderColumns.{OrderColumns}
use Rattle.yield_counts.proofs.Columned.{counted_put}
use Rattle.yield_counts.proofs.devices.DeviceCounts.keep.Goals as goal

pub returns-in-Ok : goal.returns-in-Ok
returns-in-Ok c = λ rows right fits.
    counted_put c.args.customer.now rows rows c.args.self.now (record { customers = c.insert.new.self }) (Some c.args.orders)
    (λ other apart order column. refl) right (λ orders is.
    let same : c.args.orders ≡ orders = (let e = is in cc) in
    subst (λ (o : OrderColumns). AreColumnsOf c.args.customer.now rows o) same fits) c.in-Ok.ensures.updates.0

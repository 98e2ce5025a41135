-- What an order that is asked for is.
use Rattle.std.specs.Prelude.{◌≤◌}
use Rattle.office_commands.specs.Wholes.{largest_whole}
use Rattle.office_commands.specs.declared.new_order.NewOrder.{NewOrder}

-- a width of 1 to 9, a first number and a quantity that JSON readers hold exactly, and 0 to 4 addresses a device
pub record IsNewOrder (o : NewOrder) : Type 0 where
  pub least_width : 1 ≤ o.width
  pub largest_width : o.width ≤ 9
  pub largest_first : o.first ≤ largest_whole
  pub least_quantity : 1 ≤ o.quantity
  pub largest_quantity : o.quantity ≤ largest_whole
  pub largest_macs : o.macs ≤ 4

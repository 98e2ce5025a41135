-- The lines of a report: what one row adds while orders are read, and the line of each order.
use Rattle.std.specs.Prelude.{◌≡◌, ◌++◌, Bool, true, false, List, [], ◌∷◌, is_some, map}
use Rattle.office_tables.specs.declared.rows.OfCustomer.{OfCustomer}
use Rattle.office_tables.specs.declared.rows.Order.{Order}
use Rattle.office_tables.specs.declared.rows.Device.{Device}
use Rattle.yield_report.specs.Counts.{columns, count_in, count_unused, devices_of, HasIssued, yield_of}
use Rattle.yield_counts.specs.declared.count.OrderCounts.{OrderCounts}
use Rattle.yield_report.specs.declared.lines.OrderHead.{OrderHead}
use Rattle.yield_report.specs.declared.lines.OrderLine.{OrderLine}
use Rattle.yield_report.specs.declared.lines.OrderScan.{OrderScan}

-- what the line of an order is of
abbrev pub head_of : Order → OrderHead
head_of o = record { name = o.name; issuer = o.issuer; range = o.range }

-- an order is added to those gathered; or memory ran out, and the walk ends
pub record GathersOrder (old : OrderScan) (row : OfCustomer Order) (goes_on : Bool) (new : OrderScan) : Type 0 where
  pub orders : goes_on ≡ true → new.orders.items ≡ old.orders.items ++ head_of row.row ∷ []
  pub same : goes_on ≡ true → new.failed ≡ old.failed
  pub no_memory : goes_on ≡ false → is_some new.failed ≡ true

-- the line of an order, by all devices of its customer and all that is given
abbrev pub whole_line : HasIssued → List Device → Order → OrderLine
whole_line given devices o = record { name = o.name; numbers = yield_of given devices o }

-- the line of an order, by what is counted of it
abbrev pub line_with : OrderHead → OrderCounts → OrderLine
line_with h counts = record { name = h.name; numbers = h.range.quantity ∷ (counts.devices ++ counts.left ∷ []) }

-- the line of an order, by all devices of its customer and all that is given
abbrev pub line_of : HasIssued → List Device → OrderHead → OrderLine
line_of given devices h =
    line_with h (record { devices = map (count_in (devices_of h.name devices)) columns; left = count_unused (given h.issuer) h.range })

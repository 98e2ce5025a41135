-- The order and the state of a device.
use Rattle.sqlite.specs.Order.{Row, column, bytes}
use Rattle.office_tables.specs.declared.rows.OfCustomer.{OfCustomer}
use Rattle.office_tables.specs.declared.rows.Device.{Device}
use Rattle.office_sql.specs.declared.devices.OrderState.{OrderState}
use Rattle.office_sql.specs.Values.{state_in, text_if}

-- the name of the order that a device is of, and the device's state
abbrev pub order_state : OfCustomer Device → OrderState
order_state d = record { order = d.row.order; state = d.row.state }

-- the order and the state of a device, as a row of three columns shows them
abbrev pub order_state_in : Row → OrderState
order_state_in r = record { order = bytes (column r 0); state = state_in (bytes (column r 1)) (text_if (column r 2)) }

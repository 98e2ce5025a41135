-- Which devices take a place of an order, by their orders and states.
use Rattle.std.specs.Prelude.{ℕ, List, Bool, ◌&&◌, bytes_eq, not}
use Rattle.office_tables.specs.Prelude.{state_row}
use Rattle.office_sql.specs.declared.devices.OrderState.{OrderState}

-- a device in this state takes a place of the order
abbrev pub takes : List ℕ → OrderState → Bool
takes order s = bytes_eq order s.order && not (state_row s.state).is_given_up

-- The loop has read the rows that it passed.
use Rattle.std.proofs.Common.{◌≡◌, take, map}
use Rattle.office_sql.specs.Prelude.{order_state_in}
use Rattle.office_sql.proofs.devices.read_states.Given as goal

abbrev pub invariant-loop-row : goal.invariant-loop-row
invariant-loop-row l = l.states.items ≡ map order_state_in (take l.row-index l.rows)

-- The first of the rows is the device.
use Rattle.std.proofs.Common.{rules, ◌∷◌}
use Rattle.sqlite.specs.declared.types.Value.TheVariants.{Null}
use Rattle.office_tables.specs.Prelude.{is_device}
use Rattle.office_sql.specs.Prelude.{device_in_row}
use Rattle.office_sql.proofs.Reading.{asks_first}
use Rattle.office_sql.proofs.devices.device_row.Goals as goal

pub returns : goal.returns
returns g c =
    asks_first g.S.Store c.args.conn.now c.device_rows.new.conn c.device_rows.result _ c.first_row.result (λ r. device_in_row (Null ∷ r))
    (is_device c.args.customer.now c.args.chip.now) (λ t. t.devices) c.device_rows.ensures c.first_row.ensures (λ t is. search rules) (search rules)

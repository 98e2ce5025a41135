-- The insert adds the device.
use Rattle.sqlite.specs.Held.{state}
use Rattle.office_sql.specs.Prelude.{device_columns}
use Rattle.office_sql.proofs.DeviceTexts.{add_insert, add_casts, device_added}
use Rattle.office_sql.proofs.Inserting.{inserts}
use Rattle.office_sql.proofs.devices.insert_device.Goals as goal

pub returns-clause-changes : goal.returns-clause-changes
returns-clause-changes g c =
    let device = c.args.device.now in
    inserts g.S.Store add_insert _ (device_columns device) (device_columns device)
    c.values_of.ensures (add_casts device) c.args.tx.now.conn.now c.execute.new.self.conn.now c.execute.result _ c.requires.office
    (λ count up office adds.
    device_added device (state g.S.Store c.args.tx.now.conn.now).now
    (state g.S.Store c.execute.new.self.conn.now).now office (c.requires.free up) adds)
    c.execute.ensures.ended c.execute.ensures.runs c.execute.ensures.survives

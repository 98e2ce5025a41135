-- An update of one row puts the device in its place.
use Rattle.sqlite.specs.Held.{state}
use Rattle.office_sql.specs.Prelude.{device_columns}
use Rattle.office_sql.proofs.DeviceTexts.{device_put}
use Rattle.office_sql.proofs.Inserting.{changes}
use Rattle.office_sql.proofs.devices.update_device.Goals as goal

pub returns-clause-changes : goal.returns-clause-changes
returns-clause-changes g c =
    let device = c.args.device.now in
    let old = state g.S.Store c.args.tx.now.conn.now in
    let new = state g.S.Store c.execute.new.self.conn.now in
    changes g.S.Store _ _ (device_columns device)
    c.values_of.ensures
    c.args.tx.now.conn.now c.execute.new.self.conn.now c.execute.result _ c.requires
    (λ count up office ran. device_put device old new count office ran)
    c.execute.ensures.ended c.execute.ensures.runs c.execute.ensures.survives

use Rattle.std.proofs.Common.{◌∙◌, None, Some, ap, if◌then◌else◌}
use Rattle.office_tables.specs.Prelude.{is_bound}
use Rattle.memory_keeper.specs.Prelude.{serial_of}
use Rattle.memory_keeper.proofs.Records.{free_serial, macs_put, serials_back, serials_put}
use Rattle.memory_keeper.proofs.given.GivenIndex.add.Goals as goal

pub returns-in_default-clause-ok_serials : goal.returns-in_default-clause-ok_serials
returns-in_default-clause-ok_serials c =
    serials_put c.args.self.now (record { serials = c.insert.new.self; macs = c.args.self.now.macs }) c.args.row.now
    (Some c.args.row.now.row.serial) c.in_ok-insert.ensures.updates.0

pub returns-in-Ok-clause-ok_serials : goal.returns-in-Ok-clause-ok_serials
returns-in-Ok-clause-ok_serials c =
    serials_put c.args.self.now (record { serials = c.insert.new.self; macs = c.insert-2.new.self }) c.args.row.now
    (Some c.args.row.now.row.serial) c.in_ok-insert.ensures.updates.0

pub returns-in-Ok-clause-ok_macs : goal.returns-in-Ok-clause-ok_macs
returns-in-Ok-clause-ok_macs c = λ mac. rw c.in-Some.is (macs_put c.args.self.now.macs c.insert-2.new.self c.in-Some.mac c.in-Ok.ensures.updates.0 mac)

pub returns-in-Err-clause-err_serials : goal.returns-in-Err-clause-err_serials
returns-in-Err-clause-err_serials c = λ issuer key.
    let row = c.args.row.now in
    serials_put (record { serials = c.insert.new.self; macs = c.args.self.now.macs })
    (record { serials = c.remove.new.self; macs = c.insert-2.new.self }) row None c.remove.ensures.updates.0 issuer key
    ∙ (ap (λ x. if is_bound issuer key row then None else x)
    (serials_put c.args.self.now (record { serials = c.insert.new.self; macs = c.args.self.now.macs }) row
    (Some row.row.serial) c.in_ok-insert.ensures.updates.0 issuer key)
    ∙ serials_back row (serial_of issuer key c.args.self.now) (Some row.row.serial) issuer key (free_serial c.args.self.now row c.requires.free_key issuer key))

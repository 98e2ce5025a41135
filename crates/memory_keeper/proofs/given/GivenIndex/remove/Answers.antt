use Rattle.std.proofs.Common.{None}
use Rattle.memory_keeper.proofs.Records.{macs_taken, serials_put}
use Rattle.memory_keeper.proofs.given.GivenIndex.remove.Goals as goal

pub returns-in-Some-clause-serials : goal.returns-in-Some-clause-serials
returns-in-Some-clause-serials c =
    serials_put c.args.self.now (record { serials = c.remove.new.self; macs = c.remove-in-Some.new.self }) c.args.row.now None c.remove.ensures.updates.0

pub returns-in-Some-clause-macs : goal.returns-in-Some-clause-macs
returns-in-Some-clause-macs c =
    λ mac. rw c.in-Some.is (macs_taken c.args.self.now.macs c.remove-in-Some.new.self c.in-Some.mac c.remove-in-Some.ensures.updates.0 mac)

pub returns-in_default-clause-serials : goal.returns-in_default-clause-serials
returns-in_default-clause-serials c =
    serials_put c.args.self.now (record { serials = c.remove.new.self; macs = c.args.self.now.macs }) c.args.row.now None c.remove.ensures.updates.0

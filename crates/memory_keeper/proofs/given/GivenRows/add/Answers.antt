use Rattle.std.proofs.Common.{◌≡◌, None, find}
use Rattle.office_tables.specs.Prelude.{is_bound, is_serial_of, IsAddressFree}
use Rattle.memory_keeper.proofs.Records.{indexed-placed, without-placed_given}
use Rattle.memory_keeper.proofs.given.GivenRows.add.Goals as goal

pub invariant_of-self-in-Ok : goal.invariant_of-self-in-Ok
invariant_of-self-in-Ok c =
    let row = c.args.row.now in
    let rows = c.self.inside.rows in
    let free_serial : find (is_serial_of row.row.issuer row.row.serial) rows ≡ None =
    rw (← c.self.view_is) at (c.is_taken.ensures.serial c.if-is_taken.false) in
    let free_key : find (is_bound row.row.issuer row.row.key) rows ≡ None = rw (← c.self.view_is) at (c.is_taken.ensures.key c.if-is_taken.false) in
    let free_mac : IsAddressFree row.row.mac rows = rw (← c.self.view_is) at (c.is_taken.ensures.address c.if-is_taken.false) in
    rw c.in-Ok.ensures.placed (indexed-placed rows c.self.inside.index c.add.new.self c.self.invariant row free_serial free_key free_mac
    c.is_taken.ensures.is_serial c.in_ok-add.ensures.ok_serials c.in_ok-add.ensures.ok_macs)

pub returns-in-Ok-clause-undone : goal.returns-in-Ok-clause-undone
returns-in-Ok-clause-undone c =
    let row = c.args.row.now in
    let rows = c.self.inside.rows in
    let free_serial : find (is_serial_of row.row.issuer row.row.serial) rows ≡ None =
    rw (← c.self.view_is) at (c.is_taken.ensures.serial c.if-is_taken.false) in
    rw (c.in-Ok.ensures.placed, ← c.self.view_is) (without-placed_given row rows free_serial)

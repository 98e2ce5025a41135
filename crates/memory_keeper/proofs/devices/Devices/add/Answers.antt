use Rattle.std.proofs.Common.{◌≡◌, ◌∙◌, None, sym, find, is_eq}
use Rattle.office_tables.specs.Prelude.{device_cmp}
use Rattle.memory_keeper.proofs.Absent.{none_copied, without-placed_device}
use Rattle.memory_keeper.proofs.Keys.{find_device}
use Rattle.memory_keeper.proofs.devices.Devices.add.Goals as goal

pub returns-clause-undone : goal.returns-clause-undone
returns-clause-undone c =
    let row = c.args.row.now in
    let rows = c.self.inside.rows in
    let free : find (λ y. is_eq (device_cmp row y)) rows ≡ None =
    find_device row.customer row.row.chip rows ∙ none_copied _ _ (sym (rw c.if-is_some.false at c.is_some.ensures)) (rw (← c.self.view_is) at c.get.ensures)
    in
    rw (c.in_ok-insert.ensures.placed, ← c.self.view_is) (without-placed_device row rows free)

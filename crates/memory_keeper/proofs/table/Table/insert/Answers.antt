use Rattle.std.proofs.Common.{sym}
use Rattle.memory_keeper.proofs.Placing.{placed-values, AreKeyed-insert, unplaced-insert}
use Rattle.memory_keeper.proofs.table.Table.insert.Goals as goal

pub invariant_of-self-2 : goal.invariant_of-self-2
invariant_of-self-2 g c =
    rw (c.in_ok-insert.ensures.entries, c.key.ensures) (AreKeyed-insert g.R.Key.Ord.cmp g.met.R.Key.Ord.total g.R.Row.key_of c.args.row
    c.self.inside.rows.entries c.self.invariant)

pub returns-clause-placed : goal.returns-clause-placed
returns-clause-placed g c =
    rw (c.in_ok-insert.ensures.entries, c.key.ensures, ← c.self.view_is)
    (placed-values g.R.Key.Ord.cmp g.met.R.Key.Ord.total g.R.Row.key_of c.args.row c.self.inside.rows.entries c.self.invariant)

pub returns-clause-undone : goal.returns-clause-undone
returns-clause-undone g c =
    rw (c.in_ok-insert.ensures.entries, c.key.ensures, ← c.self.view_is)
    (unplaced-insert g.R.Key.Ord.cmp g.met.R.Key.Ord.total g.R.Row.key_of c.args.row c.in_ok-insert.field-0 c.self.inside.rows.entries c.self.invariant
    c.insert.ensures.was_ordered (rw (← c.key.ensures) (sym c.in_ok-insert.ensures.old)))

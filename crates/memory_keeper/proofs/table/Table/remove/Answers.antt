use Rattle.std.proofs.Common.{◌∙◌}
use Rattle.memory_keeper.proofs.Placing.{find-values, without-values, AreKeyed-remove}
use Rattle.memory_keeper.proofs.table.Table.remove.Goals as goal

pub invariant_of-self : goal.invariant_of-self
invariant_of-self g c =
    rw c.remove.ensures.entries (AreKeyed-remove g.R.Key.Ord.cmp g.met.R.Key.Ord.total g.R.Row.key_of _ c.self.inside.rows.entries c.self.invariant)

pub returns-clause-removed : goal.returns-clause-removed
returns-clause-removed g c =
    rw (← c.self.view_is) (c.remove.ensures.value ∙ find-values g.R.Key.Ord.cmp g.met.R.Key.Ord.total g.R.Row.key_of c.args.key.now c.self.inside.rows.entries
    c.self.invariant)

pub returns-clause-other_rows : goal.returns-clause-other_rows
returns-clause-other_rows g c =
    rw (c.remove.ensures.entries, ← c.self.view_is) (without-values g.R.Key.Ord.cmp g.met.R.Key.Ord.total g.R.Row.key_of c.args.key.now
    c.self.inside.rows.entries c.self.invariant)

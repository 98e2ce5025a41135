use Rattle.std.proofs.Common.{◌∙◌}
use Rattle.memory_keeper.proofs.Placing.{find-values}
use Rattle.memory_keeper.proofs.table.Table.get.Goals as goal

pub returns : goal.returns
returns g c =
    rw (← c.self.view_is) (c.get.ensures.value ∙ find-values g.R.Key.Ord.cmp g.met.R.Key.Ord.total g.R.Row.key_of c.args.key.now c.self.inside.rows.entries
    c.self.invariant)

use Rattle.memory_keeper.proofs.Placing.{ascending-values}
use Rattle.memory_keeper.proofs.table.Table.fact_ascending.Goals as goal

pub returns : goal.returns
returns g c =
    rw (← c.self.view_is) (ascending-values g.R.Key.Ord.cmp g.met.R.Key.Ord.total g.R.Row.key_of c.self.inside.rows.entries c.self.invariant
    c.len-count.ensures.ordered)

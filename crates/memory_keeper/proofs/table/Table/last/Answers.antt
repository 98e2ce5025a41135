use Rattle.memory_keeper.proofs.Placing.{key_found, greatest-values}
use Rattle.memory_keeper.proofs.table.Table.last.Goals as goal

pub returns-clause-greatest : goal.returns-clause-greatest
returns-clause-greatest g c =
    let same =
    key_found g.R.Key.Ord.cmp g.met.R.Key.Ord.total g.R.Row.key_of c.in_ok-row.field-0-0.now c.in_ok-row.row.now c.self.inside.rows.entries c.self.invariant
    c.in_ok-row.ensures.value in
    rw (← c.self.view_is) (greatest-values g.R.Key.Ord.cmp g.met.R.Key.Ord.total g.R.Row.key_of c.in_ok-row.field-0-0.now
    (g.R.Row.key_of c.in_ok-row.row.now) c.self.inside.rows.entries same c.self.invariant c.in_ok-row.ensures.all_up_to)

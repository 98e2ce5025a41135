use Rattle.text_core.proofs.Kit.{refl, true, false, deref_pair, rest_all}
use Rattle.memory_keeper.proofs.Placing.{filter-values-behind}
use Rattle.memory_keeper.proofs.table.Table.visit_parts_behind.Goals as goal

pub loop-found-init : goal.loop-found-init
loop-found-init g c = λ end v.
    let visited = rw (c.into_iter-found-iterator.ensures.into_iter_gives, c.range-found-items.ensures.between tt) at v in
    rw (
      ← c.self.view_is,
      ← (filter-values-behind g.R.Key.Ord.cmp g.met.R.Key.Ord.total g.R.Row.key_of c.args.first c.args.last c.self.inside.rows.entries
          c.self.invariant),
    ) visited

pub returns-then-not-take : goal.returns-then-not-take
returns-then-not-take g c =
    c.loop-found.invariant c.take.new.self
    (rw c.in-Some.ensures.steps (false, c.take.new.self, rw c.of_row.ensures at c.if-not-take.ensures, refl))

pub loop-found-preserved : goal.loop-found-preserved
loop-found-preserved g c = λ end v.
    c.loop-found.invariant end (rw c.in-Some.ensures.steps (true, c.take.new.self, rw c.of_row.ensures at c.if-not-take.ensures, v))

pub returns : goal.returns
returns g c = c.loop-found.invariant c.loop-found.sink (rw (rest_all deref_pair _ _ _ c.in-None.is c.next.ensures.steps) refl)

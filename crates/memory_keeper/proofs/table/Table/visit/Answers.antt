use Rattle.text_core.proofs.Kit.{refl, true, false, deref_pair, rest_all}
use Rattle.memory_keeper.proofs.Placing.{filter-values}
use Rattle.memory_keeper.proofs.table.Table.visit.Goals as goal

pub loop-row-init : goal.loop-row-init
loop-row-init g c = λ end v.
    let between = c.range-row-items.ensures.between c.new.ensures.exhausted in
    let visited = rw (c.into_iter-row-iterator.ensures.into_iter_gives, between, c.new.ensures.start, c.new.ensures.end) at v in
    rw (
      ← c.self.view_is,
      ← (filter-values g.R.Key.Ord.cmp g.met.R.Key.Ord.total g.R.Row.key_of c.args.first c.args.last c.self.inside.rows.entries
          c.self.invariant),
    ) visited

pub returns-then-not-take : goal.returns-then-not-take
returns-then-not-take g c = c.loop-row.invariant c.take.new.self (rw c.in-Some.ensures.steps (false, c.take.new.self, c.if-not-take.ensures, refl))

pub loop-row-preserved : goal.loop-row-preserved
loop-row-preserved g c = λ end v. c.loop-row.invariant end (rw c.in-Some.ensures.steps (true, c.take.new.self, c.if-not-take.ensures, v))

pub returns : goal.returns
returns g c = c.loop-row.invariant c.loop-row.sink (rw (rest_all deref_pair _ _ _ c.in-None.is c.next.ensures.steps) refl)

use Rattle.std.proofs.Common.{◌≡◌, ◌∙◌, false, get_or, refl, sym, All, is_lt}
use Rattle.memory_keeper.proofs.Placing.{filter-values, last-values, greatest-between}
use Rattle.memory_keeper.proofs.table.Table.last_between.Goals as goal

pub returns-in_err-row-clause-last : goal.returns-in_err-row-clause-last
returns-in_err-row-clause-last g c =
    let between = rw (c.new.ensures.start, c.new.ensures.end) at (c.range.ensures.between c.new.ensures.exhausted) in
    rw (
      c.from_residual.ensures,
      ← c.self.view_is,
      ← (filter-values g.R.Key.Ord.cmp g.met.R.Key.Ord.total g.R.Row.key_of c.args.first c.args.last
          c.self.inside.rows.entries c.self.invariant),
      sym between ∙ c.in_err-row.ensures.steps.0,
    ) refl

pub returns-clause-last : goal.returns-clause-last
returns-clause-last g c =
    let between = rw (c.new.ensures.start, c.new.ensures.end) at (c.range.ensures.between c.new.ensures.exhausted) in
    rw (← c.self.view_is) (last-values g.R.Key.Ord.cmp g.met.R.Key.Ord.total g.R.Row.key_of c.args.first c.args.last c.self.inside.rows.entries _ _
    c.self.invariant (sym between ∙ c.in_ok-row.ensures.steps))

pub returns-clause-greatest : goal.returns-clause-greatest
returns-clause-greatest g c =
    let between = rw (c.new.ensures.start, c.new.ensures.end) at (c.range.ensures.between c.new.ensures.exhausted) in
    let in_range = c.range.ensures.in_range c.new.ensures.exhausted in
    let all : All (λ other. is_lt (g.R.Key.Ord.cmp c.in_ok-row.field-0-0.now other.0) ≡ false) c.range.result =
    λ i d low. let there = in_range.0 i d low in in_range.4 _ _ c.in_ok-row.ensures.steps (get_or c.range.result i d).0 there.0 (rw there.1 refl) in
    rw (← c.self.view_is) (greatest-between g.R.Key.Ord.cmp g.met.R.Key.Ord.total g.R.Row.key_of c.args.first c.args.last c.self.inside.rows.entries _ _
    c.self.invariant (sym between ∙ c.in_ok-row.ensures.steps) (rw between at all))

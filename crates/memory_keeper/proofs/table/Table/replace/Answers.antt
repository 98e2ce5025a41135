use Rattle.std.proofs.Common.{◌≡◌}
use Rattle.text_core.proofs.Kit.{◌∙◌, None, Some, sym, lookup, is_at}
use Rattle.memory_keeper.proofs.Placing.{find-values, with_other-values, with_other-free, placed-values, set_value-placed, unplaced-insert, AreKeyed-set_value}
use Rattle.memory_keeper.proofs.table.Table.replace.Goals as goal

pub returns-in_err-stored-clause-replaced : goal.returns-in_err-stored-clause-replaced
returns-in_err-stored-clause-replaced g c =
    let free : None ≡ lookup (is_at (g.R.Key.Ord.cmp (g.R.Row.key_of c.args.row))) c.self.inside.rows.entries =
    rw (← c.key.ensures) c.in_err-stored.ensures.value in
    rw (c.from_residual.ensures, ← c.self.view_is) (free ∙ find-values g.R.Key.Ord.cmp g.met.R.Key.Ord.total g.R.Row.key_of
    (g.R.Row.key_of c.args.row) c.self.inside.rows.entries c.self.invariant)

pub returns-in_err-stored-clause-other_rows : goal.returns-in_err-stored-clause-other_rows
returns-in_err-stored-clause-other_rows g c =
    let free : lookup (is_at (g.R.Key.Ord.cmp (g.R.Row.key_of c.args.row))) c.self.inside.rows.entries ≡ None =
    rw (← c.key.ensures) (sym c.in_err-stored.ensures.value) in
    rw (c.get_mut.follows.holds-at-none, ← c.self.view_is) (sym
    (with_other-free g.R.Key.Ord.cmp g.met.R.Key.Ord.total g.R.Row.key_of _ c.args.row c.self.inside.rows.entries c.self.invariant free))

pub invariant_of-self-2 : goal.invariant_of-self-2
invariant_of-self-2 g c =
    rw ((c.get_mut.follows.holds c.replace.new.dest).0, c.replace.ensures.after, c.key.ensures)
    (AreKeyed-set_value g.R.Key.Ord.cmp g.met.R.Key.Ord.total g.R.Row.key_of c.args.row c.self.inside.rows.entries c.self.invariant)

pub returns-clause-replaced : goal.returns-clause-replaced
returns-clause-replaced g c =
    let had : Some c.in_ok-stored.stored.now ≡ lookup (is_at (g.R.Key.Ord.cmp (g.R.Row.key_of c.args.row))) c.self.inside.rows.entries =
    rw (← c.key.ensures) c.in_ok-stored.ensures.value in
    rw (c.replace.ensures.value, ← c.self.view_is) (had ∙ find-values g.R.Key.Ord.cmp g.met.R.Key.Ord.total g.R.Row.key_of
    (g.R.Row.key_of c.args.row) c.self.inside.rows.entries c.self.invariant)

pub returns-clause-placed : goal.returns-clause-placed
returns-clause-placed g c =
    let had : lookup (is_at (g.R.Key.Ord.cmp (g.R.Row.key_of c.args.row))) c.self.inside.rows.entries ≡ Some c.in_ok-stored.stored.now =
    rw (← c.key.ensures) (sym c.in_ok-stored.ensures.value) in
    rw (
      (c.get_mut.follows.holds c.replace.new.dest).0,
      c.replace.ensures.after,
      c.key.ensures,
      ← c.self.view_is,
      set_value-placed g.R.Key.Ord.cmp g.met.R.Key.Ord.total g.R.Row.key_of
          (g.R.Row.key_of c.args.row) c.args.row c.in_ok-stored.stored.now c.self.inside.rows.entries c.get_mut.ensures.ordered had,
    )
    (placed-values g.R.Key.Ord.cmp g.met.R.Key.Ord.total g.R.Row.key_of c.args.row c.self.inside.rows.entries c.self.invariant)

pub returns-clause-other_rows : goal.returns-clause-other_rows
returns-clause-other_rows g c =
    rw ((c.get_mut.follows.holds c.replace.new.dest).0, c.replace.ensures.after, c.key.ensures, ← c.self.view_is)
    (with_other-values g.R.Key.Ord.cmp g.met.R.Key.Ord.total g.R.Row.key_of _ c.args.row c.self.inside.rows.entries c.self.invariant)

pub returns-clause-undone : goal.returns-clause-undone
returns-clause-undone g c =
    let had : lookup (is_at (g.R.Key.Ord.cmp (g.R.Row.key_of c.args.row))) c.self.inside.rows.entries ≡ Some c.in_ok-stored.stored.now =
    rw (← c.key.ensures) (sym c.in_ok-stored.ensures.value) in
    rw (
      (c.get_mut.follows.holds c.replace.new.dest).0,
      c.replace.ensures.after,
      c.replace.ensures.value,
      c.key.ensures,
      ← c.self.view_is,
      set_value-placed g.R.Key.Ord.cmp g.met.R.Key.Ord.total g.R.Row.key_of
          (g.R.Row.key_of c.args.row) c.args.row c.in_ok-stored.stored.now c.self.inside.rows.entries c.get_mut.ensures.ordered had,
    )
    (unplaced-insert g.R.Key.Ord.cmp g.met.R.Key.Ord.total g.R.Row.key_of c.args.row
    (Some c.in_ok-stored.stored.now) c.self.inside.rows.entries c.self.invariant c.get_mut.ensures.ordered had)

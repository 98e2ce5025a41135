-- A query over one table.
use Rattle.std.specs.Prelude.{ℕ, Bool, List, [], ◌∷◌, filter}
use Rattle.std.specs.List.{list_all}
use Rattle.sqlite_value.specs.declared.keys.Key.{Key}
use Rattle.sqlite.specs.Collation.TheVariants.{Binary}
use Rattle.sqlite.specs.Order.{Row}
use Rattle.sqlite_sql.specs.declared.ops.CompareOp.TheVariants.{Eq, Gt}
use Rattle.sqlite_sql.specs.declared.ops.BinaryOp.TheVariants.{Compare}
use Rattle.sqlite.specs.Term.{Term, Env, col, op2, holds}
use Rattle.sqlite.specs.Query.{Query, inner, end}
use Rattle.office_sql.specs.Joins.{over}

-- the rows of a tree that pass each test, in an order
abbrev pub scan : ℕ → List Term → List Term → List (Term × Key) → Query
scan tree = over (inner tree end)

-- the column is the parameter
abbrev pub is_parameter : ℕ → ℕ → Term
is_parameter place param = op2 (Compare Eq Binary) (col 1 place) (col 0 param)

-- the column is greater than the parameter
abbrev pub is_above_parameter : ℕ → ℕ → Term
is_above_parameter place param = op2 (Compare Gt Binary) (col 1 place) (col 0 param)

-- what terms see: the parameters, and a row
abbrev pub env : Row → Row → Env
env params r = params ∷ r ∷ []

-- the row passes each test
abbrev pub passes : List Term → Row → Row → Bool
passes tests params r = list_all (holds (env params r)) tests

-- the rows that pass each test
abbrev pub passing : List Term → Row → List Row → List Row
passing tests params rows = filter (passes tests params) rows

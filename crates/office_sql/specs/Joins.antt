-- A query over a table and one beside it.
use Rattle.std.specs.Prelude.{ℕ, pos, negsuc, ◌≡◌, Bool, false, List, [], ◌∷◌, None, find, filter, unwrap_or}
use Rattle.std.specs.List.{list_all}
use Rattle.sqlite.specs.Collation.{Collation}
use Rattle.sqlite.specs.Order.{Row}
use Rattle.sqlite.specs.declared.types.Value.TheVariants.{Int}
use Rattle.sqlite_value.specs.declared.keys.Key.{Key}
use Rattle.sqlite.specs.Collation.TheVariants.{Binary}
use Rattle.sqlite_sql.specs.declared.ops.CompareOp.TheVariants.{Eq}
use Rattle.sqlite_sql.specs.declared.ops.BinaryOp.TheVariants.{Compare}
use Rattle.sqlite.specs.Term.{Term, Env, lit, col, op2, holds}
use Rattle.sqlite.specs.Query.{Query, Join}

-- the rows of a join that pass each test, in an order
abbrev pub over : Join → List Term → List Term → List (Term × Key) → Query
over from tests shown keys = record {
  from = from;
  filter = tests;
  group = None;
  project = shown;
  distinct = false;
  collations = [];
  order = keys;
  limit = lit (Int (negsuc 0));
  offset = lit (Int (pos 0));
}

-- a column of the second table is one of the first
abbrev pub is_same : ℕ → ℕ → Term
is_same there here = op2 (Compare Eq Binary) (col 2 there) (col 1 here)

-- the rows of a join that pass each test, in an order, with the collations of the columns: INSERT reads such a query
abbrev pub over_by : List Collation → Join → List Term → List Term → List (Term × Key) → Query
over_by collations from tests shown keys = record (over from tests shown keys) { collations = collations }

-- what terms see: the parameters, a row of the first table, a row of the second
abbrev pub pair : Row → Row → Row → Env
pair params r s = params ∷ r ∷ s ∷ []

-- the two rows pass each term of ON
abbrev pub passes_join : List Term → Row → Row → Row → Bool
passes_join on params r s = list_all (holds (pair params r s)) on

-- the first row that passes
abbrev pub first_that : (Row → Bool) → List Row → Row
first_that p rows = unwrap_or (find p rows) []

-- the first row beside a row, and that there is exactly one
abbrev pub beside : List Term → Row → List Row → Row → Row
beside on params side r = first_that (passes_join on params r) side

abbrev pub HasBeside : List Term → Row → List Row → Row → Type 0
HasBeside on params side r = (s : Row) × (filter (passes_join on params r) side ≡ s ∷ [])

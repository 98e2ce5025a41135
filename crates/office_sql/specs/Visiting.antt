-- What a sink has seen of a query whose rows it takes one at a time.
use Rattle.std.specs.Prelude.{◌⊎◌, ℕ, Bool, List, ◌++◌, map}
use Rattle.sqlite.specs.Order.{Row}
use Rattle.sqlite.specs.State.{State, Shown, Begins}
use Rattle.office_tables.specs.Prelude.{Visits}

-- the sink took the rows of the answer, or had enough after rows with which an answer begins
abbrev pub HasVisited : {K R : Type 0} → (K → R → Bool → K → Type 0) → (Row → R) → List ℕ → Row → State → State → K → K → Type 0
HasVisited takes reads sql params old new before after =
    (given : List Row)
    × ((Shown sql params old new given × Visits takes before (map reads given) after)
    ⊎ (Begins sql params new given × ((more : List Row) → Visits takes before (map reads (given ++ more)) after)))

-- The rowid that a connection keeps of the row that an INSERT added.
use Rattle.std.proofs.Common.{◌≡◌, ℕ, List, [], ◌∷◌, Ok}
use Rattle.office_sql.proofs.Kit.{Null, Row, Term, eval_all, State, Executes, cast_row, next_rowid}
use Rattle.office_sql.specs.Prelude.{OfficeTable, office_schema, rows_in, table_of}
use Rattle.office_sql.proofs.Inserting.{IsInsert, last_put}

-- it is the one that was next in the table
pub last_is_next : (text : List ℕ) (its : OfficeTable) (terms : List Term) (width : ℕ) → IsInsert office_schema text its terms width
    → (params columns : Row) → cast_row (table_of its) (eval_all terms (params ∷ [])) ≡ Null ∷ columns → (old new : State) (count : ℕ)
    → old.now.schema ≡ office_schema
    → Executes text params old new (Ok count) → new.last_rowid ≡ next_rowid (rows_in old.now.trees its)
last_is_next text its terms width insert params columns casts = last_put office_schema text its terms width insert params (Null ∷ columns) casts

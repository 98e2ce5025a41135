-- What an INSERT does to a database of any schema, and what a call in a transaction changes.
use Rattle.std.proofs.Common.{◌≡◌, ℕ, List, [], ◌∷◌, ◌++◌, length, drop, ◌-◌, fold, ℤ, cond, Option, slice_get, append-nil, Bool, true, false, Some}
use Rattle.std.specs.List.{AllByRecursion}
use Rattle.std.proofs.Common.{map, ◌≢◌, unwrap_or, None, Ok, Err, Result, IfOk, refl, sym, ap, subst, ◌∙◌, IsTrue, ◌/◌, MatchBool, is_lt, int_cmp}
use Rattle.office_sql.proofs.Kit.{Null, Row, Term, eval_all, Values, Insert, edit_of, numbered, Chosen, Above, Tally, Does, AtPlace, OnRows, Task}
use Rattle.office_sql.proofs.Kit.{last_id, put_all}
use Rattle.sqlite.specs.Effect.{IsSource}
use Rattle.sqlite_schema.specs.declared.command.Source.{Source}
use Rattle.office_sql.proofs.Kit.{Counts, CountsIn, Gives, Edited, Written, count_of, higher, rowids_for, sequence, Schema, Table, Trees, Database, IsDatabase}
use Rattle.office_sql.proofs.Kit.{value_rows, State, mode_of, Executes, ExecutesInside, HasCleanDisk, Survives, IsPlain, command_of, statement_of, runs_as}
use Rattle.office_sql.proofs.Kit.{one_step, cast_row, no_works, Enforced, Mode, Error, SqliteFailure, TransactionState, Held, state}
use Rattle.sqlite.specs.Listing.{understood}
use Rattle.office_sql.proofs.Names.{same_but}
use Rattle.office_sql.specs.Prelude.{OfficeTable, office_schema, rows_in, tree_of, table_of, place_of, SqlAdds, IsInside, SqlWrites, HasOffice}
use Rattle.office_sql.specs.Prelude.{HasOfficeSchema, IsOffice}
use Rattle.sqlite.specs.Store.{Ghosts}
use Rattle.office_sql.proofs.Inside.{kept}
use Rattle.office_sql.proofs.Stepping.{went, same_value}

-- what the text of an INSERT means where the database has this schema
pub record IsInsertOf (schema : Schema) (text : List ℕ) (table : OfficeTable) (source : Source) : Type 0 where
  pub is : command_of (understood schema text) ≡ Insert (place_of table) source
  pub plain : IsPlain (understood schema text)
  pub there : slice_get schema.tables (place_of table) ≡ Some (table_of table)
  pub uncounted : (table_of table).is_counted ≡ false
  pub unstamped : (table_of table).stamps.terms ≡ []

-- what the text of an INSERT of one row means where the database has this schema
pub record IsInsert (schema : Schema) (text : List ℕ) (table : OfficeTable) (terms : List Term) (width : ℕ) : Type 0 where
  pub means : IsInsertOf schema text table (Values terms width)
  pub one : (params : Row) → value_rows params width (length terms / width) terms ≡ eval_all terms (params ∷ []) ∷ []

-- a table that isn't counted counts nothing
unmoved : (task : Task) (mid next : Trees) (c : Option Row) (top : ℤ) → task.table.is_counted ≡ false → Counts task mid c top (Ok next) → next ≡ mid
unmoved task mid next c top e h = same_value (subst (λ b.
    MatchBool (cond b (is_lt (int_cmp (count_of c) top)) false)
    (CountsIn task mid c top (sequence task.schema) (Ok next)) (Gives mid (Ok next))) e h)

-- in a transaction the keys are enforced, and none may wait
abbrev pub enforced : Mode
enforced = record { keys = Enforced; in_doubt = false; may_wait = false }

abbrev pub task_on : Schema → Option ℕ → Row → Table → Task
task_on schema limit params table = record { limit = limit; keys = Enforced; schema = schema; table = table; params = params }

-- each table of a schema but one has the rows that it had
abbrev pub OthersStay : Schema → OfficeTable → Trees → Trees → Type 0
OthersStay schema changed old new = AllByRecursion (λ t. t.tree ≢ tree_of changed → new t.tree ≡ old t.tree) schema.tables

-- ---- whatever the schema

-- the row is put into the table, with the next rowid if it has none
pub record PutsRow (known : Schema) (its : OfficeTable) (row : Row) (old new : Database) : Type 0 where
  pub schema : new.schema ≡ known
  pub sound : IsDatabase new
  pub rows : rows_in new.trees its ≡ put_all (rows_in old.trees its) (numbered Chosen (rows_in old.trees its) (row ∷ []))
  pub others : OthersStay known its old.trees new.trees

module _ (known : Schema) (text : List ℕ) (its : OfficeTable) where
  abbrev table : Table
  table = table_of its

  -- the rows that are put where these are given: as the table has them, each that has no rowid with the next
  abbrev news_of_given : Trees → List Row → List Row
  news_of_given db given = numbered Chosen (rows_in db its) (map (λ r. cast_row table r) given)

  module _ (source : Source) (insert : IsInsertOf known text its source) (params : Row) where
    -- what the source gives is put into the table, and no other table of the schema changes
    pub record Puts (old new : State) : Type 0 where
      pub given : List Row
      pub from : IsSource (record { schema = known; trees = old.now.trees }) params source given
      pub schema : new.now.schema ≡ known
      pub sound : IsDatabase new.now
      pub rows : rows_in new.now.trees its ≡ put_all (rows_in old.now.trees its) (news_of_given old.now.trees given)
      pub last : new.last_rowid ≡ unwrap_or (last_id (news_of_given old.now.trees given)) old.last_rowid
      pub others : OthersStay known its old.now.trees new.now.trees

    pub puts : (old new : State) (count : ℕ) → old.now.schema ≡ known → Executes text params old new (Ok count) → Puts old new
    puts old new count has h =
        let db = old.now.trees in
        let command = Insert (place_of its) source in
        let w = runs_as text params old new known has command insert.is insert.plain count h in
        let words = statement_of text (understood known text) in
        let does = subst (λ s.
        Does old.step_limit (mode_of old) params (record old.now { schema = s }) words None command (Ok (w.tally, new.now))) has w.changed in
        let done = went (subst (λ o.
        AtPlace (λ t. OnRows (task_on known old.step_limit params t) enforced None command db) o (Ok (w.tally, new.now))) insert.there does) in
        let told = same_value (went (went done.2).2).2 in
        let now = ap (λ (p : Tally × Database). p.1) told in
        let given = went done.1 in
        let from : IsSource (record { schema = known; trees = db }) params source given.0 =
        subst (λ ps. IsSource (record { schema = known; trees = db }) ps source given.0)
        (ap (λ ts. params ++ eval_all ts (drop (length params - length table.stamps.formats) params ∷ [])) insert.unstamped ∙ append-nil params) given.1 in
        let counter = went given.2 in
        let written = went counter.2 in
        let counted = went written.2 in
        let wrote = same_value counted.2 in
        let top = count_of counter.0 in
        let stays = unmoved (task_on known old.step_limit params table) written.0 counted.0 counter.0
        (fold higher top (edit_of db table [] (rowids_for table top) 0 given.0).news) insert.uncounted counted.1 in
        let trees : done.0.trees ≡ written.0 = ap (λ (it : Written). it.trees) wrote ∙ stays in
        let edit = edit_of db table [] Chosen 0 given.0 in
        let made : Edited known Enforced db edit (Ok written.0) =
        subst (λ b. Edited known Enforced db (edit_of db table [] (cond b (Above top) Chosen) 0 given.0) (Ok written.0)) insert.uncounted written.1 in
        let step = one_step known Enforced db written.0 edit (no_works known Enforced 0 (tree_of its) edit.news) made in
        record {
          given = given.0;
          from = from;
          schema = ap (λ (d : Database). d.schema) now;
          sound = w.sound;
          rows = ap (λ (d : Database). rows_in d.trees its) now ∙ ap (λ (t : Trees). rows_in t its) trees ∙ step.rows;
          last = w.last_rowid ∙ ap (λ (p : Tally × Database). unwrap_or p.0.last old.last_rowid) told
              ∙ ap (λ (it : Written). unwrap_or it.last old.last_rowid) wrote
              ∙ ap (λ b. unwrap_or (last_id (edit_of db table [] (cond b (Above top) Chosen) 0 given.0).news) old.last_rowid) insert.uncounted;
          others = subst (OthersStay known its db) (sym (ap (λ (d : Database). d.trees) now ∙ trees)) step.tables;
        }

  -- a text of one row puts the row that the table makes of the values
  module _ (terms : List Term) (width : ℕ) (insert : IsInsert known text its terms width) (params row : Row)
      (casts : cast_row table (eval_all terms (params ∷ [])) ≡ row) (old new : State) (count : ℕ) (has : old.now.schema ≡ known)
      (ran : Executes text params old new (Ok count)) where
    abbrev it : Puts (Values terms width) insert.means params old new
    it = puts (Values terms width) insert.means params old new count has ran

    one_row : map (λ r. cast_row table r) it.given ≡ row ∷ []
    one_row = ap (map (λ r. cast_row table r)) (it.from.1 ∙ insert.one params) ∙ ap (λ r. r ∷ []) casts

    pub puts_row : PutsRow known its row old.now new.now
    puts_row = record {
      schema = it.schema;
      sound = it.sound;
      rows = it.rows ∙ ap (λ l. put_all (rows_in old.now.trees its) (numbered Chosen (rows_in old.now.trees its) l)) one_row;
      others = it.others;
    }

    -- the connection keeps the rowid of the row that was put
    pub last_put : new.last_rowid ≡ unwrap_or (last_id (numbered Chosen (rows_in old.now.trees its) (row ∷ []))) old.last_rowid
    last_put = it.last ∙ ap (λ l. unwrap_or (last_id (numbered Chosen (rows_in old.now.trees its) l)) old.last_rowid) one_row

-- ---- in the office's schema

-- a row that has no rowid is one row more
pub adds : (text : List ℕ) (its : OfficeTable) (terms : List Term) (width : ℕ)
    (insert : IsInsert office_schema text its terms width) (params columns : Row)
    → cast_row (table_of its) (eval_all terms (params ∷ [])) ≡ Null ∷ columns
    → (old new : State) (count : ℕ) → old.now.schema ≡ office_schema
    → Executes text params old new (Ok count) → SqlAdds its columns old.now new.now
adds text its terms width insert params columns casts old new count has h =
    let it = puts_row office_schema text its terms width insert params (Null ∷ columns) casts old new count has h in
    record { schema = it.schema; sound = it.sound; row = it.rows; others = same_but its old.now.trees new.now.trees it.others }

-- a call in a transaction that has ended changes nothing
ended_on : {A : Type 0} (X : A → Type 0) (mode : Bool) (r : Result A Error) (e : Error) → (mode ≡ false → r ≡ Err e) → (IsTrue mode → IfOk r X) → IfOk r X
ended_on X true r e ended runs = runs refl
ended_on X false r e ended runs = subst (λ r. IfOk r X) (sym (ended refl)) tt

module _ {S : Type 0} (g : Ghosts S) (text : List ℕ) (params values : Row) (bound : params
    ≡ values) (old new : Held S) (r : Result ℕ Error) (Says : Database → Database → ℕ
    → Type 0) where
  -- a call of `execute` in a transaction changes what its text does
  pub changed : ((count : ℕ) → IsTrue (state g old).is_open
      → Executes text values (state g old) (state g new) (Ok count)
      → Says (state g old).now (state g new).now count)
      → (old.in_transaction ≡ false → (r ≡ Err (SqliteFailure TransactionState)) × (new ≡ old))
      → (HasCleanDisk (state g new) → IsTrue old.in_transaction
      → ExecutesInside 0 text params (state g old) (state g new) r)
      → Survives (state g old) (state g new) (λ _. ⊥) → SqlWrites g old new r Says
  changed answer ended runs survives = record {
    answer = λ clean. ended_on (Says (state g old).now (state g new).now) old.in_transaction r _ (λ e. (ended e).0) (λ began. said r (runs clean began));
    inside = λ clean.
        ended_on (λ _. IsInside (state g old) (state g new)) old.in_transaction r _ (λ e.
        (ended e).0) (λ began. inside r began (runs clean began));
    kept = λ clean. kept g old new text params r _ ended (runs clean);
    crash = survives;
  }
    where
      said : (r : Result ℕ Error) → ExecutesInside 0 text params (state g old) (state g new) r → IfOk r (Says (state g old).now (state g new).now)
      said (Ok count) h = answer count h.1.was_open (subst (λ p. Executes text p (state g old) (state g new) (Ok count)) bound h.0)
      said (Err e) h = tt

      inside : (r : Result ℕ Error) → IsTrue old.in_transaction
          → ExecutesInside 0 text params (state g old) (state g new) r
          → IfOk r (λ _. IsInside (state g old) (state g new))
      inside (Ok count) began h = record { was_open = h.1.was_open; is_open = h.1.is_open; committed = h.1.committed_is; began = began; goes_on = h.1.mode }
      inside (Err e) began h = tt

  -- on the office's tables
  pub changes : HasOffice (state g old)
      → ((count : ℕ) → IsTrue (state g old).is_open → IsOffice (state g old).now
      → Executes text values (state g old) (state g new) (Ok count)
      → Says (state g old).now (state g new).now count)
      → (old.in_transaction ≡ false → (r ≡ Err (SqliteFailure TransactionState)) × (new ≡ old))
      → (HasCleanDisk (state g new) → IsTrue old.in_transaction
      → ExecutesInside 0 text params (state g old) (state g new) r)
      → Survives (state g old) (state g new) (λ _. ⊥) → SqlWrites g old new r Says
  changes has answer = changed (λ count up ran. answer count up (has up) ran)

-- a call of `execute` with the text of an INSERT, where the schema is the office's, adds a row
pub inserted : {S : Type 0} (g : Ghosts S) {text : List ℕ} {table : OfficeTable}
    {terms : List Term} {width : ℕ} (insert : IsInsert office_schema text table terms width)
    (params values columns : Row) → params ≡ values → cast_row (table_of table) (eval_all terms (values ∷ [])) ≡ Null ∷ columns
    → (old new : Held S) (r : Result ℕ Error) → HasOfficeSchema (state g old)
    → (old.in_transaction ≡ false → (r ≡ Err (SqliteFailure TransactionState)) × (new ≡ old))
    → (HasCleanDisk (state g new) → IsTrue old.in_transaction
    → ExecutesInside 0 text params (state g old) (state g new) r)
    → Survives (state g old) (state g new) (λ _. ⊥) → SqlWrites g old new r (λ x y _. SqlAdds table columns x y)
inserted g {text} {table} {terms} {width} insert params values columns bound casts old new r has =
    changed g text params values bound old new r _ (λ count up ran.
    adds text table terms width insert values columns casts (state g old) (state g new) count
    (has up) ran)

-- a call of `execute` with the text of an INSERT, on the office's tables in a transaction, changes what the row that it adds means
pub inserts : {S : Type 0} (g : Ghosts S) {text : List ℕ} {table : OfficeTable}
    {terms : List Term} {width : ℕ} (insert : IsInsert office_schema text table terms width)
    (params values columns : Row) → params ≡ values → cast_row (table_of table) (eval_all terms (values ∷ [])) ≡ Null ∷ columns
    → (old new : Held S) (r : Result ℕ Error) (Says : Database → Database → ℕ → Type 0) → HasOffice (state g old)
    → ((count : ℕ) → IsTrue (state g old).is_open → IsOffice (state g old).now
    → SqlAdds table columns (state g old).now (state g new).now
    → Says (state g old).now (state g new).now count)
    → (old.in_transaction ≡ false → (r ≡ Err (SqliteFailure TransactionState)) × (new ≡ old))
    → (HasCleanDisk (state g new) → IsTrue old.in_transaction
    → ExecutesInside 0 text params (state g old) (state g new) r)
    → Survives (state g old) (state g new) (λ _. ⊥) → SqlWrites g old new r Says
inserts g {text} {table} {terms} {width} insert params values columns bound casts old new r Says has answer =
    changes g text params values bound old new r Says has (λ count up office ran.
    answer count up office
    (adds text table terms width insert values columns casts (state g old) (state g new)
    count office.schema ran))

-- an answer that is made of another's
pub done : {S A B E : Type 0} (g : Ghosts S) (old new : Held S) (a : A) (b : B) (P : Database → Database → A → Type 0) (Q : Database → Database → B → Type 0)
    → SqlWrites {E = E} g old new (Ok a) P → ((x y : Database) → P x y a → Q x y b) → SqlWrites {E = E} g old new (Ok b) Q
done g old new a b P Q it answer = record { answer = λ clean. answer _ _ (it.answer clean); inside = it.inside; kept = it.kept; crash = it.crash }

-- where a call failed, nothing is said
pub failed : {S A B E F : Type 0} (g : Ghosts S) (old new : Held S) (e : E) (f : F) (P : Database
    → Database → A → Type 0) (Q : Database → Database → B → Type 0)
    → SqlWrites g old new (Err e) P → SqlWrites g old new (Err f) Q
failed g old new e f P Q it = record { answer = λ _. tt; inside = λ _. tt; kept = it.kept; crash = it.crash }

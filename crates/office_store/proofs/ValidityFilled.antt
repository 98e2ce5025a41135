-- What the texts that fill the tables of validity rows leave, in a database of the second version.
use Rattle.std.proofs.Common.{◌≡◌, ◌∷◌}
use Rattle.text_core.proofs.Kit.{ℕ, ℤ, Bool, true, false, cond, Some, None, find, option_and_then, ap, List, [], Ok, refl, sym, subst, append-nil}
use Rattle.text_core.proofs.Kit.{AllByRecursion, is_eq, IsPermutation-trans}
use Rattle.office_sql.proofs.Kit.{Null, Int, Row, column, Term, lit, col, eval_all, Collation, Binary, Database, IsDatabase, State, Trees, Executes}
use Rattle.office_sql.proofs.Kit.{cast_row, overlay}
use Rattle.office_sql.proofs.Kit.{IsPermutation-same}
use Rattle.sqlite.specs.Listing.{understood}
use Rattle.sqlite.specs.Source.TheVariants.{Query as Selected}
use Rattle.sqlite_tied.specs.Compute.{everything}
use Rattle.office_sql.specs.Prelude.{rows_in, table_of, tree_of, not_before_in_rows, text_if, env}
use Rattle.office_sql.specs.Prelude.{order_in_row, given_in_row, HaveOneValidityRow, IsText}
use Rattle.office_sql.proofs.Filled.{news_of, numbered_made, grows, validity_made, each_made}
use Rattle.office_sql.proofs.Filling.{fills, shown_of}
use Rattle.office_sql.proofs.Inserting.{IsInsertOf}
use Rattle.office_sql.proofs.OrderTexts.{as_orders, order_tied, orders_validity}
use Rattle.office_sql.proofs.GivenTexts.{as_given, given_tied, records_validity}
use Rattle.office_sql.proofs.Stepping.{cast_null}
use Rattle.office_sql.proofs.TableOf.{TableOf, HasValidity, AreRowsAs}
use Rattle.office_store.specs.declared.steps.TheConstants.{INSERT_NULL_INTO_ORDER_START, INSERT_NULL_INTO_GIVEN_START}
use Rattle.store_inspection.specs.Prelude.{KeepsFirstBut, count_of, schema_of}
use Rattle.store_inspection.specs.declared.version.Version.TheVariants.{V2}
use Rattle.office_store.proofs.Counts.{first_but}

-- validity rows with NULL give no beginning of validity
pub silent_not_before : {A : Type 0} (is_for : A → Row → Bool) (validities : List Row) (x : A)
    → AllByRecursion (λ s. column s 3 ≡ Null) validities → not_before_in_rows is_for validities x ≡ None
silent_not_before is_for [] x silent = refl
silent_not_before is_for (s ∷ validities) x silent =
    elim (is_for x s) as (λ b.
    option_and_then (λ r. text_if (column r 3)) (cond b (Some s) (find (is_for x) validities))
    ≡ None) [ true ↦ ap text_if silent.0 | false ↦ silent_not_before is_for validities x silent.1 ]

-- the key of a row, and no beginning of validity
abbrev pub silent_columns : Row → Row
silent_columns r = column r 1 ∷ column r 2 ∷ Null ∷ []

abbrev fill_shown : List Term
fill_shown = lit Null ∷ col 1 1 ∷ col 1 2 ∷ lit Null ∷ []

abbrev plainly : List Collation
plainly = Binary ∷ Binary ∷ Binary ∷ Binary ∷ []

-- a table of the second version, of none of whose rows a beginning of validity is told
pub record LacksValidity {A : Type 0} (t : TableOf A) (v : HasValidity t) (db : Database) : Type 0 where
  pub schema : db.schema ≡ schema_of V2
  pub rows : AreRowsAs t (rows_in db.trees t.name)
  pub none : rows_in db.trees v.side ≡ []

-- each row of the table has one validity row, which tells no beginning of validity, and no other table of the second version changes
pub record GainsNone {A : Type 0} (t : TableOf A) (v : HasValidity t) (old new : Database) : Type 0 where
  pub schema : new.schema ≡ schema_of V2
  pub sound : IsDatabase new
  pub validity : HaveOneValidityRow v.is_for t.value (rows_in old.trees t.name) (rows_in new.trees v.side)
  pub silent : AllByRecursion (λ s. column s 3 ≡ Null) (rows_in new.trees v.side)
  pub others : KeepsFirstBut v.side (count_of V2) old.trees new.trees

-- what a text does that fills a table of validity rows with the rows' keys
abbrev FillsSilently : {A : Type 0} (t : TableOf A) → HasValidity t → Database → Database → Type 0
FillsSilently t v old new = LacksValidity t v old → GainsNone t v old new

abbrev pub FillsOrders : Database → Database → Type 0
FillsOrders = FillsSilently as_orders orders_validity

abbrev pub FillsGiven : Database → Database → Type 0
FillsGiven = FillsSilently as_given records_validity

filled : {A : Type 0} (t : TableOf A) (v : HasValidity t) (sql : List ℕ)
    → IsInsertOf (schema_of V2) sql v.side (Selected (shown_of t.name plainly fill_shown))
    → ((db : Trees) → overlay db [] (tree_of t.name) ≡ rows_in db t.name)
    → ((r : Row) → t.Typed r → cast_row (table_of v.side) (eval_all fill_shown (env [] r)) ≡ Null ∷ silent_columns r)
    → ((a : A) (id : ℤ) (r : Row) → t.Typed r → v.is_for a (Int id ∷ silent_columns r) ≡ is_eq (t.cmp a (t.value r)))
    → ((r : Row) → t.Typed r → IsText 1 r × IsText 2 r)
    → (old new : State) (count : ℕ) → Executes sql [] old new (Ok count) → FillsSilently t v old.now new.now
filled t v sql fill there casts tied texts old new count ran lacks =
    let rows = rows_in old.now.trees t.name in
    let it = fills (schema_of V2) sql v.side t.name plainly fill_shown fill there [] t.Typed silent_columns casts old new count
    lacks.schema lacks.none lacks.rows.typed ran in
    let news = news_of silent_columns [] it.kept in
    let grown = grows silent_columns it.kept [] tt tt in
    let made = numbered_made silent_columns [] it.kept in
    let same = IsPermutation-trans _ _ _ grown.same (IsPermutation-same _ _ (append-nil news)) in
    record {
      schema = it.schema;
      sound = it.sound;
      validity = subst (HaveOneValidityRow v.is_for t.value rows) (sym it.rows)
          (validity_made t v silent_columns tied (λ id r e. texts r e) rows it.kept news _ lacks.rows it.along made grown.rising grown.numbered same);
      silent = subst (AllByRecursion (λ s. column s 3 ≡ Null)) (sym it.rows)
          (each_made silent_columns (λ s. column s 3 ≡ Null) it.kept news _ made same (λ id r. refl));
      others = first_but 10 11 v.side old.now.trees new.now.trees it.others;
    }

pub orders_filled : (old new : State) (count : ℕ) → Executes INSERT_NULL_INTO_ORDER_START.now [] old new (Ok count) → FillsOrders old.now new.now
unfolding understood everything
orders_filled = filled as_orders orders_validity INSERT_NULL_INTO_ORDER_START.now
    (record { is = refl; plain = (refl, refl); there = refl; uncounted = refl; unstamped = refl }) (λ db. refl)
    (λ r e. rw (cast_null, e.0, e.1) refl) (λ a id r e. sym (order_tied a (order_in_row r))) (λ r e. (e.0, e.1))

pub given_filled : (old new : State) (count : ℕ) → Executes INSERT_NULL_INTO_GIVEN_START.now [] old new (Ok count) → FillsGiven old.now new.now
unfolding understood everything
given_filled = filled as_given records_validity INSERT_NULL_INTO_GIVEN_START.now
    (record { is = refl; plain = (refl, refl); there = refl; uncounted = refl; unstamped = refl }) (λ db. refl)
    (λ r e. rw (cast_null, e.0, e.1) refl) (λ a id r e. sym (given_tied a (given_in_row r))) (λ r e. (e.0, e.1))

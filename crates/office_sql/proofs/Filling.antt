-- What an INSERT of what a query over one table shows does to an empty table, in a database of any schema.
use Rattle.std.proofs.Common.{◌≡◌, ℕ, List, [], ◌∷◌, map, Ok, ap, ap₂, subst, ◌∙◌, IsPermutation}
use Rattle.std.specs.List.{AllByRecursion}
use Rattle.std.proofs.lemmas.List.Concat.{flat_map_single}
use Rattle.office_sql.proofs.Kit.{Null, Collation, Row, Term, eval_all, inner, end, overlay, Program, numbered, Chosen, Schema, Trees, Database, IsDatabase}
use Rattle.office_sql.proofs.Kit.{State, Executes, cast_row, put_all, all-permutation}
use Rattle.sqlite.specs.Source.TheVariants.{Query as Selected}
use Rattle.sqlite_keyed.proofs.ListLemmas.{map-map}
use Rattle.sqlite_trees.proofs.ListLemmas.{all_weaker}
use Rattle.office_sql.specs.Prelude.{OfficeTable, rows_in, tree_of, table_of, env, over_by}
use Rattle.office_sql.proofs.Filled.{news_of}
use Rattle.office_sql.proofs.Inserting.{IsInsertOf, OthersStay, puts}
use Rattle.office_sql.proofs.Kept.{map_each}
use Rattle.office_sql.proofs.Scan.{listed}

-- a query that shows these terms of each row of a table
abbrev pub shown_of : OfficeTable → List Collation → List Term → Program
shown_of from by shown = record { lets = []; body = over_by by (inner (tree_of from) end) [] shown [] }

-- the empty table has one row for each row of another, with columns that are made of it, and no other table of the schema changes
pub record Fills (known : Schema) (columns : Row → Row) (from side : OfficeTable) (old new : Database) : Type 0 where
  pub schema : new.schema ≡ known
  pub sound : IsDatabase new
  pub kept : List Row
  pub along : IsPermutation (rows_in old.trees from) kept
  pub rows : rows_in new.trees side ≡ put_all [] (news_of columns [] kept)
  pub others : OthersStay known side old.trees new.trees

module _ (known : Schema) (text : List ℕ) (side from : OfficeTable) (by : List Collation) (shown : List Term)
    (fill : IsInsertOf known text side (Selected (shown_of from by shown)))
    (there : (db : Trees) → overlay db [] (tree_of from) ≡ rows_in db from)
    (params : Row) (Typed : Row → Type 0) (columns : Row → Row) (casts : (r : Row) → Typed r
    → cast_row (table_of side) (eval_all shown (env params r)) ≡ Null ∷ columns r) where
  pub fills : (old new : State) (count : ℕ) → old.now.schema ≡ known
      → rows_in old.now.trees side ≡ [] → AllByRecursion Typed (rows_in old.now.trees from)
      → Executes text params old new (Ok count) → Fills known columns from side old.now new.now
  fills old new count has empty typed ran =
      let db = old.now.trees in
      let it = puts known text side (Selected (shown_of from by shown)) fill params old new count has ran in
      let s = listed by (inner (tree_of from) end) [] shown [] (overlay db []) params (env params)
      (overlay db [] (tree_of from)) it.given (flat_map_single (env params) (overlay db [] (tree_of from)))
      (it.from.answer Null) in
      let along : IsPermutation (rows_in db from) s.kept = subst (λ l. IsPermutation l s.kept) (there db) s.same in
      let sources : map (λ r. cast_row (table_of side) r) it.given ≡ map (λ r. Null ∷ columns r) s.kept =
      ap (map (λ r. cast_row (table_of side) r)) s.shows ∙ map-map (λ r. cast_row (table_of side) r) (λ r. eval_all shown (env params r)) s.kept
      ∙ map_each (λ r. cast_row (table_of side) (eval_all shown (env params r))) (λ r. Null ∷ columns r)
      s.kept (all_weaker Typed _ casts s.kept (all-permutation Typed (rows_in db from) s.kept along typed)) in
      record {
        schema = it.schema;
        sound = it.sound;
        kept = s.kept;
        along = along;
        rows = it.rows ∙ ap₂ (λ l all. put_all l (numbered Chosen l all)) empty sources;
        others = it.others;
      }

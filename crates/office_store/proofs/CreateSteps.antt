-- What follows from a CREATE TABLE.
use Rattle.std.proofs.Common.{◌≡◌, ℕ, List, [], ◌∷◌, ◌++◌, false, Ok, subst, ◌∙◌}
use Rattle.std.specs.List.{AllByRecursion}
use Rattle.office_sql.proofs.Kit.{Table, Schema, CreateTable, created, lacks_sequence, Database, IsDatabase, IsPlain, command_of, statement_of, all-append}
use Rattle.office_sql.proofs.Kit.{all_both}
use Rattle.sqlite.specs.Compile.{table_defined_by}
use Rattle.sqlite.specs.Listing.{understood}
use Rattle.sqlite.specs.Store.{Ghosts}
use Rattle.office_sql.specs.Prelude.{Makes}
use Rattle.office_store.specs.Prelude.{HasRun, plain_text}
use Rattle.office_store.proofs.Creates.{makes, makes_sound}
use Rattle.office_store.proofs.Running.{run_says}

-- what is so of each of two lists is so of each of them
pub all_split : {A : Type 0} (P : A → Type 0) (xs ys : List A) → AllByRecursion P (xs ++ ys) → AllByRecursion P xs × AllByRecursion P ys
all_split P [] ys all = (tt, all)
all_split P (x ∷ xs) ys all = let more = all_split P xs ys all.1 in ((all.0, more.0), more.1)

-- a database with these tables, and no row
pub record HasEmptyTables (schema : Schema) (db : Database) : Type 0 where
  pub is : db.schema ≡ schema
  pub empty : AllByRecursion (λ t. db.trees t.tree ≡ []) schema.tables

-- what the text of a CREATE TABLE means, and the schema after it
pub record IsCreate (text : List ℕ) (schema : Schema) (table : Table) (next : Schema) : Type 0 where
  pub command : command_of (understood schema text) ≡ CreateTable
  pub statement : statement_of text (understood schema text) ≡ text
  pub plain : IsPlain (understood schema text)
  pub defined : table_defined_by text ≡ Ok (record table { tree = 0 })
  pub uncounted : lacks_sequence (created schema (record table { tree = 0 })) ≡ false
  pub is : created schema (record table { tree = 0 }) ≡ next

-- a table more, with no row
grown : (schema next : Schema) (table : Table) (old new : Database) → created schema (record table { tree = 0 }) ≡ next
    → Makes schema (record table { tree = 0 }) old new → HasEmptyTables schema old → HasEmptyTables next new
grown schema next table old new is made h = record {
  is = made.is ∙ is;
  empty = subst (λ s. AllByRecursion (λ t. new.trees t.tree ≡ []) s.tables) is
      (all-append (λ t. new.trees t.tree ≡ []) schema.tables _ (all_both (λ t. new.trees t.tree ≡ old.trees t.tree) (λ t. old.trees t.tree ≡ [])
      (λ t. new.trees t.tree ≡ []) (λ t e f. e ∙ f) schema.tables made.others h.empty) (made.empty, tt));
}

-- it makes the table, and leaves a database
abbrev pub MakesIn : Schema → Table → Database → Database → Type 0
MakesIn schema table x y = x.schema ≡ schema → IsDatabase y × Makes schema (record table { tree = 0 }) x y

module _ {S : Type 0} (g : Ghosts S) {sql : List ℕ} {schema next : Schema} {table : Table} (it : IsCreate sql schema table next) (site : List ℕ)
    (x y : Database) (ran : HasRun g (plain_text sql) site x y) where
  pub makes_table : MakesIn schema table x y
  makes_table = run_says g (plain_text sql) site x y (MakesIn schema table) (λ old new count h was. (
    makes_sound sql old new schema count was it.command it.plain h,
    makes sql old new schema table count was it.command it.statement it.plain it.defined it.uncounted h,
  )) ran

  -- a database with no row gains a table with no row
  pub creates : HasEmptyTables schema x → HasEmptyTables next y × IsDatabase y
  creates was = let made = makes_table was.is in (grown schema next table x y it.is made.1 was, made.0)

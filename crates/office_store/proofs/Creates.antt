-- What CREATE TABLE does.
use Rattle.std.proofs.Common.{◌≡◌, ℕ, List, [], false, None, Ok, sym, ap, subst, ◌∙◌}
use Rattle.office_sql.proofs.Kit.{Table, Schema, CreateTable, created, next_tree, KeepsRows, Tally, lacks_sequence, Database, IsDatabase, State, Writes}
use Rattle.office_sql.proofs.Kit.{Executes, IsPlain, command_of, statement_of, runs_as}
use Rattle.sqlite.specs.Compile.{table_defined_by}
use Rattle.sqlite.specs.Listing.{understood}
use Rattle.office_sql.specs.Prelude.{Makes}
use Rattle.office_sql.proofs.Stepping.{went, same_value}

pub makes : (sql : List ℕ) (old new : State) (schema : Schema) (table : Table) (count : ℕ) → old.now.schema ≡ schema
    → command_of (understood schema sql) ≡ CreateTable
    → statement_of sql (understood schema sql) ≡ sql → IsPlain (understood schema sql)
    → table_defined_by sql ≡ Ok (record table { tree = 0 })
    → lacks_sequence (created schema (record table { tree = 0 })) ≡ false
    → Executes sql [] old new (Ok count)
    → Makes schema (record table { tree = 0 }) old.now new.now
makes sql old new schema table count has command statement plain defined uncounted h =
    let bare : Table = record table { tree = 0 } in
    let w = subst (λ t. Writes old new None CreateTable t [] count) statement (runs_as sql [] old new schema has CreateTable command plain count h) in
    let all = went w.changed in
    let first = went all.1 in
    let made = first.1 in
    let both : Ok made.table ≡ Ok bare = sym made.defined ∙ defined in
    let same : made.table ≡ bare = cc in
    let is : first.0.schema ≡ created schema bare = made.is ∙ ap (λ s. created s made.table) has ∙ ap (created schema) same in
    let lacks : lacks_sequence first.0.schema ≡ false = ap lacks_sequence is ∙ uncounted in
    let now : new.now ≡ first.0 = ap (λ (p : Tally × Database). p.1) (same_value all.2) ∙ same_value (rw lacks at first.2) in
    record {
      is = ap (λ (d : Database). d.schema) now ∙ is;
      empty = ap (λ (d : Database). d.trees (next_tree schema)) now ∙ subst (λ s. first.0.trees (next_tree s) ≡ []) has made.empty;
      others = subst (λ (d : Database).
          KeepsRows schema.tables old.now.trees d.trees) (sym now) (subst (λ s.
          KeepsRows s.tables old.now.trees first.0.trees) has made.others);
    }

-- CREATE TABLE leaves a database
pub makes_sound : (sql : List ℕ) (old new : State) (schema : Schema) (count : ℕ) → old.now.schema ≡ schema
    → command_of (understood schema sql) ≡ CreateTable → IsPlain (understood schema sql)
    → Executes sql [] old new (Ok count) → IsDatabase new.now
makes_sound sql old new schema count has command plain h = (runs_as sql [] old new schema has CreateTable command plain count h).sound

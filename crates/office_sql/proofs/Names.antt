-- Each table of the schema has a name, and a tree of its own.
use Rattle.std.proofs.Common.{◌≡◌, ◌≢◌, ◌<◌, ℕ, zero, suc, List, [], ◌∷◌, ◌==◌, Some, find, slice_get, take, arith, refl, sym, ap, subst, ◌∙◌, unwrap_or}
use Rattle.std.specs.List.{AllByRecursion}
use Rattle.office_sql.proofs.Kit.{Table, Trees}
use Rattle.office_sql.specs.Prelude.{SameBut, OfficeTable, meta, seats, maps, links, orders, devices, given, ledger, order_starts, given_starts, site_texts}
use Rattle.office_sql.specs.Prelude.{office_schema, place_of, table_of, tree_of}

listed : (table : OfficeTable) → slice_get office_schema.tables (place_of table) ≡ Some (table_of table)
listed meta = refl
listed _ = refl

first_at : {A : Type 0} (P : A → Type 0) (xs : List A) (i count : ℕ) (x : A) → AllByRecursion P (take count xs) → slice_get xs i ≡ Some x → i < count → P x
first_at P [] i count x all e low = absurd (let none = e in cc)
first_at P (y ∷ xs) i zero x all e low = absurd (omega (arith, low))
first_at P (y ∷ xs) zero (suc count) x all e low =
    let same : y ≡ x = cc in
    subst P same all.0
first_at P (y ∷ xs) (suc i) (suc count) x all e low = first_at P xs i count x all.1 e (omega (arith, low))

-- what is so of each of the schema's first tables is so by its name
pub first_by_name : (P : Table → Type 0) (count : ℕ) → AllByRecursion P (take count office_schema.tables)
    → (table : OfficeTable) → place_of table < count → P (table_of table)
first_by_name P count all table low = first_at P office_schema.tables (place_of table) count (table_of table) all (listed table) low

place_low : (table : OfficeTable) → place_of table < 11
place_low meta = omega arith
place_low _ = omega arith

-- what is so of each table of the schema is so by its name
pub by_name : (P : Table → Type 0) → AllByRecursion P office_schema.tables → (table : OfficeTable) → P (table_of table)
by_name P all table = first_by_name P 11 all table (place_low table)

abbrev named : ℕ → OfficeTable
named tree = unwrap_or (find (λ t. tree_of t == tree)
    (seats ∷ maps ∷ links ∷ orders ∷ devices ∷ given ∷ ledger ∷ order_starts ∷ given_starts ∷ site_texts ∷ [])) meta

is_named : (table : OfficeTable) → named (tree_of table) ≡ table
is_named meta = refl
is_named _ = refl

-- no tree is that of two tables
pub same_table : (a b : OfficeTable) → tree_of a ≡ tree_of b → a ≡ b
same_table a b same = sym (is_named a) ∙ ap named same ∙ is_named b

-- where each table of the schema but one has the rows that it had
pub same_but : (changed : OfficeTable) (old new : Trees) → AllByRecursion (λ t. t.tree ≢ tree_of changed → new t.tree ≡ old t.tree) office_schema.tables
    → SameBut changed old new
same_but changed old new others table other =
    by_name (λ t. t.tree ≢ tree_of changed → new t.tree ≡ old t.tree) others table (λ same. other (same_table table changed same))

-- each table's tree is one that a file can have
pub tree_low : (table : OfficeTable) → tree_of table < 22
tree_low meta = omega arith
tree_low _ = omega arith

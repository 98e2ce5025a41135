-- What an open of files finds can be settled: its trees are in the order that their list gives, or there are none.
use Rattle.std.proofs.Common.{[], ◌≡◌, ℕ, List, true, false, refl, inl, inr, sym, ap, subst, arith}
use Rattle.std.proofs.Math.Logic.{∥∥₁_elim}
use Rattle.office_sql.proofs.Kit.{Image, Trees, Database, IsOrdered, AreFoundIn, IsEmpty, FindsIn, State, HasCleanDisk, IsLive, Opens, Shape, catalog_tree}
use Rattle.office_sql.proofs.Kit.{IsListed, IsOrdered-prop, IsSound}
use Rattle.sqlite_pages.specs.PageMap.{PageMap}
use Rattle.sqlite_pool.specs.File.{version_in as pages_in, in_use}
use Rattle.sqlite_store.specs.declared.catalog.Wanted.{Wanted}
use Rattle.sqlite_store.specs.Listing.{all_shapes, all_reals, file_trees, IsOurs}
use Rattle.sqlite_store.specs.Listed.{catalog_rows, is_listed}
use Rattle.sqlite_store.proofs.ListingLemmas.{all_ordered}
use Rattle.office_sql.proofs.Names.{tree_low}
use Rattle.office_sql.specs.Prelude.{OfficeTable, no_schema, rows_in, tree_of}
use Rattle.office_store.proofs.Types.{Version}
use Rattle.office_store.specs.Prelude.{CanPrepareTables, HasNothing, IsNoStore}
use Rattle.store_inspection.specs.Prelude.{schema_of, HasWhole, IsFound}
use Rattle.office_store.proofs.FoundNothing.{no_office_rows, none_found, nothing_found, has_nothing}
use Rattle.office_store.proofs.FoundVersion.{over, version_found}

-- the trees have the shapes that their list gives
abbrev AreAscending : Trees → Type 0
AreAscending db = (shapes : ℕ → Shape) × (reals : ℕ → ℕ) × IsListed (db catalog_tree) shapes reals × IsOrdered shapes db

file_ordered : (size : ℕ) (wanted : List Wanted) (pages : PageMap) → ∥ IsOurs size true wanted pages ∥₁ → AreAscending (file_trees size wanted pages)
file_ordered size wanted pages ours = (
  all_shapes wanted,
  all_reals wanted,
  subst (λ rows. IsListed rows (all_shapes wanted) (all_reals wanted)) (sym (catalog_rows size wanted (in_use size pages))) (is_listed wanted),
  ∥∥₁_elim ours (IsOrdered-prop (all_shapes wanted) (file_trees size wanted pages)) (λ it. all_ordered it.file.db (pages_in pages)),
)

-- ---- an empty database
no_row_in : (db : Trees) → IsEmpty db → (table : OfficeTable) → rows_in db table ≡ []
no_row_in db none table = none.0 (tree_of table) (omega (arith, tree_low table))

empty_found : (version : Version) (db : Trees) → IsSound (schema_of version) db → IsEmpty db → IsFound version (over version db)
empty_found version db sound none = record {
  schema = refl;
  sound = sound;
  rows = no_office_rows db (λ table _ _. no_row_in db none table);
  validity = none_found version (over version db) (no_row_in db none);
}

empty_nothing : (db : Trees) → IsEmpty db → HasNothing db
empty_nothing db none = has_nothing db (no_row_in db none)

-- ---- what the files held
version_in : (image : Image) (version : Version) (db : Trees) → AreFoundIn image db
    → IsSound (schema_of version) db → HasWhole db → IsFound version (over version db)
version_in image version db (inl h) sound whole = let it = subst AreAscending (sym h.5)
    (file_ordered h.0 h.2 h.1 h.4) in version_found version it.0 it.1 db sound it.2 it.3 whole
version_in image version db (inr h) sound whole = empty_found version db sound h.1

nothing_in : (image : Image) (db : Trees) → AreFoundIn image db → IsSound no_schema db → IsNoStore db
nothing_in image db (inl h) sound =
    let it = subst AreAscending (sym h.5) (file_ordered h.0 h.2 h.1 h.4) in
    record { schema = sound; nothing = nothing_found it.0 it.1 db it.2 it.3 sound }
nothing_in image db (inr h) sound = record { schema = sound; nothing = empty_nothing db h.1 }

-- the tables of a store in files that was opened can be prepared
pub can_prepare : (image : Image) (s : State) → s.in_transaction ≡ false
    → (HasCleanDisk s → Opens s × IsLive s) → (HasCleanDisk s → FindsIn image s)
    → CanPrepareTables s
can_prepare image s mode opened finds =
    let same = λ (clean : HasCleanDisk s). (opened clean).0.clean in
    let found = λ (clean : HasCleanDisk s). subst (AreFoundIn image) (sym (ap (λ (d : Database). d.trees) (same clean))) (finds clean).reads in
    let sound = λ (clean : HasCleanDisk s). ((opened clean).1 (opened clean).0.is_open).0 in
    record {
      mode = mode;
      shows_committed = same;
      found = λ clean version has whole.
          let same : over version s.now.trees ≡ s.now = λ i. record { schema = sym has i; trees = s.now.trees } in
          subst (IsFound version) same (version_in image version s.now.trees (found clean) (subst (λ x. IsSound x s.now.trees) has (sound clean)) whole);
      bare = λ clean has. nothing_in image s.now.trees (found clean) (subst (λ x. IsSound x s.now.trees) has (sound clean));
    }

-- A sound database whose trees are in order is found to be of the version that its schema is, if no number of a map or of an entry is below zero.
use Rattle.std.proofs.Common.{ℕ, [], ◌∷◌, drop, refl}
use Rattle.office_sql.proofs.Kit.{Database, Trees, IsOrdered, Shape, catalog_tree, IsListed, IsSound}
use Rattle.office_sql.specs.Prelude.{AreOfficeRows}
use Rattle.office_store.proofs.Types.{Version, V1a, V1b}
use Rattle.store_inspection.specs.Prelude.{HasWhole, IsFound, schema_of}
use Rattle.office_store.proofs.FoundOffice.{rows_of_office}
use Rattle.office_store.proofs.FoundValidity.{validity_found}

-- a database of a version
abbrev pub over : Version → Trees → Database
over version trees = record { schema = schema_of version; trees = trees }

module _ (shapes : ℕ → Shape) (reals : ℕ → ℕ) (trees : Trees) where
  -- its rows are the office's
  store_inspection : (version : Version) → IsSound (schema_of version) trees → IsListed (trees catalog_tree) shapes reals → IsOrdered shapes trees
      → HasWhole trees → AreOfficeRows trees
  store_inspection V1a sound =
      rows_of_office (1 ∷ 2 ∷ []) (1 ∷ 4 ∷ []) (6 ∷ []) (λ P first second. first) [] [] shapes reals trees sound
  store_inspection V1b sound =
      rows_of_office (6 ∷ []) (1 ∷ 2 ∷ []) (1 ∷ 4 ∷ []) (λ P first second. second) [] [] shapes reals trees sound
  store_inspection version sound =
      rows_of_office (1 ∷ 2 ∷ []) (1 ∷ 4 ∷ []) (6 ∷ 1 ∷ 2 ∷ []) (λ P first second. first)
      (drop 8 (schema_of version).tables) (drop 9 (schema_of version).indexes) shapes reals trees sound

pub version_found : (version : Version) (shapes : ℕ → Shape) (reals : ℕ → ℕ) (trees : Trees) → IsSound (schema_of version) trees
    → IsListed (trees catalog_tree) shapes reals → IsOrdered shapes trees → HasWhole trees
    → IsFound version (over version trees)
version_found version shapes reals trees sound listed ordered whole =
    let rows = store_inspection shapes reals trees version sound listed ordered whole in
    record { schema = refl; sound = sound; rows = rows; validity = validity_found version shapes reals trees sound listed ordered rows }

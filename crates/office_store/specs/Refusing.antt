-- What comes back where a store in files isn't opened: why, and the files, of which is said what may be
-- left of them.
use Rattle.std.specs.Prelude.{◌≡◌, ◌≢◌, ◌⊎◌, ℕ, List, MatchOption}
use Rattle.sha2.specs.Sha256.{sha256}
use Rattle.site_core.specs.Prelude.{TextOfSite}
use Rattle.sqlite.specs.Effect.{Database}
use Rattle.sqlite.specs.Files.{HoldsDatabase, IsEmpty, IsNothing, NamesSize}
use Rattle.sqlite.specs.Recovery.{Image}
use Rattle.sqlite.specs.Schema.{Schema}
use Rattle.sqlite.specs.Tree.{Trees}
use Rattle.sqlite_disk.specs.declared.Disk.{Ghosts}
use Rattle.sqlite_disk.specs.declared.Files.{Files}
use Rattle.sqlite_pages.specs.PageMap.{PageMap}
use Rattle.sqlite_pool.specs.Stored.{stored_size, Adopts, StandsAs}
use Rattle.sqlite_store.specs.Db.{IsFile}
use Rattle.sqlite_store.specs.Listing.{file_trees}
use Rattle.sqlite_store.specs.declared.catalog.Wanted.{Wanted}
use Rattle.sqlite.specs.WalFiles.{outcomes}
use Rattle.sqlite.specs.WalReads.{AreClean}
use Rattle.office_tables.specs.Prelude.{Tables}
use Rattle.office_store.specs.declared.fault.OpenFault.{OpenFault}
use Rattle.office_store.specs.declared.fault.OpenFault.TheVariants.{OtherSite, OtherTables, Failed}
use Rattle.office_store.specs.declared.opening.Absent.{Absent}
use Rattle.office_store.specs.declared.opening.Refused.{Refused}
use Rattle.office_store.specs.Adopting.{HasOtherTables, IsOfOtherSite, IsOtherSchema, IsPreparedFrom}
use Rattle.office_store.specs.Opening.{FilesHeld, HasTablesOf, IsFoundAndTurnedAway, IsUnopened}
use Rattle.office_store.specs.Stores.{HasSchema, LacksStore}

-- the files stand for the pages of a sound file, which read as this database
abbrev pub ReadAs : Image → Trees → Type 0
ReadAs image db =
    (size : ℕ) × (pages : PageMap) × (wanted : List Wanted) × Adopts size image pages
    × ∥ IsFile size wanted pages ∥₁ × (db ≡ file_trees size wanted pages)

-- What may be left of files over which no connection was had. They are as they were, or stand for the
-- same pages. Or they held no database, and hold none or an empty one. Or they read as the database
-- that they held.
abbrev pub IsSpared : Image → Image → Type 0
IsSpared image left =
    (left ≡ image)
    ⊎ ((size : ℕ) × NamesSize image (stored_size size) × StandsAs size image left)
    ⊎ (IsNothing image × (IsNothing left ⊎ ∥ ((db : Trees) × HoldsDatabase left db × IsEmpty db) ∥₁))
    ⊎ ∥ FilesHeld image (ReadAs left) ∥₁

-- a database is as it was or, where the store failed, as the one transaction makes it
abbrev pub IsSameOrPrepared : TextOfSite → OpenFault → Trees → Trees → Type 0
IsSameOrPrepared site fault was now = (now ≡ was) ⊎ ((fault ≡ Failed) × IsPreparedFrom site was now)

-- What may be left of files whose connection was turned away: the database that they held or, where
-- the store failed, what the one transaction makes of it. Who opens it finds the tables that they
-- held.
pub record IsKept (image : Image) (site : TextOfSite) (fault : OpenFault) (left : Image) : Type 0 where
  pub database : FilesHeld image (λ was.
      ∥ ((now : Trees) × HoldsDatabase left now × IsSameOrPrepared site fault was now) ∥₁)
  pub tables : (tables : Tables) → HasTablesOf left tables → ∥ HasTablesOf image tables ∥₁

-- the trees list a schema, and are a database of which this is so
abbrev pub IsDatabaseThat : (Database → Type 0) → Trees → Type 0
IsDatabaseThat Says db =
    (schema : Schema) × HasSchema schema db × Says (record { schema = schema; trees = db })

-- Why a connection is turned away, by what the files held. The fault of another site comes with a store
-- of another site alone. That of other tables comes with other tables alone, or with no store where
-- none is to be made. It comes always with another schema, and always with no store then.
pub record IsToldFor (image : Image) (absent : Absent) (site : TextOfSite) (fault : OpenFault) : Type 0 where
  pub other_site : fault ≡ OtherSite → FilesHeld image (IsDatabaseThat (IsOfOtherSite site))
  pub other_tables : fault ≡ OtherTables → FilesHeld image (IsDatabaseThat (λ db.
      (¬ LacksStore absent db) → HasOtherTables (sha256 site.text) db))
  pub others : fault ≢ OtherTables → FilesHeld image (IsDatabaseThat (λ db.
      (¬ LacksStore absent db) × (¬ IsOtherSchema db.schema)))

module _ {D : Type 0} (g : Ghosts D) (image : Image) (absent : Absent) (site : TextOfSite) where
  -- files over which no connection was had, which is a failure
  pub record AreUnconnected (fault : OpenFault) (files : Files D) : Type 0 where
    pub failed : fault ≡ Failed
    pub spared : AreClean g files.log files.db → (left : Image)
        → outcomes g files.log files.db left → IsSpared image left

  -- files whose connection was turned away, for what they held
  pub record AreTurnedAway (fault : OpenFault) (files : Files D) : Type 0 where
    pub away : IsFoundAndTurnedAway g image absent site fault
    pub told : AreClean g files.log files.db → IsToldFor image absent site fault
    pub kept : AreClean g files.log files.db → (left : Image)
        → outcomes g files.log files.db left → IsKept image site fault left

  -- What comes back where a store isn't opened: no files where none was opened, or the files. Where their
  -- disks returned what was written, a crash leaves nothing of these but what they held, or what the one
  -- transaction of an opening makes of it.
  abbrev pub IsRefusal : List ℕ → Refused D → Type 0
  IsRefusal path refused =
      MatchOption refused.files (IsUnopened path absent refused.fault)
      (λ files. AreUnconnected refused.fault files ⊎ AreTurnedAway refused.fault files)

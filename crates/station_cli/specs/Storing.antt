-- A store in a file that is opened, served over and ended, and what is left of its files.
use Rattle.std.specs.Prelude.{◌≡◌, ℕ, List, Some, Result, Err}
use Rattle.sqlite.specs.Files.{over_files}
use Rattle.sqlite.specs.Recovery.{Image}
use Rattle.sqlite_disk.specs.declared.Disk.{Ghosts}
use Rattle.sqlite_store.specs.declared.store.FileStore.{FileStore}
use Rattle.site_core.specs.Prelude.{TextOfSite}
use Rattle.office_store.specs.Prelude.{is_honest_at, Kept}
use Rattle.office_store.specs.Prelude.{FilesHeld, IsLeftOf, IsOpenedFor, IsRefusal, open_fault_number}
use Rattle.office_store.specs.declared.closing.Closed.{Closed}
use Rattle.office_store.specs.declared.opening.Absent.{Absent}
use Rattle.station_cli.specs.declared.failure.Failure.{Failure}
use Rattle.station_cli.specs.declared.failure.Failure.TheVariants.{NoMemory, StoreFault}
use Rattle.station_cli.specs.declared.stored.LeftFiles.{LeftFiles}
use Rattle.station_cli.specs.declared.stored.LeftFiles.TheVariants.{Ended, Refused, Untouched}

-- a keeper as the opening of a site's store leaves it, with the limit of steps
pub record IsOpening {D : Type 0} {g : Ghosts D} (site : TextOfSite) (image : Image)
    (absent : Absent) (keep : Kept (FileStore D g)) : Type 0 where
  pub limit : keep.conn.step_limit ≡ Some 1000000000
  pub opened : IsOpenedFor over_files site absent (FilesHeld image) keep

-- a store was opened for this site over files with this image; this leads from it as it was then to it
-- as it was in the end; and these are what it left of the files
pub record IsServedOver {D : Type 0} {g : Ghosts D} (site : TextOfSite) (image : Image) (absent : Absent)
    (Leads : Kept (FileStore D g) → Kept (FileStore D g) → Type 0) (left : Closed D g) : Type 0 where
  pub opened : Kept (FileStore D g)
  pub last : Kept (FileStore D g)
  pub opens : IsOpening site image absent opened
  pub leads : Leads opened last
  pub was_honest : is_honest_at over_files last.conn → is_honest_at over_files opened.conn
  pub leaves : IsLeftOf last left

-- no opening of the store was tried: what one takes is handed back, and no code makes another of it
abbrev pub AreUntouched : {S D : Type 0} {g : Ghosts D} → LeftFiles S D g → Type 0
AreUntouched (Untouched start) = Unit {0}
AreUntouched (Refused refused) = ⊥
AreUntouched (Ended left) = ⊥

-- what a job over a store leaves of its files: as they were, where memory didn't suffice for the site; those of a store
-- that was refused, whose fault is the job's failure; or those that it served over
abbrev pub Leaves : {S D A : Type 0} {g : Ghosts D} → TextOfSite → Image → List ℕ → Absent
    → (Kept (FileStore D g) → Kept (FileStore D g) → Type 0) → Result A Failure → LeftFiles S D g → Type 0
Leaves site image path absent Leads result (Untouched start) = result ≡ Err NoMemory
Leaves {g = g} site image path absent Leads result (Refused refused) =
    (result ≡ Err (StoreFault (open_fault_number refused.fault))) × IsRefusal g image absent site path refused
Leaves site image path absent Leads result (Ended left) = IsServedOver site image absent Leads left

-- A crash of files, and what it may leave of a store in them.
use Rattle.std.specs.Prelude.{ℕ, List, IsTrue}
use Rattle.sqlite.specs.Files.{HoldsDatabase}
use Rattle.sqlite.specs.Recovery.{Image}
use Rattle.sqlite.specs.Tree.{Trees}
use Rattle.sqlite_disk.specs.declared.Disk.{Ghosts}
use Rattle.sqlite_disk.specs.declared.Files.{Files}
use Rattle.sqlite_wal.specs.Files.{outcomes}
use Rattle.sqlite_wal.specs.Reads.{AreClean}
use Rattle.office_tables.specs.Prelude.{Tables}
use Rattle.office_store.specs.Prelude.{HasTablesOf}
use Rattle.store_inspection.specs.Prelude.{IsOfSite}

-- What the kit says of a crash of a file: what a read returns after it is one of the contents that it
-- could leave, a further crash can leave no other, and the file may be used. All of it is so of a file
-- that may be used and doesn't crash too, as what was written may stay
pub record IsCrashed {D : Type 0} (g : Ghosts D) (old new : D) : Type 0 where
  pub left : g.may_leave old (g.seen new)
  pub no_more : (contents : List ℕ) → g.may_leave new contents → g.may_leave old contents
  pub usable : IsTrue (g.is_usable new)
  pub clean : IsTrue (g.is_clean new) → IsTrue (g.is_clean old)

-- a crash of the log and of the database file made the second of the first
pub record AreCrashed {D : Type 0} (crashed : D → D → Type 0) (old new : Files D) : Type 0 where
  pub log : crashed old.log new.log
  pub db : crashed old.db new.db

-- whatever a crash may leave of these files holds a store of this site, and who opens it finds tables
-- that may be left
pub record LeaveStore {D : Type 0} (g : Ghosts D) (files : Files D) (site : List ℕ)
    (may_leave : Tables → Type 0) : Type 0 where
  pub held : (image : Image) → outcomes g files.log files.db image
      → ∥ ((db : Trees) × HoldsDatabase image db × IsOfSite site db) ∥₁
  pub found : (image : Image) → outcomes g files.log files.db image
      → (tables : Tables) → HasTablesOf image tables → ∥ may_leave tables ∥₁

-- A crash made these of the files of a store that was ended. Where the disks returned what was written,
-- whatever it could leave of them holds a store of this site, with tables that may be left
pub record HaveCrashed {D : Type 0} (g : Ghosts D) (crashed : D → D → Type 0) (site : List ℕ)
    (may_leave : Tables → Type 0) (files : Files D) : Type 0 where
  pub stopped : Files D
  pub are_crashed : AreCrashed crashed stopped files
  pub leaves : AreClean g files.log files.db → LeaveStore g stopped site may_leave

-- What a keeper over files leaves of them when it ends and its log is copied into the database file.
use Rattle.std.specs.Prelude.{◌≡◌}
use Rattle.sqlite.specs.Closing.{HoldsAlone}
use Rattle.sqlite.specs.Files.{HoldsDatabase, file_state, over_files}
use Rattle.sqlite.specs.Recovery.{Image}
use Rattle.sqlite.specs.Tree.{Trees}
use Rattle.sqlite_disk.specs.declared.Disk.{Ghosts}
use Rattle.sqlite_disk.specs.declared.Files.{Files}
use Rattle.sqlite_store.specs.FileStore.{recovers, view}
use Rattle.sqlite_store.specs.declared.store.FileStore.{FileStore}
use Rattle.sqlite.specs.View.{IsClean}
use Rattle.sqlite.specs.WalFiles.{outcomes}
use Rattle.sqlite.specs.WalReads.{AreClean}
use Rattle.office_tables.specs.Prelude.{Tables}
use Rattle.office_sql.specs.Prelude.{tables_in}
use Rattle.store_inspection.specs.Prelude.{IsOfSite}
use Rattle.office_store.specs.Keeping.{is_honest_at, is_open_at}
use Rattle.office_store.specs.Kept.{Kept}
use Rattle.office_store.specs.declared.closing.Closed.{Closed}
use Rattle.office_store.specs.declared.closing.Closed.TheVariants.{Copied, Uncopied}
use Rattle.office_store.specs.Opening.{HasTablesOf}

-- a database that a crash may leave of the keeper, which is a store of its site
abbrev pub MayBeLeft : {D : Type 0} {g : Ghosts D} → Kept (FileStore D g) → Trees → Type 0
MayBeLeft keep db = (file_state keep.conn).may_leave db × IsOfSite keep.site db

-- these files hold the database that the keeper last committed, and so does the database file with
-- no log, as it reads now and after a crash: the keeper was open
pub record HoldLast {D : Type 0} {g : Ghosts D} (keep : Kept (FileStore D g)) (files : Files D) : Type 0 where
  pub was_honest : is_honest_at over_files keep.conn
  pub was_open : is_open_at over_files keep.conn
  pub last : MayBeLeft keep (file_state keep.conn).committed.trees
  pub held : (image : Image) → outcomes g files.log files.db image
      → HoldsAlone image (file_state keep.conn).committed.trees

-- whoever opens this store finds a database that a crash may leave of the keeper
pub record MayHold {D : Type 0} {g : Ghosts D} (keep : Kept (FileStore D g)) (store : FileStore D g) : Type 0 where
  pub was_honest : is_honest_at over_files keep.conn
  pub found : (db : Trees) → recovers store db → MayBeLeft keep db

-- these are what the keeper left, where the disk returned what was written
abbrev pub IsLeftOf : {D : Type 0} {g : Ghosts D} → Kept (FileStore D g) → Closed D g → Type 0
IsLeftOf {g = g} keep (Copied files) = AreClean g files.log files.db → HoldLast keep files
IsLeftOf keep (Uncopied store) = IsClean (view store) → MayHold keep store

-- whoever opens what was left, where the disk returned what was written, may find these tables
abbrev pub MayBeFound : {D : Type 0} {g : Ghosts D} → Closed D g → Tables → Type 0
MayBeFound {g = g} (Copied files) tables =
    AreClean g files.log files.db
    × ((image : Image) × outcomes g files.log files.db image × HasTablesOf image tables)
MayBeFound (Uncopied store) tables =
    IsClean (view store) × ((db : Trees) × recovers store db × (tables ≡ tables_in db))

-- this is so of the databases that whoever opens what was left may find, where the disk returned what
-- was written
abbrev pub IsFoundSo : {D : Type 0} {g : Ghosts D} → Closed D g → (Trees → Type 0) → Type 0
IsFoundSo {g = g} (Copied files) Says =
    AreClean g files.log files.db
    × ((image : Image) × outcomes g files.log files.db image × ((db : Trees) → HoldsDatabase image db → Says db))
IsFoundSo (Uncopied store) Says = IsClean (view store) × ((db : Trees) × recovers store db × Says db)

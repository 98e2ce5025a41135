-- What a store shows once it is opened, by what was there before, and why an opening is refused.
use Rattle.std.specs.Prelude.{◌≡◌, ◌≢◌, ◌⊎◌, ℕ, false, List, IsTrue, Result, Ok, Err}
use Rattle.site_core.specs.Prelude.{TextOfSite}
use Rattle.sqlite.specs.Recovery.{Image}
use Rattle.sqlite.specs.Tree.{Trees}
use Rattle.sqlite.specs.FileStore.{view}
use Rattle.sqlite.specs.Files.{HoldsDatabase, AreFoundIn, IsBlankAs, IsOpened, file_state, over_files}
use Rattle.sqlite.specs.Held.{Held, state}
use Rattle.sqlite.specs.Start.{FindsIn}
use Rattle.sqlite.specs.State.{HasCleanDisk, KeepsCommit, Survives}
use Rattle.sqlite.specs.Store.{Ghosts}
use Rattle.sqlite_disk.specs.declared.Disk as disk
use Rattle.sqlite_store.specs.declared.store.FileStore.{FileStore}
use Rattle.office_tables.specs.Prelude.{Tables}
use Rattle.office_sql.specs.Prelude.{tables_in}
use Rattle.office_store.specs.declared.fault.OpenFault.{OpenFault}
use Rattle.office_store.specs.declared.fault.OpenFault.TheVariants.{OtherTables, Failed}
use Rattle.office_store.specs.declared.opening.Absent.{Absent}
use Rattle.office_store.specs.declared.opening.Absent.TheVariants.{Refuse}
use Rattle.office_store.specs.Adopting.{IsOtherSchema, IsPreparedFor, IsRefusedFor, IsTakenFor, IsUntouched}
use Rattle.store_file.specs.Names.{NamesNoFile}
use Rattle.store_inspection.specs.Meta.{IsOurs}
use Rattle.office_store.specs.Kept.{Kept}
use Rattle.office_store.specs.Stores.{IsTaken, LacksStore}

-- these are the tables of the database that the files held, and of one that they recover to or, where they held none, of an empty one
pub record HasTablesOf (image : Image) (tables : Tables) : Type 0 where
  pub held : (db : Trees) → HoldsDatabase image db → tables ≡ tables_in db
  pub found : (db : Trees) × AreFoundIn image db × (tables ≡ tables_in db)

-- this is so of the database that the files held, and of one that they recover to or, where they
-- held none, of an empty one
pub record FilesHeld (image : Image) (Says : Trees → Type 0) : Type 0 where
  pub held : (db : Trees) → HoldsDatabase image db → Says db
  pub found : (db : Trees) × AreFoundIn image db × Says db

-- what a store shows once it is opened for a site, by the database that was there before
pub record ShowsOpening (site : TextOfSite) (absent : Absent) (before now : Trees) : Type 0 where
  pub was : IsTaken absent before
  pub same_site : IsOurs site.digest now
  pub taken : IsTakenFor site before now

-- A keeper as the opening of a site's store leaves it. A disk that returned what was written shows what
-- an opening shows, and a crash leaves nothing else. `Was` says a statement of the database that was there
-- before: of the one that a connection saw or had committed, or of the one that files held.
pub record IsOpenedFor {S : Type 0} (g : Ghosts S) (site : TextOfSite) (absent : Absent)
    (Was : (Trees → Type 0) → Type 0) (keep : Kept S) : Type 0 where
  pub of_site : keep.site ≡ site.digest
  pub is_open : HasCleanDisk (state g keep.conn) → IsTrue (state g keep.conn).is_open
  pub shows : HasCleanDisk (state g keep.conn)
      → Was (λ before. ShowsOpening site absent before (state g keep.conn).now.trees)
  pub left : HasCleanDisk (state g keep.conn) → (db : Trees)
      → (state g keep.conn).may_leave db → db ≡ (state g keep.conn).now.trees

-- Why a connection is handed back, and how: where it lacks a store, for other tables and as it was;
-- else for what it shows, and for other tables where its schema is another. No committed row is changed,
-- and a crash leaves what it left before, or what the one transaction makes. Nothing is touched but where
-- the store failed.
pub record IsTurnedAway {S : Type 0} (g : Ghosts S) (absent : Absent) (site : TextOfSite)
    (old left : Held S) (fault : OpenFault) : Type 0 where
  pub lacks : LacksStore absent (state g old).now → (fault ≡ OtherTables) × (left ≡ old)
  pub refused : ¬ LacksStore absent (state g old).now → IsRefusedFor site (state g left) fault
  pub other_schema : IsOtherSchema (state g old).now.schema → fault ≡ OtherTables
  pub unchanged : HasCleanDisk (state g left) → KeepsCommit (state g old) (state g left)
  pub untouched : fault ≢ Failed → IsUntouched (state g old) (state g left)
  pub crash : Survives (state g old) (state g left) (IsPreparedFor site (state g old))

-- no file is opened: that failed, or there is none of this name, or one of no bytes, where no store
-- is to be made
abbrev pub IsUnopened : List ℕ → Absent → OpenFault → Type 0
IsUnopened path absent fault =
    (fault ≡ Failed) ⊎ ((absent ≡ Refuse) × (¬ NamesNoFile path) × (fault ≡ OtherTables))

module _ {D : Type 0} {g : disk.Ghosts D} where
  -- a connection as it is found over files that held this. Where they held no database yet, the one
  -- that is made has no sums on its pages
  pub record IsFoundOver (image : Image) (conn : Held (FileStore D g)) : Type 0 where
    pub finds : HasCleanDisk (file_state conn) → FindsIn image (file_state conn)
    pub opened : HasCleanDisk (file_state conn) → IsOpened conn
    pub plain : HasCleanDisk (file_state conn) → IsBlankAs false image → (view conn.store).has_sums ≡ false

  -- a keeper of a connection that was found so: a crash leaves what it left before, or what the one
  -- transaction makes
  pub record IsTakenFrom (image : Image) (site : TextOfSite) (keep : Kept (FileStore D g)) : Type 0 where
    pub conn : Held (FileStore D g)
    pub found : IsFoundOver image conn
    pub crash : Survives (file_state conn) (file_state keep.conn) (IsPreparedFor site (file_state conn))

-- a connection that was found so was turned away
pub record IsFoundAndTurnedAway {D : Type 0} (g : disk.Ghosts D) (image : Image) (absent : Absent)
    (site : TextOfSite) (fault : OpenFault) : Type 0 where
  pub conn : Held (FileStore D g)
  pub left : Held (FileStore D g)
  pub found : IsFoundOver image conn
  pub turned_away : IsTurnedAway over_files absent site conn left fault

-- why an opening is refused
abbrev pub TellsWhy : {D : Type 0} {g : disk.Ghosts D} → Image → List ℕ → Absent → TextOfSite
    → Result (Kept (FileStore D g)) OpenFault → Type 0
TellsWhy image path absent site (Ok keep) = Unit {0}
TellsWhy {D} {g} image path absent site (Err fault) =
    IsUnopened path absent fault ⊎ IsFoundAndTurnedAway g image absent site fault

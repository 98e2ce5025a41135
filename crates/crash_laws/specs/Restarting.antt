-- A store in files that answers requests until it stops, crashes, is opened again and goes on.
use Rattle.std.specs.Prelude.{◌≡◌, ◌++◌, ℕ, List}
use Rattle.sqlite_disk.specs.declared.Disk.{Ghosts}
use Rattle.sqlite_disk.specs.declared.Files.{Files}
use Rattle.sqlite_store.specs.declared.store.FileStore.{FileStore}
use Rattle.sqlite_wal.specs.Files.{outcomes}
use Rattle.sqlite.specs.Files.{image_of, over_files}
use Rattle.sqlite.specs.Held.{state}
use Rattle.sqlite.specs.Recovery.{Image}
use Rattle.site_core.specs.Prelude.{Ownership, OwnershipGrows, ownership_of, TextOfSite}
use Rattle.office_tables.specs.Prelude.{Stands, Tables}
use Rattle.office_laws.specs.Prelude.{IsSound, Exchange, IsRun, Promises, IsLeft, StaysInDoubt, Leaves}
use Rattle.office_store.specs.Prelude.{HasTablesOf}
use Rattle.office_store.specs.Prelude.{is_open_at, may_leave_at, tables_of, Kept}
use Rattle.store_inspection.specs.Prelude.{HoldsSiteText}
use Rattle.crash_laws.specs.Crashing.{AreCrashed, LeaveStore}

-- The files held the first tables, and these exchanges led from them to those that stood as the files
-- were given back. Whatever a crash may leave of these holds a store, and who opens it finds the tables
-- that stood, or those after one step more, of a request that was answered 503 since the last one that
-- wasn't. From tables that were sound for the site, or for one that it grew from, all is promised of
-- the exchanges that is promised of a run.
pub record IsStopped {D : Type 0} (g : Ghosts D) (site : Ownership) (files : Files D)
    (xs : List Exchange) (stopped : Files D) : Type 0 where
  pub first : Tables
  pub stood : Tables
  pub held : HasTablesOf (image_of g files) first
  pub answered : IsRun xs first stood
  pub digest : List ℕ
  pub leaves : LeaveStore g stopped digest (Leaves xs stood)
  pub promises : (older : Ownership) → OwnershipGrows older site → IsSound older first → Promises site xs first stood

-- a keeper that was opened for the site of a text over files with this image: it is of that site, holds
-- the text, has the tables that the image has, and a crash leaves no others yet
pub record IsOpenedOver {D : Type 0} (g : Ghosts D) (site : TextOfSite) (image : Image)
    (keep : Kept (FileStore D g)) : Type 0 where
  pub of_site : keep.site ≡ site.digest
  pub text : HoldsSiteText site.text (state over_files keep.conn).now.trees
  pub tables : HasTablesOf image (tables_of over_files keep.conn)
  pub only : (left : Tables) → may_leave_at over_files keep.conn left → left ≡ tables_of over_files keep.conn

-- Requests were answered over the files until these stopped. A crash made others of them, whose image
-- is one of those that it could leave. A keeper was opened over these, for the site as it stands then,
-- and found the tables that stood, or those after one step more, of a request that was answered 503
-- since the last one that wasn't. What was answered after it led from these tables to the last, which
-- stand, and whatever a crash leaves now is what it may leave after these exchanges. All of it is one
-- run: from tables that were sound for the first site, or for one that it grew from, all is promised of
-- it that is promised of a run under the second.
pub record GoesOn {D : Type 0} (g : Ghosts D) (crashed : D → D → Type 0) (site grown : TextOfSite)
    (files : Files D) (before after : List Exchange) (keep : Kept (FileStore D g)) : Type 0 where
  pub stopped : Files D
  pub is_stopped : IsStopped g (ownership_of site.site) files before stopped
  pub left : Files D
  pub are_crashed : AreCrashed crashed stopped left
  pub image : outcomes g stopped.log stopped.db (image_of g left)
  pub again : Kept (FileStore D g)
  pub is_opened : IsOpenedOver g grown (image_of g left) again
  pub more : List Exchange
  pub leaves : IsLeft (StaysInDoubt before) is_stopped.stood more (tables_of over_files again.conn)
  pub last : Tables
  pub answered_after : IsRun after (tables_of over_files again.conn) last
  pub stands : Stands (is_open_at over_files) (tables_of over_files) keep.conn last
  pub leaves_after : (tables : Tables) → may_leave_at over_files keep.conn tables → Leaves after last tables
  pub promises : (older : Ownership) → OwnershipGrows older (ownership_of site.site) → IsSound older is_stopped.first
      → Promises (ownership_of grown.site) (before ++ (more ++ after)) is_stopped.first last

-- What a crash leaves of files is what the store that had them allows.
use Rattle.std.proofs.Common.{◌≡◌, List, subst}
use Rattle.sqlite_disk.specs.declared.Disk.{Ghosts}
use Rattle.sqlite_disk.specs.declared.Files.{Files}
use Rattle.sqlite_wal.specs.Files.{outcomes}
use Rattle.sqlite_wal.specs.Reads.{AreClean}
use Rattle.sqlite_trees.specs.View.{IsClean}
use Rattle.sqlite_store.specs.FileStore as store
use Rattle.sqlite_store.specs.declared.store.FileStore.{FileStore}
use Rattle.sqlite.specs.Files.{HoldsDatabase}
use Rattle.sqlite.specs.Recovery.{Image}
use Rattle.sqlite.specs.Tree.{Trees}
use Rattle.std.specs.Prelude.{ℕ}
use Rattle.sqlite_pool.proofs.StateLemmas.{may_leave_is}
use Rattle.office_tables.specs.Prelude.{Tables}
use Rattle.office_store.specs.Prelude.{HasTablesOf}
use Rattle.store_inspection.specs.Prelude.{IsOfSite}
use Rattle.office_store.proofs.ClosedFiles.{is_clean}
use Rattle.crash_laws.specs.Crashing.{LeaveStore}

-- whatever a crash leaves of the files of a store that was ended is what the store could leave
pub left_of_store : {D : Type 0} {g : Ghosts D} (it : FileStore D g) (stopped : Files D) (site : List ℕ) (may_leave : Tables → Type 0)
    → (stopped.log, stopped.db) ≡ store.files it
    → (IsClean (store.view it) → (left : Image) → (store.state it).may_leave left
    → ∥ ((db : Trees) × HoldsDatabase left db × IsOfSite site db) ∥₁)
    → (IsClean (store.view it) → (left : Image) → (store.state it).may_leave left
    → (tables : Tables) → HasTablesOf left tables → ∥ may_leave tables ∥₁)
    → AreClean g stopped.log stopped.db → LeaveStore g stopped site may_leave
left_of_store {D} {g} it stopped site may_leave same held found calm =
    let was = subst (λ p. AreClean g p.0 p.1) same calm in
    record {
      held = λ image may.
          held (is_clean it.pool was) image
          (may_leave_is it.pool image was (subst (λ p. outcomes g p.0 p.1 image) same may));
      found = λ image may.
          found (is_clean it.pool was) image
          (may_leave_is it.pool image was (subst (λ p. outcomes g p.0 p.1 image) same may));
    }

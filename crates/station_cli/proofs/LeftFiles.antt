-- What is found in the files that a keeper left is what a crash may leave of the keeper.
use Rattle.std.proofs.Common.{ℕ, List}
use Rattle.text_core.proofs.Kit.{∥∥₁_map}
use Rattle.sqlite_disk.specs.declared.Disk.{Ghosts}
use Rattle.sqlite_store.specs.declared.store.FileStore.{FileStore}
use Rattle.sqlite.specs.Files.{file_state, over_files}
use Rattle.sqlite.specs.Tree.{Trees}
use Rattle.office_tables.specs.Prelude.{Tables}
use Rattle.store_inspection.specs.Prelude.{HoldsSite}
use Rattle.office_store.specs.Prelude.{is_honest_at, Kept, may_leave_at, tells_text_at}
use Rattle.office_store.specs.Prelude.{IsFoundSo, IsLeftOf, MayBeFound}
use Rattle.office_store.specs.declared.closing.Closed.{Closed}
use Rattle.office_store.specs.declared.closing.Closed.TheVariants.{Copied, Uncopied}

module _ {D : Type 0} {g : Ghosts D} (keep : Kept (FileStore D g)) where
  pub left_honest : (closed : Closed D g) (tables : Tables) → IsLeftOf keep closed → MayBeFound closed tables
      → is_honest_at over_files keep.conn
  left_honest (Copied files) tables left found = (left found.0).was_honest
  left_honest (Uncopied store) tables left found = (left found.0).was_honest

  pub left_found : (closed : Closed D g) (tables : Tables) → IsLeftOf keep closed → MayBeFound closed tables
      → ∥ may_leave_at over_files keep.conn tables ∥₁
  left_found (Copied files) tables left found =
      let last = left found.0 in
      let held = found.1 in
      ∥∥₁_map (last.held held.0 held.1).both (λ holds.
      let r : may_leave_at over_files keep.conn tables =
      ((file_state keep.conn).committed.trees, last.last.0, held.2.held (file_state keep.conn).committed.trees holds)
      in r)
  left_found (Uncopied store) tables left found =
      let it = found.1 in ∣ (it.0, ((left found.0).found it.0 it.1).0, it.2) ∣₁

  pub left_told : (closed : Closed D g) (text : List ℕ) (Says : Trees → Type 0) → IsLeftOf keep closed
      → tells_text_at over_files keep.conn text → IsFoundSo closed Says
      → ∥ ((db : Trees) × HoldsSite text db × Says db) ∥₁
  left_told (Copied files) text Says left tells found =
      let last = left found.0 in
      let db = (file_state keep.conn).committed.trees in
      let held = found.1 in
      ∥∥₁_map (last.held held.0 held.1).both (λ holds.
      let r : (it : Trees) × HoldsSite text it × Says it = (db, tells db last.last.0, held.2 db holds)
      in r)
  left_told (Uncopied store) text Says left tells found =
      let it = found.1 in
      ∣ (it.0, tells it.0 ((left found.0).found it.0 it.1).0, it.2) ∣₁

  pub left_clean : (closed : Closed D g) (Says : Trees → Type 0) → IsLeftOf keep closed → IsFoundSo closed Says
      → is_honest_at over_files keep.conn
  left_clean (Copied files) Says left found = (left found.0).was_honest
  left_clean (Uncopied store) Says left found = (left found.0).was_honest

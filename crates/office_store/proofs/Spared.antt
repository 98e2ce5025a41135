-- What a crash may leave of files over which no connection was had.
use Rattle.std.proofs.Common.{◌≡◌, ℕ, Bool, cond, List, [], ◌∷◌, inl, inr, refl, sym, subst, subst₂}
use Rattle.std.proofs.Math.Logic.{∥∥₁_map}
use Rattle.sqlite.specs.Files.{image_of, AreFoundIn, HoldsDatabase, IsCleanLeft, IsNothing, LeavesFiles, NamesSize}
use Rattle.sqlite.specs.Closing.{files_left}
use Rattle.sqlite.specs.FileStore.{reading, recovers, schema_in, state}
use Rattle.sqlite.specs.Recovery.{Image}
use Rattle.sqlite.specs.WalFiles.{outcomes}
use Rattle.sqlite.specs.WalReads.{AreClean}
use Rattle.sqlite.specs.declared.file.Leftover.{Leftover}
use Rattle.sqlite.specs.declared.file.Leftover.TheVariants as rest
use Rattle.sqlite_disk.specs.declared.Disk.{Ghosts}
use Rattle.sqlite_disk.specs.declared.Files.{Files}
use Rattle.sqlite_disk.specs.Events.{Event, replay, settled}
use Rattle.sqlite_disk.specs.History.{MayLeave}
use Rattle.sqlite_pool.proofs.ResealLemmas.{adopts_of}
use Rattle.sqlite_pool.specs.Stored.{stored_size, StandsAs}
use Rattle.sqlite_pool.proofs.StateLemmas.{may_leave_is}
use Rattle.sqlite_store.specs.Unopened.{state_of}
use Rattle.office_store.proofs.ClosedFiles.{is_sure}
use Rattle.office_store.specs.Prelude.{FilesHeld, IsSpared, ReadAs}

-- what a crash may leave of the log or the database file of two that held this
abbrev pub MayBeLeft : Bool → List ℕ → List ℕ → Bool → List Event → List ℕ → Type 0
MayBeLeft mixes log db is_log history contents =
    let it = replay (cond is_log log db) history in MayLeave mixes it.seen it.synced it.steps contents

-- where it was settled and nothing has happened since, that is what it held
pub alone : (mixes : Bool) (log db : List ℕ) (is_log which : Bool) (history : List Event) (key : ℕ) (contents : List ℕ)
    → is_log ≡ which → history ≡ settled key ∷ [] → MayBeLeft mixes log db is_log history contents → contents ≡ cond which log db
alone mixes log db is_log which history key contents is settled_now may =
    elim (subst₂ (λ b h. MayBeLeft mixes log db b h contents) is settled_now may) [ inl same ↦ same | inr same ↦ same ]

module _ {D : Type 0} {g : Ghosts D} (first : Files D) (image : Image) (same : image_of g first ≡ image)
    (only : (left : Image) → outcomes g first.log first.db left → left ≡ image) where
  -- the files of what is left of an opening are spared, by what the kit says of it
  spared_by : (it : Leftover D g) → (IsCleanLeft it → LeavesFiles first it)
      → AreClean g (files_left it).0 (files_left it).1
      → (left : Image) → outcomes g (files_left it).0 (files_left it).1 left → IsSpared image left
  spared_by (rest.Files now) leave clean left may = inl (only left (leave clean left may))
  spared_by (rest.Unopened now) leave clean left may =
      let could = may_leave_is now.pool left clean may in
      elim (leave (is_sure now.pool clean)) [
        | inl none ↦
            let nothing = subst IsNothing same none.0 in
            elim (none.1 left could) [ inl old ↦ inl (only left old) | inr way ↦ inr (inr (inl (nothing, way))) ]
        | inr some ↦
            elim (some.4 left could).same [
              | inl old ↦ inl (only left old)
              | inr stands ↦
                  let size = (state_of now).page_size in
                  inr (inl (size, subst (λ i. NamesSize i (stored_size size)) same some.1, subst (λ i. StandsAs size i left) same stands))
            ]
      ]
  spared_by (rest.Store now) leave clean left may =
      let could = may_leave_is now.pool left clean may in
      inr (inr (inr (∥∥₁_map now.safe (λ all.
      let pages = all left could in
      let db = reading now pages.0 in
      let allowed : recovers now db = (left, pages.0, could, ∣ pages.1 ∣₁, refl) in
      let found = leave (is_sure now.pool clean) db allowed in
      let reads : ReadAs left db = (
        (state now).page_size,
        pages.0,
        schema_in now pages.0,
        adopts_of _ left pages.0 pages.1,
        ∥∥₁_map pages.2 (λ ours. ours.file),
        refl,
      ) in
      let r : FilesHeld image (ReadAs left) = record {
        held = λ was holds. subst (ReadAs left) (found.1 was (subst (λ i. HoldsDatabase i was) (sym same) holds)) reads;
        found = (db, subst (λ i. AreFoundIn i db) same found.0, reads);
      } in r))))

  -- the files that an opening gives back are spared
  pub spared : (it : Leftover D g) (files : Files D) → (files.log, files.db) ≡ files_left it → (IsCleanLeft it → LeavesFiles first it)
      → AreClean g files.log files.db → (left : Image) → outcomes g files.log files.db left → IsSpared image left
  spared it files back leave clean left may =
      spared_by it leave (subst (λ p. AreClean g p.0 p.1) back clean) left (subst (λ p. outcomes g p.0 p.1 left) back may)

-- Why a connection that was found over files is turned away, and what a crash may leave of it.
use Rattle.std.proofs.Common.{◌≡◌, ◌≢◌, ◌⊎◌, ℕ, List, Option, Some, None, inl, inr, refl, sym, ap, subst, ◌∙◌, IsTrue}
use Rattle.std.proofs.Math.Logic.{∥∥₁_map}
use Rattle.sha2.specs.Sha256.{sha256}
use Rattle.site_core.specs.Prelude.{TextOfSite}
use Rattle.sqlite_disk.specs.declared.Disk.{Ghosts}
use Rattle.sqlite_disk.specs.declared.Files.{Files}
use Rattle.sqlite_store.specs.declared.store.FileStore.{FileStore}
use Rattle.office_sql.proofs.Asked.{was_clean}
use Rattle.office_sql.proofs.Kit.{file_state, over_files, Database, HasCleanDisk, Held, HoldsDatabase, Image, State, Survives, Trees}
use Rattle.office_sql.specs.Prelude.{tables_in}
use Rattle.office_store.proofs.Types.{Absent, OpenFault, Failed, OtherSite, OtherTables}
use Rattle.office_store.specs.declared.opening.Refused.{Refused}
use Rattle.office_store.specs.Prelude.{IsFoundAndTurnedAway, IsRefusal, IsUnopened, FilesHeld, HasOtherTables, HasTablesOf}
use Rattle.office_store.specs.Prelude.{IsDatabaseThat, IsFoundOver, IsKept, IsOfOtherSite, IsOtherSchema, IsPreparedFor, IsSameOrPrepared, IsToldFor}
use Rattle.office_store.specs.Prelude.{IsTurnedAway, IsUntouched, LacksStore}
use Rattle.office_store.proofs.Opened.{held_before}

-- what is made in the one transaction says what was said
same_tables : (site : TextOfSite) (fault : OpenFault) (was now : Trees) → IsSameOrPrepared site fault was now → tables_in now ≡ tables_in was
same_tables site fault was now (inl same) = ap tables_in same
same_tables site fault was now (inr (_, inl made)) = made.1.fresh.tables ∙ sym made.0.nothing.tables
same_tables site fault was now (inr (_, inr (inl upgraded))) = upgraded.4.tables
same_tables site fault was now (inr (_, inr (inr grown))) = grown.3.tables

-- a failure alone may come behind a write
may_leave_for : (site : TextOfSite) (fault : OpenFault) (old new : State) → Survives old new (IsPreparedFor site old)
    → (fault ≢ Failed → IsUntouched old new) → HasCleanDisk new → (db : Trees) → new.may_leave db
    → ((db : Trees) → old.may_leave db → db ≡ old.committed.trees) → IsSameOrPrepared site fault old.committed.trees db
may_leave_for site Failed old new survives untouched clean db may settled =
    elim (survives.crash clean db may) [ inl was ↦ inl (settled db was) | inr made ↦ inr (refl, made) ]
may_leave_for site OtherSite old new survives untouched clean db may settled =
    elim ((untouched (λ e. cc)).crash.crash clean db may) [ inl was ↦ inl (settled db was) | inr none ↦ absurd none ]
may_leave_for site OtherTables old new survives untouched clean db may settled =
    elim ((untouched (λ e. cc)).crash.crash clean db may) [ inl was ↦ inl (settled db was) | inr none ↦ absurd none ]

module _ {D : Type 0} {g : Ghosts D} (image : Image) (absent : Absent) (site : TextOfSite) (fault : OpenFault) (conn left : Held (FileStore D g))
    (found : IsFoundOver image conn) (away : IsTurnedAway over_files absent site conn left fault) (clean : HasCleanDisk (file_state left)) where
  calm : HasCleanDisk (file_state conn)
  calm = was_clean (file_state conn) (file_state left) _ away.crash clean

  -- what is so of the database that the connection shows is so of what the files held
  held_of : (Says : Database → Type 0) → Says (file_state conn).now → FilesHeld image (IsDatabaseThat Says)
  held_of Says is =
      let opened = found.opened calm in
      held_before image conn found calm (IsDatabaseThat Says) ((file_state conn).now.schema, (opened.1 opened.0.is_open).0, is)

  -- it tells what was found
  pub told_for : IsToldFor image absent site fault
  told_for = record {
    other_site = λ told.
        let same = (away.untouched (λ failed. let e = sym told ∙ failed in cc)).same clean in
        let has : ¬ LacksStore absent (file_state conn).now = λ lacks. let e = sym told ∙ (away.lacks lacks).0 in cc in
        held_of (IsOfOtherSite site) (subst (IsOfOtherSite site) same ((away.refused has).other_site clean told));
    other_tables = λ told.
        let same = (away.untouched (λ failed. let e = sym told ∙ failed in cc)).same clean in
        held_of (λ db. (¬ LacksStore absent db) → HasOtherTables (sha256 site.text) db)
        (λ has. subst (HasOtherTables (sha256 site.text)) same ((away.refused has).other_tables clean told));
    others = λ not_tables.
        held_of (λ db. (¬ LacksStore absent db) × (¬ IsOtherSchema db.schema))
        (λ lacks. not_tables (away.lacks lacks).0, λ other. not_tables (away.other_schema other));
  }

  -- a connection that is turned away leaves what was found, or what the one transaction makes of it
  pub kept_for : ((db : Trees) → IsTrue (file_state conn).is_open → (file_state conn).may_leave db → db ≡ (file_state conn).committed.trees)
      → (rest : Image) → ∥ ((db : Trees) × (file_state left).may_leave db × HoldsDatabase rest db) ∥₁ → IsKept image site fault rest
  kept_for settled rest may =
      let opened = found.opened calm in
      let finds = found.finds calm in
      let base = (file_state conn).committed.trees in
      let kept : ∥ ((now : Trees) × HoldsDatabase rest now × IsSameOrPrepared site fault base now) ∥₁ = ∥∥₁_map may (λ it.
      let r : (now : Trees) × HoldsDatabase rest now × IsSameOrPrepared site fault base now = (
        it.0,
        it.2,
        may_leave_for site fault (file_state conn) (file_state left) away.crash away.untouched clean it.0 it.1 (λ db was. settled db opened.0.is_open was),
      ) in r) in
      record {
        database = record {
          held = λ was holds. subst (λ t. ∥ ((now : Trees) × HoldsDatabase rest now × IsSameOrPrepared site fault t now) ∥₁) (finds.holds was holds) kept;
          found = (base, finds.reads, kept);
        };
        tables = λ tables has. ∥∥₁_map kept (λ it.
            let same = has.held it.0 it.1 ∙ same_tables site fault base it.0 it.2 in
            let r : HasTablesOf image tables = record {
              held = λ db holds. same ∙ ap tables_in (finds.holds db holds);
              found = (base, finds.reads, same);
            } in r);
      }

module _ {D : Type 0} (g : Ghosts D) (image : Image) (absent : Absent) (site : TextOfSite) (path : List ℕ) where
  why : (fault : OpenFault) (files : Option (Files D)) → IsRefusal g image absent site path (record { fault = fault; files = files })
      → IsUnopened path absent fault ⊎ IsFoundAndTurnedAway g image absent site fault
  why fault None unopened = inl unopened
  why fault (Some files) (inl unconnected) = inl (inl unconnected.failed)
  why fault (Some files) (inr turned) = inr turned.away

  -- what comes back tells why, without the files too
  pub why_refused : (refused : Refused D) → IsRefusal g image absent site path refused
      → IsUnopened path absent refused.fault ⊎ IsFoundAndTurnedAway g image absent site refused.fault
  why_refused refused is = why refused.fault refused.files is

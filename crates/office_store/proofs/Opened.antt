-- What an opening shows, by what was there before, and what a crash leaves of it.
use Rattle.std.proofs.Common.{◌≡◌, sym, ap, subst, ◌∙◌, IsTrue}
use Rattle.sha2.specs.Sha256.{sha256}
use Rattle.site_core.specs.Prelude.{TextOfSite}
use Rattle.sqlite_disk.specs.declared.Disk as disk
use Rattle.sqlite_store.specs.declared.store.FileStore.{FileStore}
use Rattle.office_sql.proofs.Kit.{file_state, state, Database, HasCleanDisk, Held, Image, State, Trees}
use Rattle.office_sql.specs.Prelude.{IsOffice, IsReady, office_over}
use Rattle.store_inspection.specs.Prelude.{IsOfSite, IsOurs}
use Rattle.sqlite.specs.Store.{Ghosts}
use Rattle.office_store.proofs.Types.{Absent}
use Rattle.office_store.specs.Prelude.{FilesHeld, IsFoundOver, IsOpenedFor, IsTakenFor, Kept, ShowsOpening}

module _ (site : TextOfSite) (before : Trees) (s : State) (settled : (db : Trees) → IsTrue s.is_open → s.may_leave db → db ≡ s.committed.trees)
    (up : IsTrue s.is_open) (ready : IsReady s) (it : IsTakenFor site before s.now.trees) (named : sha256 site.text ≡ site.digest) where
  -- a connection that is ready leaves what it shows
  pub leaves_shown : (db : Trees) → s.may_leave db → db ≡ s.now.trees
  leaves_shown db may = settled db up may ∙ sym (ap (λ (d : Database). d.trees) (ready.shows_committed up))

  -- its store is of the site
  pub ours : IsOurs site.digest s.now.trees
  ours = record { text = site.text; tells = it.tells; named = named }

  pub left_of_site : (db : Trees) → s.may_leave db → IsOfSite site.digest db
  left_of_site db may =
      let office = ready.office up in
      let is = leaves_shown db may in
      let same : office_over db ≡ s.now = λ i. record { schema = sym office.schema i; trees = is i } in
      (subst IsOffice (sym same) office, subst (IsOurs site.digest) (sym is) ours)

-- a keeper is as an opening leaves it, of what is known otherwise of the database that was there before
pub opened_of : {S : Type 0} (g : Ghosts S) (site : TextOfSite) (absent : Absent) {Was Other : (Trees → Type 0) → Type 0} {keep : Kept S}
    → IsOpenedFor g site absent Was keep → (HasCleanDisk (state g keep.conn) → (Says : Trees → Type 0) → Was Says → Other Says)
    → IsOpenedFor g site absent Other keep
opened_of g site absent {keep = keep} it other = record {
  of_site = it.of_site;
  is_open = it.is_open;
  shows = λ clean. other clean (λ before. ShowsOpening site absent before (state g keep.conn).now.trees) (it.shows clean);
  left = it.left;
}

-- what is so of the database that a connection over files shows is so of what the files held
pub held_before : {D : Type 0} {g : disk.Ghosts D} (image : Image) (conn : Held (FileStore D g)) → IsFoundOver image conn → HasCleanDisk (file_state conn)
    → (Says : Trees → Type 0) → Says (file_state conn).now.trees → FilesHeld image Says
held_before image conn found clean Says is =
    let finds = found.finds clean in
    let was = subst Says (ap (λ (d : Database). d.trees) (found.opened clean).0.clean) is in
    record { held = λ db holds. subst Says (finds.holds db holds) was; found = ((file_state conn).committed.trees, finds.reads, was) }

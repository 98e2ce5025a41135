-- How a connection is settled: its tables are made, upgraded or found, or it is refused.
use Rattle.std.proofs.Common.{◌≡◌, ◌≢◌, ◌↔◌, inl, inr, ℕ, Bool, false, List, Result, Ok, Err, OnOk, IfErr, IsErrAnd, IsTrue, refl, sym, ap, subst, ◌∙◌}
use Rattle.sha2.specs.Sha256.{sha256}
use Rattle.site_core.specs.Prelude.{SiteValue, TextOfSite}
use Rattle.office_sql.proofs.Kit.{Database, Held, state, State, HasCleanDisk, IsUnchanged, KeepsCommit, Survives, Trees, survives_then, survives_weaker, Error}
use Rattle.sqlite.specs.Store.{Ghosts}
use Rattle.office_tables.specs.Prelude.{Tables}
use Rattle.office_sql.specs.Prelude.{IsUndone, no_schema, IsOffice, office_over, tables_in}
use Rattle.office_store.specs.declared.bring.Found.{Found}
use Rattle.office_store.specs.declared.bring.Found.TheVariants.{Nothing, Earlier, Today}
use Rattle.office_store.proofs.Types.{Absent, Make, Refuse, OpenFault, Failed, Version, V1, V3}
use Rattle.office_store.specs.Prelude.{AreWithoutNotBefore, Brings, CanBring, CanTake, Examines, IsApartAt, IsFoundAt, IsGrowable, IsOtherSchema, IsRefusedFor}
use Rattle.office_store.specs.Prelude.{IsPreparedFor, IsPreparedFrom, IsTakenFor, LeavesAtMost, PreparesTables, StaysWithoutNotBefore, TakesGrowth, TakesOwn}
use Rattle.office_store.specs.Prelude.{IsBrought, HasSchema, IsNoStore, IsStore, IsTaken, LacksStore, IsGrownFrom, IsUntouched}
use Rattle.store_inspection.specs.Prelude.{HasApartAddresses, IsFound, Tests, HoldsSite, HasMeta, HoldsSiteText, schema_of}
use Rattle.office_sql.proofs.Asked.{was_clean}
use Rattle.office_store.proofs.FoundValidity.{office_of, without_not_before_of}
use Rattle.office_store.proofs.Brought.{office_brought}
use Rattle.office_store.proofs.AddressKept.{apart_grown, apart_if_none, apart_upgraded}
use Rattle.office_store.proofs.Refusals.{is_err}
use Rattle.office_store.proofs.Telling.{not_silent, not_v3, site_once}
use Rattle.store_inspection.proofs.TextShows.{one_text}

-- a failure is no fault of a site or of tables, and comes with the schema that was there
failed : (site : TextOfSite) (s : State) → (IsTrue s.is_open → ¬ IsOtherSchema s.now.schema) → IsRefusedFor site s Failed
failed site s has = record {
  other_site = λ clean told. absurd (let e = told in cc);
  other_tables = λ clean told. absurd (let e = told in cc);
  other_schema = λ up other. absurd (has up other);
}

undone_keeps : (old new : State) → IsUndone old new → KeepsCommit old new
undone_keeps old new undone = record { was_open = undone.was_open; committed = undone.committed }

-- a refusal, whatever its fault
pub unprepared : {S : Type 0} (g : Ghosts S) (site : TextOfSite) (old new : Held S)
    (fault : OpenFault) → new.in_transaction ≡ false → IsRefusedFor site (state g new) fault
    → (HasCleanDisk (state g new) → KeepsCommit (state g old) (state g new))
    → (fault ≢ Failed → IsUntouched (state g old) (state g new))
    → Survives (state g old) (state g new) (IsPreparedFor site (state g old))
    → PreparesTables g site old new (Err fault)
unprepared g site old new fault mode refused unchanged untouched crash = record {
  mode = mode;
  ready = λ clean. tt;
  was = λ clean. tt;
  takes = λ clean. tt;
  refused = refused;
  unchanged = unchanged;
  untouched = untouched;
  crash = crash;
}

-- a store that tells of a text takes a growth of its site alone
takes : (site : SiteValue) (db : Trees) → CanTake site db → TakesGrowth site db
takes site db can older tells = subst (λ t. IsGrownFrom t site) (one_text can.0 older db can.1.holds tells.holds) can.2

-- a store of the third version tells no earlier one
never_earlier : (own text : List ℕ) (db : Trees) → HoldsSite text db → TakesOwn own db
never_earlier own text db tells version other earlier told = absurd (not_v3 version other (sha256 text) db earlier told tells.named)

-- a store of the third version isn't one of the first, whose tables have no beginning of validity
never_first : (text : List ℕ) (db : Trees) (t : Tables) → HoldsSite text db → StaysWithoutNotBefore db t
never_first text db t tells site told = absurd (not_v3 V1 site (sha256 text) db (λ e. cc) told tells.named)

-- a database of a version lists that version's schema
lists_schema : (version : Version) (db : Database) → IsFound version db → HasSchema (schema_of version) db.trees
lists_schema version db found = subst (λ s. HasSchema s db.trees) found.schema found.sound

-- a database of a version was a store, if it told of itself
store_of : (version : Version) (site : List ℕ) (db : Database) → IsFound version db → HasMeta version site db.trees → IsStore db.trees
store_of version site db found told = (version, record { schema = lists_schema version db found; told = (site, told) })

-- a store is taken, whether one is to be made or not
taken_store : (absent : Absent) (db : Trees) → IsStore db → IsTaken absent db
taken_store Make db store = inr store
taken_store Refuse db store = store

-- none is taken where one is to be made
taken_none : (absent : Absent) (db : Database) → db.schema ≡ no_schema → IsNoStore db.trees → ¬ LacksStore absent db → IsTaken absent db.trees
taken_none Make db bare none has = inl none
taken_none Refuse db bare none has = absurd (has (refl, bare))

-- a store of the third version is taken with the tables that it has
taken_again : (site : TextOfSite) (before now : Trees) → CanTake site.site before → HoldsSite site.text now → HasApartAddresses now
    → tables_in now ≡ tables_in before → IsTakenFor site before now
taken_again site before now take tells apart tables = record {
  tells = tells;
  grown = takes site.site before take;
  own = never_earlier site.text take.0 before take.1;
  apart = apart;
  tables = tables;
  without_not_before = never_first take.0 before (tables_in now) take.1;
}

-- what is known of a database that can be brought to a text: its schema is the office's or none, it was a store or there is none yet,
-- and what it is brought to is taken, and what the one transaction makes
record IsKnown (found : Found) (site : TextOfSite) (x : Database) : Type 0 where
  ours : ¬ IsOtherSchema x.schema
  was : (absent : Absent) → ¬ LacksStore absent x → IsTaken absent x.trees
  takes : (z : Database) → Brings found site.text x.trees z → IsTakenFor site x.trees z.trees
  leaves : (db : Trees) → Brings found site.text x.trees (office_over db) → IsPreparedFrom site x.trees db

known : (found : Found) (site : TextOfSite) (x : Database) → CanBring found site x → IsKnown found site x
known Nothing site x can = record {
  ours = λ other. other.0 can.0;
  was = λ absent has. taken_none absent x can.0 can.1 has;
  takes = λ z begun.
      let none = can.1.nothing in
      let fresh = begun.fresh in
      record {
        tells = fresh.tells;
        grown = λ older tells. absurd (not_silent V3 (sha256 older) x.trees none.silent tells.named);
        own = λ version other earlier told. absurd (not_silent version other x.trees none.silent told);
        apart = apart_if_none z.trees fresh.tables;
        tables = fresh.tables ∙ sym none.tables;
        without_not_before = λ other told. subst AreWithoutNotBefore (sym fresh.tables) (tt, tt);
      };
  leaves = λ db begun. inl (can.1, begun);
}
known (Earlier version) site x can =
    let earlier = can.0 in
    let found = can.1.0.0 in
    let told = can.1.1 in
    record {
      ours = λ other. other.1 version found.schema;
      was = λ absent has. taken_store absent x.trees (store_of version (sha256 site.text) x found told);
      takes = λ z upgrade. record {
        tells = record { holds = upgrade.holds; named = upgrade.told (sha256 site.text) told };
        grown = λ older tells. absurd (not_v3 version (sha256 site.text) (sha256 older) x.trees earlier told tells.named);
        own = λ version2 other earlier2 is. site_once version2 version other (sha256 site.text) x.trees is told;
        apart = apart_upgraded version site.text x.trees z upgrade can.1.0.1;
        tables = upgrade.tables;
        without_not_before = λ other is. subst AreWithoutNotBefore (sym upgrade.tables)
            (without_not_before_of version (sha256 site.text) x found earlier told other is);
      };
      leaves = λ db upgrade. inr (inl (version, earlier, lists_schema version x found, told, upgrade));
    }
known Today site x can =
    let found = can.0.0 in
    let take = can.1.1 in
    record {
      ours = λ other. other.1 V3 found.schema;
      was = λ absent has. taken_store absent x.trees (store_of V3 (sha256 take.0) x found take.1.named);
      takes = λ z grown. taken_again site x.trees z.trees take grown.tells (apart_grown site.text x.trees z grown can.0.1) grown.tables;
      leaves = λ db grown. inr (inr (lists_schema V3 x found, take, can.2, grown));
    }

module _ {S : Type 0} (g : Ghosts S) (site : TextOfSite) (old new : Held S) (calm : IsTrue (state g new).is_open → HasCleanDisk (state g new)) where
  module _ (found : Found) (mode : new.in_transaction ≡ false) (shows_committed : HasCleanDisk (state g old) → (state g old).now ≡ (state g old).committed)
      (can : HasCleanDisk (state g old) → CanBring found site (state g old).now)
      (survives : Survives (state g old) (state g new) (λ trees. IsTrue (state g old).is_open
      × Brings found site.text (state g old).now.trees (office_over trees))) where
    before : HasCleanDisk (state g new) → HasCleanDisk (state g old)
    before = was_clean (state g old) (state g new) _ survives

    it : HasCleanDisk (state g new) → IsKnown found site (state g old).now
    it clean = known found site (state g old).now (can (before clean))

    left : Survives (state g old) (state g new) (IsPreparedFor site (state g old))
    left = survives_weaker _ _ _ _ (λ clean db made.
        subst (λ (d : Database). IsPreparedFrom site d.trees db) (shows_committed (before clean)) ((it clean).leaves db made.1)) survives

    -- the database was brought to the text
    pub brought : (HasCleanDisk (state g new) → IsBrought found site.text (state g old) (state g new)) → PreparesTables g site old new (Ok tt)
    brought done = record {
      mode = mode;
      ready = λ clean. (
        (done clean).is_open,
        record {
          mode = mode;
          office = λ up. office_brought found site.text (state g old).now (state g new).now (done clean).brought;
          shows_committed = λ up. sym (done clean).committed;
        },
      );
      was = λ clean. (it clean).was;
      takes = λ clean. (it clean).takes (state g new).now (done clean).brought;
      refused = tt;
      unchanged = λ clean. tt;
      untouched = tt;
      crash = left;
    }

    -- it wasn't
    pub not_brought : (HasCleanDisk (state g new) → IsUndone (state g old) (state g new)) → PreparesTables g site old new (Err Failed)
    not_brought undone = unprepared g site old new Failed mode
        (failed site (state g new) (λ up other.
        let clean = calm up in
        (it clean).ours (subst IsOtherSchema (ap (λ (d : Database). d.schema) ((undone clean).now up ∙ sym (shows_committed (before clean)))) other)))
        (λ clean. undone_keeps (state g old) (state g new) (undone clean)) (λ other. absurd (other refl)) left

  module _ (found : IsFoundAt V3 (state g old)) (apart : IsApartAt (state g old)) (can : HasCleanDisk (state g old)
      → IsGrowable site.site (state g old).now) (mode : new.in_transaction ≡ false) where
    v3_store : HasCleanDisk (state g old) → IsStore (state g old).now.trees
    v3_store clean = let take = (can clean).1 in store_of V3 (sha256 take.0) (state g old).now (found.found clean) take.1.named

    -- whether the text is there was asked
    module _ (r : Result Bool Error) (tests : Tests g old new r (λ db same. IsTrue same ↔ HoldsSiteText site.text db)) where
      before_test : HasCleanDisk (state g new) → HasCleanDisk (state g old)
      before_test = was_clean (state g old) (state g new) _ tests.crash

    -- a store that has the text already is prepared as it is
    pub has_it : (answer : Bool) → IsTrue answer
        → Tests {E = Error} g old new (Ok answer) (λ db same. IsTrue same ↔ HoldsSiteText site.text db)
        → PreparesTables g site old new (Ok tt)
    has_it answer is tests =
        let before = before_test (Ok answer) tests in
        record {
          mode = mode;
          ready = λ clean.
              let same = (tests.same clean).0 in (
                same.is_open,
                record {
                  mode = mode;
                  office = λ up. subst IsOffice (sym same.now_is) (office_of (state g old).now (found.found (before clean)) (can (before clean)).0);
                  shows_committed = λ up. same.now_is ∙ found.shows_committed (before clean) ∙ sym same.committed_is;
                },
              );
          was = λ clean absent has. taken_store absent (state g old).now.trees (v3_store (before clean));
          takes = λ clean.
              let now = (state g old).now.trees in
              let take = (can (before clean)).1 in
              let tells = subst (λ t. HoldsSite t now) (one_text take.0 site.text now take.1.holds ((tests.answer clean).0 is)) take.1 in
              subst (λ (d : Database). IsTakenFor site now d.trees) (sym (tests.same clean).0.now_is)
              (taken_again site now now take tells (apart (before clean)) refl);
          refused = tt;
          unchanged = λ clean. tt;
          untouched = tt;
          crash = survives_weaker _ _ _ _ (λ clean db none. absurd none) tests.crash;
        }

    -- a store that couldn't be asked for the text is refused by a failure
    pub not_asked : (error : Error)
        → Tests {A = Bool} g old new (Err error) (λ db same. IsTrue same ↔ HoldsSiteText site.text db)
        → PreparesTables g site old new (Err Failed)
    not_asked error tests =
        let before = before_test (Err error) tests in
        unprepared g site old new Failed mode
        (failed site (state g new) (λ up other.
        let clean = calm up in
        let was = elim ((tests.rests clean).now up) as (λ _. (state g new).now ≡ (state g old).now) [
          | inl e ↦ e
          | inr e ↦ e ∙ sym (found.shows_committed (before clean))
        ] in
        other.1 V3 (ap (λ (d : Database). d.schema) was ∙ (found.found (before clean)).schema)))
        (λ clean. record { was_open = (tests.rests clean).was_open; committed = (tests.rests clean).committed })
        (λ other. absurd (other refl))
        (survives_weaker _ _ _ _ (λ clean db none. absurd none) tests.crash)

-- a store that was tested is refused by the fault of the test
pub refused : {S : Type 0} (g : Ghosts S) (site : TextOfSite) {old new : Held S} {fault : OpenFault} {Says : Database → Type 0}
    (result : Result (Unit {0}) OpenFault) → IsErrAnd result (λ told. told ≡ fault) → Examines g site old new (Err fault) Says
    → PreparesTables g site old new result
refused g site {old = old} {new = new} {fault = fault} result is test = is_err (λ r. PreparesTables g site old new r) result fault is
    (unprepared g site old new fault test.mode test.refused
    (λ clean. record { was_open = (test.rests clean).was_open; committed = (test.rests clean).committed })
    (λ other. record { same = λ clean. test.shown clean other; crash = test.crash })
    (survives_weaker _ _ _ _ (λ clean db none. absurd none) test.crash))

-- tables that are prepared after a test are prepared
pub prepared_after : {S : Type 0} (g : Ghosts S) (site : TextOfSite) {old mid new : Held S} {r : Result (Unit {0}) OpenFault} {Says : Database → Type 0}
    → Examines g site old mid (Ok tt) Says → PreparesTables g site mid new r → PreparesTables g site old new r
prepared_after {S = S} g site {old = old} {mid = mid} {new = new} {r = r} test it = record {
  mode = it.mode;
  ready = it.ready;
  was = λ clean. of_before r (λ d. (absent : Absent) → ¬ LacksStore absent d → IsTaken absent d.trees) (same clean) (it.was clean);
  takes = λ clean. of_before r (λ d. IsTakenFor site d.trees (state g new).now.trees) (same clean) (it.takes clean);
  refused = it.refused;
  unchanged = λ clean. keeps r (test.same (calm clean)) (it.unchanged clean);
  untouched = untouched_too r it.untouched;
  crash = survives_then (state g old) (state g mid) (state g new) _ _ (IsPreparedFor site (state g old)) (λ _ db none. absurd none)
      (λ clean db whole. subst (λ (d : Database). IsPreparedFor site (record (state g old) { committed = d }) db)
      (test.same (calm clean)).0.committed_is whole) test.crash it.crash;
}
  where
    calm : HasCleanDisk (state g new) → HasCleanDisk (state g mid)
    calm = was_clean (state g mid) (state g new) _ it.crash

    same : HasCleanDisk (state g new) → (state g mid).now ≡ (state g old).now
    same clean = (test.same (calm clean)).0.now_is

    of_before : (r : Result (Unit {0}) OpenFault) (Says : Database → Type 0) → (state g mid).now ≡ (state g old).now
        → OnOk r (Says (state g mid).now) → OnOk r (Says (state g old).now)
    of_before (Ok _) Says e h = subst Says e h
    of_before (Err _) Says e h = tt

    untouched_too : (r : Result (Unit {0}) OpenFault) → IfErr r (λ fault. fault ≢ Failed → IsUntouched (state g mid) (state g new))
        → IfErr r (λ fault. fault ≢ Failed → IsUntouched (state g old) (state g new))
    untouched_too (Ok _) k = tt
    untouched_too (Err _) k = λ other. record {
      same = λ clean. (k other).same clean ∙ same clean;
      crash = survives_then (state g old) (state g mid) (state g new) _ _ (λ _. ⊥) (λ _ db none. none) (λ _ db none. none) test.crash (k other).crash;
    }

    keeps : (r : Result (Unit {0}) OpenFault) → IsUnchanged (state g old) (state g mid)
        → IfErr r (λ _. KeepsCommit (state g mid) (state g new)) → IfErr r (λ _. KeepsCommit (state g old) (state g new))
    keeps (Ok _) h k = tt
    keeps (Err _) h k = record { was_open = λ up. h.0.was_open; committed = λ up. k.committed up ∙ h.0.committed_is }

-- what may be left is told of what was committed alone
prepared_for : (site : TextOfSite) (one other : State) (db : Trees)
    → one.committed.trees ≡ other.committed.trees → IsPreparedFor site one db
    → IsPreparedFor site other db
prepared_for site one other db same it = subst (λ (t : Trees). IsPreparedFor site (record one { committed = office_over t }) db) same it

-- what a crash leaves of a connection that was settled after its store was read anew
pub left_anew : {S : Type 0} (g : Ghosts S) (site : TextOfSite) (first mid new : Held S)
    → (HasCleanDisk (state g mid) → (state g mid).now ≡ (state g mid).committed)
    → (HasCleanDisk (state g mid) → (state g mid).now.trees ≡ (state g first).committed.trees)
    → (HasCleanDisk (state g mid) → (db : Trees) → (state g mid).may_leave db → (state g first).may_leave db)
    → Survives (state g mid) (state g new) (IsPreparedFor site (state g mid)) → HasCleanDisk (state g new) → LeavesAtMost site (state g first) (state g new)
left_anew g site first mid new shows_committed kept left survives clean db may =
    let calm = was_clean (state g mid) (state g new) _ survives clean in
    elim (survives.crash clean db may) [
      | inl m ↦ inl (left calm db m)
      | inr made ↦ inr (prepared_for site (state g mid) (state g first) db (sym (ap (λ (d : Database). d.trees) (shows_committed calm)) ∙ kept calm) made)
    ]

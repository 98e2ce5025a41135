-- What a test of a found store shows, where it is passed and where it is not.
use Rattle.std.proofs.Common.{◌≡◌, ◌≢◌, ◌↔◌, inl, inr, ℕ, length, List, Bool, true, false, true≢false, Option, Some, Result, Ok, Err, OnOk, IfErr, IsErrAnd}
use Rattle.std.proofs.Common.{refl, sym, ap, subst, ◌∙◌, Vec, IsTrue, IsUtf8}
use Rattle.std.specs.declared.alloc.Global.{Global}
use Rattle.sha2.specs.Sha256.{sha256}
use Rattle.site_core.specs.Prelude.{TextOfSite}
use Rattle.office_sql.proofs.Kit.{Row, Database, Held, state, HasCleanDisk, IsUnchanged, Trees, Error, survives_then, unchanged_then}
use Rattle.sqlite.specs.Store.{Ghosts}
use Rattle.office_store.proofs.Types.{OpenFault, OtherSite, OtherTables, Failed, Meta, Version, V2, V3}
use Rattle.office_store.specs.Prelude.{AreValidityRowsAsked, CanTake, Examines, HasOtherRows, HasOtherTables, IsFoundAt, IsOfOtherSite, IsOther, IsShownText}
use Rattle.office_store.specs.Prelude.{IsGrownFrom, ShowsSame, TellsOther, result_of_test}
use Rattle.store_inspection.specs.Prelude.{HasValidityRows, IsFound, Tests, meta_of_version, metas_in, IsMetaOf, HasMeta, ShowSiteTexts, number_of_version}
use Rattle.store_inspection.specs.Prelude.{schema_of}
use Rattle.office_sql.proofs.Asked.{was_clean}
use Rattle.store_inspection.proofs.FoundAsked.{rests_then, still_so}
use Rattle.store_inspection.proofs.MetaShows.{no_site}
use Rattle.office_store.proofs.Telling.{shown_tells, tells_shown}

-- what holds of an error holds of a result that is it
pub is_err : {A : Type 0} (X : Result A OpenFault → Type 0) (result : Result A OpenFault) (fault : OpenFault)
    → IsErrAnd result (λ told. told ≡ fault) → X (Err fault) → X result
is_err X (Ok _) fault is x = absurd is
is_err X (Err told) fault is x = subst (λ f. X (Err f)) (sym is) x

-- a store of an earlier version that tells another site is another site's
is_other : (site : TextOfSite) (version : Version) (db : Trees) → version ≢ V3 → TellsOther version (sha256 site.text) db → IsOther site version db
is_other site V3 db earlier other = absurd (earlier refl)
is_other site _ db earlier other = other

-- in a store of an earlier version and this site in which beginnings of validity are told, they are asked for
pub are_asked : (site : List ℕ) (version : Version) (db : Trees) → version ≢ V3 → number_of_version version ≢ 1
    → HasMeta version site db → AreValidityRowsAsked site version db
are_asked site V2 db earlier later told = told
are_asked site V3 db earlier later told = absurd (earlier refl)
are_asked site _ db earlier later told = absurd (later refl)

-- what was found is there after a test
pub found_after : {S : Type 0} (g : Ghosts S) (site : TextOfSite) {old mid : Held S} {Says : Database → Type 0} (version : Version)
    → Examines g site old mid (Ok tt) Says
    → (HasCleanDisk (state g old) → (state g old).now ≡ (state g old).committed)
    → (HasCleanDisk (state g old) → Says (state g old).now → IsFound version (state g old).now) → IsFoundAt version (state g mid)
found_after g site {old = old} {mid = mid} version test shows_committed found =
    let before = was_clean (state g old) (state g mid) _ test.crash in
    record {
      mode = test.mode;
      shows_committed = λ clean. let same = (test.same clean).0 in same.now_is ∙ shows_committed (before clean) ∙ sym same.committed_is;
      found = λ clean. still_so (IsFound version) (test.same clean) (found (before clean) (test.answer clean));
    }

-- what a test says is so after it
pub says_of : {S : Type 0} (g : Ghosts S) (site : TextOfSite) {old mid : Held S} {Says : Database → Type 0} → Examines g site old mid (Ok tt) Says
    → HasCleanDisk (state g mid) → Says (state g mid).now
says_of g site {Says = Says} test clean = subst Says (sym (test.same clean).0.now_is) (test.answer clean)

module _ {S : Type 0} (g : Ghosts S) (site : TextOfSite) where
  -- one test after another
  pub examines_then : {old mid new : Held S} {r : Result (Unit {0}) OpenFault} {P Q R : Database → Type 0}
      → Examines g site old mid (Ok tt) P → Examines g site mid new r Q
      → (HasCleanDisk (state g old) → P (state g old).now → Q (state g old).now → R (state g old).now) → Examines g site old new r R
  examines_then {old = old} {mid = mid} {new = new} {r = r} {P = P} {Q = Q} {R = R} one two both = record {
    answer = λ clean. said r (one.answer (calm clean)) (one.same (calm clean)) (before (calm clean)) (two.answer clean);
    same = λ clean. same r (one.same (calm clean)) (two.same clean);
    rests = λ clean. rests_then (state g old) (state g mid) (state g new) (one.same (calm clean)) (two.rests clean);
    mode = two.mode;
    refused = two.refused;
    shown = λ clean. shown r (one.same (calm clean)) (two.shown clean);
    crash = survives_then (state g old) (state g mid) (state g new) _ _ (λ _. ⊥) (λ _ db none. none) (λ _ db none. none) one.crash two.crash;
  }
    where
      calm : HasCleanDisk (state g new) → HasCleanDisk (state g mid)
      calm = was_clean (state g mid) (state g new) _ two.crash

      before : HasCleanDisk (state g mid) → HasCleanDisk (state g old)
      before = was_clean (state g old) (state g mid) _ one.crash

      said : (r : Result (Unit {0}) OpenFault) → P (state g old).now → IsUnchanged (state g old) (state g mid) → HasCleanDisk (state g old)
          → OnOk r (Q (state g mid).now) → OnOk r (R (state g old).now)
      said (Ok _) p same clean q = both clean p (subst Q same.0.now_is q)
      said (Err _) p same clean q = tt

      same : (r : Result (Unit {0}) OpenFault) → IsUnchanged (state g old) (state g mid)
          → OnOk r (IsUnchanged (state g mid) (state g new))
          → OnOk r (IsUnchanged (state g old) (state g new))
      same (Ok _) h k = unchanged_then (state g old) (state g mid) (state g new) h k
      same (Err _) h k = tt

      shown : (r : Result (Unit {0}) OpenFault) → IsUnchanged (state g old) (state g mid)
          → IfErr r (λ fault. ShowsSame fault (state g mid) (state g new))
          → IfErr r (λ fault. ShowsSame fault (state g old) (state g new))
      shown (Ok _) h k = tt
      shown (Err _) h k = λ other. k other ∙ h.0.now_is

  -- what follows from what a test says is said by it
  pub examines_of : {old new : Held S} {r : Result (Unit {0}) OpenFault} {P Q : Database → Type 0} → Examines g site old new r P
      → (OnOk r (P (state g old).now) → OnOk r (Q (state g old).now)) → Examines g site old new r Q
  examines_of it says = record {
    answer = λ clean. says (it.answer clean);
    same = it.same;
    rests = it.rests;
    mode = it.mode;
    refused = it.refused;
    shown = it.shown;
    crash = it.crash;
  }

  -- a test that is not passed says nothing
  pub says_nothing : {old new : Held S} {fault : OpenFault} {P Q : Database → Type 0} (result : Result (Unit {0}) OpenFault)
      → IsErrAnd result (λ told. told ≡ fault) → Examines g site old new (Err fault) P → Examines g site old new result Q
  says_nothing {old = old} {new = new} {fault = fault} {Q = Q} result is it =
      is_err (λ r. Examines g site old new r Q) result fault is (examines_of it (λ _. tt))

-- ---- tests of a connection at rest to a database whose schema is a version's

module _ {S : Type 0} (g : Ghosts S) (site : TextOfSite) (old new : Held S)
    (calm : IsTrue (state g new).is_open
    → HasCleanDisk (state g new)) (version : Version) (mode : old.in_transaction ≡ false)
    (shows_committed : HasCleanDisk (state g old)
    → (state g old).now ≡ (state g old).committed) (has : HasCleanDisk (state g old)
    → (state g old).now.schema ≡ schema_of version) where
  module _ {A : Type 0} (r : Result A Error) (P : Trees → A → Type 0) (tests : Tests g old new r P) where
    before : HasCleanDisk (state g new) → HasCleanDisk (state g old)
    before = was_clean (state g old) (state g new) _ tests.crash

    -- the schema is there after it
    pub still : IsTrue (state g new).is_open → (state g new).now.schema ≡ schema_of version
    still up =
        let clean = calm up in
        elim ((tests.rests clean).now up) [
          | inl e ↦ ap (λ (d : Database). d.schema) e ∙ has (before clean)
          | inr e ↦ ap (λ (d : Database). d.schema) (e ∙ sym (shows_committed (before clean))) ∙ has (before clean)
        ]

    -- it is not passed, for a reason
    pub not_passed : (fault : OpenFault) (Says : Database → Type 0) → (HasCleanDisk (state g new) → fault ≡ OtherSite → IsOfOtherSite site (state g new).now)
        → (HasCleanDisk (state g new) → fault ≡ OtherTables → HasOtherTables (sha256 site.text) (state g new).now)
        → (HasCleanDisk (state g new) → ShowsSame fault (state g old) (state g new)) → Examines g site old new (Err fault) Says
    not_passed fault Says other_site other_tables shown = record {
      answer = λ clean. tt;
      same = λ clean. tt;
      rests = tests.rests;
      mode = tests.mode mode;
      refused = record { other_site = other_site; other_tables = other_tables; other_schema = λ up other. absurd (other.1 version (still up)) };
      shown = shown;
      crash = tests.crash;
    }

    -- what was asked couldn't be read
    pub unread : (Says : Database → Type 0) → Examines g site old new (Err Failed) Says
    unread Says = not_passed Failed Says (λ clean told. absurd (let e = told in cc)) (λ clean told. absurd (let e = told in cc))
        (λ clean other. absurd (other refl))

  module _ {A : Type 0} (answer : A) (P : Trees → A → Type 0) (tests : Tests {E = Error} g old new (Ok answer) P) where
    -- it is passed
    pub passed : (Says : Database → Type 0)
        → (HasCleanDisk (state g old) → P (state g old).now.trees answer → Says (state g old).now)
        → Examines g site old new (Ok tt) Says
    passed Says answer = record {
      answer = λ clean. answer (was_clean (state g old) (state g new) _ tests.crash clean) (tests.answer clean);
      same = tests.same;
      rests = tests.rests;
      mode = tests.mode mode;
      refused = tt;
      shown = λ clean. tt;
      crash = tests.crash;
    }

    same_trees : HasCleanDisk (state g new) → (state g new).now ≡ (state g old).now
    same_trees clean = (tests.same clean).0.now_is

    schema_after : HasCleanDisk (state g new) → (state g new).now.schema ≡ schema_of version
    schema_after clean = still (Ok answer) P tests (tests.same clean).0.is_open

  -- what was asked is so and it is passed, or it isn't, and the tables are other ones, or it couldn't be read
  pub answered : (P : Trees → Type 0) (Says : Database → Type 0) → (HasCleanDisk (state g old) → P (state g old).now.trees → Says (state g old).now)
      → (HasCleanDisk (state g old) → ¬ P (state g old).now.trees → HasOtherRows (sha256 site.text) version (state g old).now.trees)
      → (r : Result Bool Error) → Tests g old new r (λ db is. IsTrue is ↔ P db)
      → (told : Result (Unit {0}) OpenFault) → told ≡ result_of_test r → Examines g site old new told Says
  answered P Says says lacks r tests told is = subst (λ t. Examines g site old new t Says) (sym is) (by r tests)
    where
      by : (r : Result Bool Error) → Tests g old new r (λ db is. IsTrue is ↔ P db) → Examines g site old new (result_of_test r) Says
      by (Ok true) tests = passed true _ tests Says (λ clean is. says clean (is.0 refl))
      by (Ok false) tests = not_passed (Ok false) _ tests OtherTables Says (λ clean told. absurd (let e = told in cc))
          (λ clean _.
          let other = lacks (was_clean (state g old) (state g new) _ tests.crash clean) (λ is. true≢false (sym ((tests.answer clean).1 is))) in
          inr (
            version,
            schema_after false _ tests clean,
            subst (λ (d : Database). HasOtherRows (sha256 site.text) version d.trees) (sym (same_trees false _ tests clean)) other,
          ))
          (λ clean other. same_trees false _ tests clean)
      by (Err error) tests = unread (Err error) _ tests Says

  module _ (meta : Option Meta) (tests : Tests {E = Error} g old new (Ok meta) (λ db row. IsMetaOf (metas_in db) row)) where
    told : HasCleanDisk (state g new) → IsMetaOf (metas_in (state g new).now.trees) meta
    told clean = subst (λ (d : Database). IsMetaOf (metas_in d.trees) meta) (sym (same_trees meta _ tests clean)) (tests.answer clean)

    -- what the store tells of itself was read and judged, by a name that is the site's
    pub judged : version ≢ V3 → (name : List ℕ) → name ≡ sha256 site.text → (result : Result (Unit {0}) OpenFault)
        → OnOk result (meta ≡ Some (meta_of_version version name))
        → IfErr result (λ fault. fault ≡ OtherSite → (other : List ℕ) × (length other ≡ 32) × (meta ≡ Some (meta_of_version version other)) × (other ≢ name))
        → IfErr result (λ fault. fault ≡ OtherTables → (other : List ℕ) → meta ≢ Some (meta_of_version version other))
        → Examines g site old new result (λ db. HasMeta version (sha256 site.text) db.trees)
    judged earlier name same (Ok _) ours others never = passed meta _ tests (λ db. HasMeta version (sha256 site.text) db.trees) (λ clean is.
        subst (IsMetaOf (metas_in (state g old).now.trees)) (ours ∙ ap (λ n. Some (meta_of_version version n)) same) is)
    judged earlier name same (Err fault) ours others never = not_passed (Ok meta) _ tests fault _
        (λ clean is.
        let it = others is in
        let found = subst (IsMetaOf (metas_in (state g new).now.trees)) it.2 (told clean) in
        (version, schema_after meta _ tests clean, is_other site version _ earlier (it.0, it.1, found, λ e. it.3 (e ∙ sym same))))
        (λ clean is. inr (version, schema_after meta _ tests clean, inr (inl (no_site version _ meta (told clean) (never is)))))
        (λ clean other. same_trees meta _ tests clean)

  -- the text that the store tells of was read and judged
  module _ (third : version ≡ V3) (read : Option Meta
      × Vec Row Global) (tests : Tests {E = Error} g old new (Ok read) (λ db it.
      IsMetaOf (metas_in db) it.0 × ShowSiteTexts db it.1.items)) where
    after : HasCleanDisk (state g new) → IsMetaOf (metas_in (state g new).now.trees) read.0 × ShowSiteTexts (state g new).now.trees read.1.items
    after clean = subst (λ (d : Database). IsMetaOf (metas_in d.trees) read.0
        × ShowSiteTexts d.trees read.1.items) (sym (same_trees read _ tests clean)) (tests.answer clean)

    is_v3 : HasCleanDisk (state g new) → (state g new).now.schema ≡ schema_of V3
    is_v3 clean = schema_after read _ tests clean ∙ ap schema_of third

    pub growth_judged : (result : Result (Unit {0}) OpenFault)
        → OnOk result ((text : List ℕ) × IsShownText text read.1.items read.0
        × IsGrownFrom text site.site)
        → IfErr result (λ fault. fault ≡ OtherSite → (text : List ℕ) × IsShownText text read.1.items read.0 × ¬ IsGrownFrom text site.site)
        → IfErr result (λ fault. fault ≡ OtherTables → (text : List ℕ) → IsUtf8 text → ¬ IsShownText text read.1.items read.0)
        → Examines g site old new result (λ db. CanTake site.site db.trees)
    growth_judged (Ok _) grown others never = passed read _ tests (λ db. CanTake site.site db.trees)
        (λ clean it. (grown.0, shown_tells grown.0 _ read.0 read.1.items it grown.1, grown.2))
    growth_judged (Err fault) grown others never = not_passed (Ok read) _ tests fault _
        (λ clean is. let it = others is in (V3, is_v3 clean, (it.0, shown_tells it.0 _ read.0 read.1.items (after clean) it.1, it.2)))
        (λ clean is.
        inr (
          V3,
          is_v3 clean,
          inr (inr (inr (inl (λ text utf tells.
              never is text utf (tells_shown text _ read.0 read.1.items (after clean) tells))))),
        ))
        (λ clean other. same_trees read _ tests clean)

module _ {S : Type 0} (g : Ghosts S) (site : TextOfSite) (old mid new : Held S) (calm : IsTrue (state g new).is_open → HasCleanDisk (state g new))
    (shows_committed : HasCleanDisk (state g old) → (state g old).now ≡ (state g old).committed) where
  -- beginnings of validity were asked for behind what was known
  pub validity_asked : (version : Version) (Known Whole : Database → Type 0) → Examines g site old mid (Ok tt) Known
      → ((db : Database) → Known db → IsFound version db × AreValidityRowsAsked (sha256 site.text) version db.trees)
      → ((db : Database) → Known db → HasValidityRows db.trees → Whole db)
      → (r : Result Bool Error) → Tests g mid new r (λ db has. IsTrue has ↔ HasValidityRows db)
      → (told : Result (Unit {0}) OpenFault) → told ≡ result_of_test r → Examines g site old new told Whole
  validity_asked version Known Whole one known whole r tests told is =
      let found = found_after g site version one shows_committed (λ clean it. (known (state g old).now it).0) in
      examines_then g site one
      (answered g site mid new calm version found.mode found.shows_committed (λ clean. (found.found clean).schema) HasValidityRows
      (λ (db : Database). HasValidityRows db.trees) (λ clean has. has)
      (λ clean lacks. inr (inr (inl ((known (state g mid).now (says_of g site one clean)).1, lacks))))
      r tests told is) (λ clean it has. whole (state g old).now it has)

-- From what `query_all` promises to what the tests of a found file do.
use Rattle.std.proofs.Common.{◌≡◌}
use Rattle.text_core.proofs.Kit.{sym, ap, refl, ℕ, List, [], false, subst, inl, inr, ◌∙◌, Result, Ok, Err, IfOk, IfErr, OnOk, IsTrue, IfOk-weaker, Vec, Global}
use Rattle.office_sql.proofs.Kit.{Row, Trees, Error, Held, state, State, HasCleanDisk, Survives, IsUnchanged, Database, survives_then, IsAnswer, Schema}
use Rattle.office_sql.proofs.Kit.{reads_as, Select, overlay, Null, unchanged_then}
use Rattle.sqlite.specs.Store.{Ghosts}
use Rattle.sqlite.specs.State.{Shown, FailsToQuery, CommitsShowing}
use Rattle.office_sql.specs.Prelude.{Rests}
use Rattle.sqlite.specs.Query.{Query}
use Rattle.store_inspection.specs.declared.version.Version.{Version}
use Rattle.store_inspection.specs.Prelude.{Tests, schema_of}
use Rattle.office_sql.proofs.Asked.{was_clean, leaves, shown_open, query_rests}
use Rattle.office_sql.proofs.Bare.{IsBare, bare_commits_nothing}
use Rattle.office_sql.proofs.LedgerAsked.{IsReadAs}

-- what a text means under the schema of each version
pub of_a_version : (text : List ℕ) (body : Query) → ((version : Version) → IsReadAs (schema_of version) text body)
    → (schema : Schema) → (version : Version) × (schema ≡ schema_of version) → IsReadAs schema text body
of_a_version text body read schema it = subst (λ s. IsReadAs s text body) (sym it.1) (read it.0)

-- under that of each version of which this is so
pub of_those : (text : List ℕ) (body : Query) (IsOf : Version → Type 0) → ((version : Version) → IsOf version → IsReadAs (schema_of version) text body)
    → (schema : Schema) → (version : Version) × IsOf version × (schema ≡ schema_of version) → IsReadAs schema text body
of_those text body IsOf read schema it = subst (λ s. IsReadAs s text body) (sym it.2) (read it.0 it.1)

-- a text that means a query under one schema means it under a schema that is the same
pub read_under : (text : List ℕ) (body : Query) (of : Schema) → IsReadAs of text body → (schema : Schema) → schema ≡ of → IsReadAs schema text body
read_under text body of read schema is = subst (λ s. IsReadAs s text body) (sym is) read

module _ {S : Type 0} (g : Ghosts S) (text : List ℕ) (body : Query) (bare : IsBare text) (IsKnown : Schema → Type 0)
    (read : (schema : Schema) → IsKnown schema → IsReadAs schema text body) (old new : Held S) where
  -- a query with no parameters, of a database whose schema is one under which its text is known
  pub tested : (r : Result (Vec Row Global) Error) (Says : Trees → Vec Row Global → Type 0)
      → (IsTrue (state g old).is_open → IsKnown (state g old).now.schema)
      → ((rows : Vec Row Global) → IsTrue (state g old).is_open
      → IsAnswer body (overlay (state g old).now.trees []) [] rows.items
      → Says (state g old).now.trees rows)
      → (HasCleanDisk (state g new)
      → IfOk r (λ v. Shown text [] (state g old) (state g new) v.items))
      → (HasCleanDisk (state g new)
      → IfErr r (FailsToQuery text [] (state g old) (state g new)))
      → (old.in_transaction ≡ false → new.in_transaction ≡ false) → Survives (state g old) (state g new) (CommitsShowing text [] (state g old))
      → Tests g old new r Says
  tested r Says known answer ok err mode survives = record {
    answer = λ clean. IfOk-weaker r _ _ (λ rows h.
        let up = shown_open text [] (state g old) (state g new) rows.items bare h in
        let schema = (state g old).now.schema in
        let it = read schema (known up) in
        answer rows up
        ((reads_as text [] (state g old) (state g new) schema refl (Select (record { lets = []; body = body }) it.names)
        it.is it.plain it.unlisted rows.items h).answer Null)) (ok clean);
    same = λ clean. unchanged r (ok clean);
    rests = λ clean. query_rests text [] (state g old) (state g new) r (λ v. v.items) bare (ok clean) (err clean);
    mode = mode;
    crash = bare_commits_nothing text [] (state g old) (state g new) bare survives;
  }
    where
      unchanged : (r : Result (Vec Row Global) Error)
          → IfOk r (λ v. Shown text [] (state g old) (state g new) v.items)
          → OnOk r (IsUnchanged (state g old) (state g new))
      unchanged (Ok v) h =
          let up = shown_open text [] (state g old) (state g new) v.items bare h in
          leaves (state g old).now.schema text [] (state g old) (state g new) (read (state g old).now.schema (known up)).plain refl v.items h
      unchanged (Err e) h = tt

pub rests_then : (old mid new : State) → IsUnchanged old mid → Rests mid new → Rests old new
rests_then old mid new h k = record {
  was_open = λ up. h.0.was_open;
  now = λ up. elim (k.now up) [ inl e ↦ inl (e ∙ h.0.now_is) | inr e ↦ inr (e ∙ h.0.committed_is) ];
  committed = λ up. k.committed up ∙ h.0.committed_is;
}

through : {B E : Type 0} (old mid new : State) (q : Result B E) → IsUnchanged old mid → OnOk q (IsUnchanged mid new) → OnOk q (IsUnchanged old new)
through old mid new (Ok b) h k = unchanged_then old mid new h k
through old mid new (Err e) h k = tt

-- a test after one that was answered
pub tests_then : {S A B D E : Type 0} (g : Ghosts S) (old mid new : Held S) (a : A) (q : Result B E)
    (d : Result D E) (P : Trees → A → Type 0) (Q : Trees → B → Type 0) (R : Trees → D → Type 0)
    → Tests {E = E} g old mid (Ok a) P → Tests g mid new q Q
    → (P (state g old).now.trees a → IfOk q (Q (state g old).now.trees)
    → IfOk d (R (state g old).now.trees))
    → (OnOk q (IsUnchanged (state g old) (state g new)) → OnOk d (IsUnchanged (state g old) (state g new))) → Tests g old new d R
tests_then g old mid new a q d P Q R one two answer same =
    let calm = λ (clean : HasCleanDisk (state g new)). was_clean (state g mid) (state g new) (λ _. ⊥) two.crash clean in
    record {
      answer = λ clean. answer (one.answer (calm clean)) (subst (λ (n : Database). IfOk q (Q n.trees)) (one.same (calm clean)).0.now_is (two.answer clean));
      same = λ clean. same (through (state g old) (state g mid) (state g new) q (one.same (calm clean)) (two.same clean));
      rests = λ clean. rests_then (state g old) (state g mid) (state g new) (one.same (calm clean)) (two.rests clean);
      mode = λ m. two.mode (one.mode m);
      crash = survives_then (state g old) (state g mid) (state g new) _ _ (λ _. ⊥) (λ _ db none. none) (λ _ db none. none) one.crash two.crash;
    }

-- what is said of an answer that is made of another
pub tests_more : {S A B E F : Type 0} (g : Ghosts S) (old new : Held S) (r : Result A E)
    (q : Result B F) (P : Trees → A → Type 0) (Q : Trees → B → Type 0) → Tests g old new r P
    → (IfOk r (P (state g old).now.trees) → IfOk q (Q (state g old).now.trees))
    → (OnOk r (IsUnchanged (state g old) (state g new)) → OnOk q (IsUnchanged (state g old) (state g new))) → Tests g old new q Q
tests_more g old new r q P Q it answer same =
    record { answer = λ clean. answer (it.answer clean); same = λ clean. same (it.same clean); rests = it.rests; mode = it.mode; crash = it.crash }

-- a schema of a version is one after a test
pub still_known : {old new : State} → IsUnchanged old new → (version : Version) × (old.now.schema ≡ schema_of version)
    → (version : Version) × (new.now.schema ≡ schema_of version)
still_known same it = (it.0, ap (λ (d : Database). d.schema) same.0.now_is ∙ it.1)

-- what is so of a database is so after a test
pub still_so : {old new : State} (Says : Database → Type 0) → IsUnchanged old new → Says old.now → Says new.now
still_so Says same it = subst Says (sym same.0.now_is) it

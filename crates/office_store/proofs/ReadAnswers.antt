-- From what the functions over SQL ask to what a keeper answers.
use Rattle.std.proofs.Common.{◌≡◌, ℕ, List, inl, inr, false, refl, sym, ap, subst, ◌∙◌, Result, Ok, Err, IfOk, OnOk, IsTrue, arith}
use Rattle.std.specs.Result.{result_ok}
use Rattle.office_sql.proofs.Kit.{Database, Held, state, Error, State, HasCleanDisk, IsUnchanged, clean_if_open}
use Rattle.sqlite.specs.Store.{Ghosts}
use Rattle.office_tables.specs.Prelude.{Tables}
use Rattle.office_sql.specs.Prelude.{SqlReads, Rests, IsReady, IsOffice, tables_in}
use Rattle.office_sql.proofs.Resting.{same_now}
use Rattle.office_store.specs.Prelude.{fuse_map_at, Kept, LooksUpBySql, RemembersRight, tables_of, is_open_at}
use Rattle.fusemap_core.specs.Numbers.{AreMapsOfNumbers}
use Rattle.fusemap_core.specs.declared.numbered.NumberCache.{NumberCache}

-- a connection that was ready is ready after a read
pub rested : (old new : State) → IsReady old → (IsTrue new.is_open → Rests old new) → new.in_transaction ≡ false → IsReady new
rested old new rest rests mode = record {
  mode = mode;
  office = λ up. subst IsOffice (sym (same_now old new rest (rests up) up)) (rest.office ((rests up).was_open up));
  shows_committed = λ up. same_now old new rest (rests up) up ∙ rest.shows_committed ((rests up).was_open up) ∙ sym ((rests up).committed up);
}

-- what an answer says is said of one with the same value
pub if_ok : {A E F : Type 0} (P : A → Type 0) (r : Result A E) (q : Result A F) → result_ok q ≡ result_ok r → IfOk r P → IfOk q P
if_ok P (Ok x) (Ok y) e h = subst P (let f = e in cc) h
if_ok P (Err x) (Ok y) e h = absurd (let f = e in cc)
if_ok P r (Err y) e h = tt

-- each store that isn't sure of its disk is shut
abbrev pub ShutsIfDirty : {S : Type 0} → Ghosts S → Type 0
ShutsIfDirty {S = S} g = (store : S) → (g.view store).is_clean ≡ false → (g.view store).is_open ≡ false

-- a connection that is open is sure of its disk
pub clean_at : {S : Type 0} (g : Ghosts S) → ShutsIfDirty g → (h : Held S) → IsTrue (state g h).is_open → HasCleanDisk (state g h)
clean_at g shuts h = clean_if_open (g.view h.store) (shuts h.store)

-- a read by a keeper, of whose value the connection is a part
module _ {S : Type 0} (g : Ghosts S) (shuts : ShutsIfDirty g) {old new : Held S} {maps : NumberCache} {owner : List ℕ}
    (is_kept : RemembersRight g old owner maps) where
  -- what is asked of a connection at rest is what a keeper answers
  pub answered : {A F : Type 0} {site : List ℕ} {self : Kept S} → record { conn = old; site = site } ≡ self
      → {r : Result A Error} {Says : Tables → A → Type 0} (q : Result A F) → result_ok q ≡ result_ok r → SqlReads g old new r Says
      → LooksUpBySql g self (record { conn = new; site = site }) q Says
  answered {A = A} {site = site} view {r = r} {Says = Says} q is asks =
      let clean = clean_at g shuts new in
      subst (λ k. LooksUpBySql g k (record { conn = new; site = site }) q Says) view (record {
        read_only = record {
          was_open = λ up. (asks.rests (clean up)).was_open up;
          same = λ up. ap (λ (d : Database). tables_in d.trees) ((asks.rests (clean up)).committed up);
          was_honest = λ honest. omega (arith, asks.crash.clean, honest);
          crash = λ honest t h. elim (asks.crash.crash honest h.0 h.1) [ inl m ↦ (h.0, m, h.2) | inr none ↦ absurd none ];
          text = λ honest text tells db may. elim (asks.crash.crash honest db may) [ inl m ↦ tells db m | inr none ↦ absurd none ];
          uncommitted = refl;
        };
        stays_open = λ honest. if_ok (λ _. is_open_at g new) r q is (open_after r (asks.same honest));
        answer = λ up. if_ok (Says (tables_of g old)) r q is (said r (asks.same (clean up)) (asks.answer (clean up)));
      })
    where
      open_after : (r : Result A Error) → OnOk r (IsUnchanged (state g old) (state g new)) → IfOk r (λ _. is_open_at g new)
      open_after (Ok x) same = same.0.is_open
      open_after (Err e) same = tt

      said : (r : Result A Error) → OnOk r (IsUnchanged (state g old) (state g new))
          → IfOk r (Says (tables_in (state g old).now.trees)) → IfOk r (Says (tables_of g old))
      said (Ok x) same h = subst (λ (d : Database). Says (tables_in d.trees) x) (is_kept.ready.shows_committed same.0.was_open) h
      said (Err e) same h = tt

  -- the tables after a read are those that it saw
  pub same_tables : {A : Type 0} {r : Result A Error} {Says : Tables → A → Type 0} → SqlReads g old new r Says → IsTrue (state g new).is_open
      → tables_of g new ≡ tables_in (state g old).now.trees
  same_tables asks up =
      let rests = asks.rests (clean_at g shuts new up) in
      ap (λ (d : Database). tables_in d.trees) (rests.committed up ∙ sym (is_kept.ready.shows_committed (rests.was_open up)))

  -- the keeper is as good as before, and so are its maps
  pub ready_after : {A : Type 0} {r : Result A Error} {Says : Tables → A → Type 0} → SqlReads g old new r Says → RemembersRight g new owner maps
  ready_after asks = record {
    ready = rested (state g old) (state g new) is_kept.ready (λ up. asks.rests (clean_at g shuts new up)) (asks.mode is_kept.ready.mode);
    right = λ up. let rests = asks.rests (clean_at g shuts new up) in
        subst (λ (d : Database). AreMapsOfNumbers (fuse_map_at (tables_in d.trees)) maps) (sym (rests.committed up)) (is_kept.right (rests.was_open up));
    left = λ honest db may. elim (asks.crash.crash honest db may) [
      | inl m ↦ is_kept.left (omega (arith, asks.crash.clean, honest)) db m
      | inr none ↦ absurd none
    ];
  }

-- a connection that is ready where it is open is ready
pub ready_if_open : (s : State) → s.in_transaction ≡ false → (IsTrue s.is_open → IsReady s) → IsReady s
ready_if_open s mode ready = record { mode = mode; office = λ up. (ready up).office up; shows_committed = λ up. (ready up).shows_committed up }

-- What an UPDATE of the row with a key does. No reference acts on an update here, so a table that others refer to is as any other.
use Rattle.std.proofs.Common.{◌≡◌, ◌⊎◌, ◌∷◌, ◌==◌}
use Rattle.text_core.proofs.Kit.{ℕ, ℤ, Bool, true, false, not, List, [], map, filter, length, slice_get, Option, Some, None, Ok, refl, sym, ap, Less, Equal}
use Rattle.text_core.proofs.Kit.{is_eq, is_lt, true≢false, subst, ◌∙◌, inl, inr, AllByRecursion, filter_map, flat_map, IsPermutation, length_permutation}
use Rattle.text_core.proofs.Kit.{unwrap_or, cases_eq, tied_itself, IsPermutation-refl, IsPermutation-trans, IsPermutation-cons, IsPermutation-middle}
use Rattle.text_core.proofs.Kit.{nil_from_length}
use Rattle.office_sql.proofs.Kit.{Null, Int, Row, Term, eval_all, overlay, Update, edit_of, edited, Given, Tally, Does, AtPlace, OnRows, Edited, Written, Table}
use Rattle.office_sql.proofs.Kit.{Trees, put_row, without_rowid, Database, IsDatabase, State, mode_of, Executes, IsPlain, command_of, statement_of, runs_as}
use Rattle.office_sql.proofs.Kit.{one_step, one_permutation, Enforced, cast_row, ids_of, works, work_by, pairs, deed_for, taken_by, parent_key, IsTable, rowid}
use Rattle.office_sql.proofs.Kit.{has_rowid, id_in, Has, all_has, has_filtered, int_is, all-map, filter_all, filter_same, filter-map, later_rowids}
use Rattle.office_sql.proofs.Kit.{value_cmp_total, Command}
use Rattle.sqlite.specs.Listing.{understood}
use Rattle.sqlite.specs.Order.{value_cmp}
use Rattle.sqlite_trees.proofs.ListLemmas.{all_weaker, ascending-filter}
use Rattle.office_sql.proofs.Names.{same_but}
use Rattle.office_sql.specs.Prelude.{OfficeTable, IsOffice, passes, AreKeyed, office_schema, rows_in, tree_of, table_of, place_of, scan, env, passing, Remakes}
use Rattle.office_sql.specs.Prelude.{Replaces, SqlStays, SameBut}
use Rattle.office_sql.proofs.Inserting.{enforced, task_on}
use Rattle.office_sql.proofs.Scan.{scanned}
use Rattle.office_sql.proofs.TableOf.{TableOf, AreRowsAs, in_order}
use Rattle.office_sql.proofs.TableRows.{row_replaced}
use Rattle.office_tables.specs.Prelude.{with_row}
use Rattle.office_tables.proofs.Finding.{none_filtered}
use Rattle.office_sql.proofs.Stepping.{went, same_value}

-- the references of the office act on nothing
calm : (tree : ℕ) (olds news : List Row) → works office_schema Enforced 0 tree olds news ≡ []
calm tree olds news =
    elim (length news == 0) as (λ b.
    flat_map (λ child.
    filter_map (λ ref.
    work_by 0 tree (pairs olds news) child ref (deed_for Enforced b ref)
    (parent_key office_schema.tables ref)) child.references) office_schema.tables ≡ [])
    [ true ↦ refl | false ↦ refl ]

-- what the text of an UPDATE means
pub record IsUpdate (text : List ℕ) (table : OfficeTable) (tests shown : List Term) : Type 0 where
  pub is : command_of (understood office_schema text) ≡ Update (place_of table) (record { lets = []; body = scan (tree_of table) tests shown [] })
  pub plain : IsPlain (understood office_schema text)
  pub there : slice_get office_schema.tables (place_of table) ≡ Some (table_of table)
  pub same : (db : Trees) → overlay db [] (tree_of table) ≡ rows_in db table

module _ (text : List ℕ) (its : OfficeTable) (tests shown : List Term) (update : IsUpdate text its tests shown) (params : Row) where
  abbrev table : Table
  table = table_of its

  abbrev command : Command
  command = Update (place_of its) (record { lets = []; body = scan (tree_of its) tests shown [] })

  abbrev news : Trees → List Row → List Row
  news db sources = (edit_of db table (ids_of sources) Given 1 sources).news

  abbrev rows_after : Trees → List Row → List Row
  rows_after db sources = edited db (edit_of db table (ids_of sources) Given 1 sources)

  -- the rows of the table are those that the edit leaves
  record Updates (sources : List Row) (old new : Database) (tally : Tally) : Type 0 where
    schema : new.schema ≡ office_schema
    sound : IsDatabase new
    row : rows_in new.trees its ≡ rows_after old.trees sources
    others : SameBut its old.trees new.trees
    counted : unwrap_or tally.rows 0 ≡ length (news old.trees sources)

  puts : (limit : Option ℕ) (old : Database) (out : Tally × Database) → IsDatabase out.1
      → (kept : List Row) → passing tests params (rows_in old.trees its) ≡ kept
      → ((l : List Row) → IsPermutation kept l → l ≡ kept)
      → OnRows (task_on office_schema limit params table) enforced None command old.trees (Ok out)
      → Updates (map (λ r. eval_all shown (env params r)) kept) old out.1 out.0
  puts limit old out sound kept passed alone does =
      let db = old.trees in
      let done = went does in
      let end = went (went done.2).2 in
      let given = went done.1 in
      let written = went given.2 in
      let s = scanned (overlay db []) params (tree_of its) tests shown [] [] given.0 (given.1.answer Null) in
      let same : s.kept ≡ kept = alone s.kept (subst (λ k. IsPermutation k s.kept) (ap (passing tests params) (update.same db) ∙ passed) s.same) in
      let sources = map (λ r. eval_all shown (env params r)) kept in
      let rows : given.0 ≡ sources = s.shows ∙ ap (map (λ r. eval_all shown (env params r))) same in
      let edit = edit_of db table (ids_of sources) Given 1 sources in
      let wrote = subst (λ all. Edited office_schema Enforced db (edit_of db table (ids_of all) Given 1 all) (Ok written.0)) rows written.1 in
      let trees : done.0.trees ≡ written.0 = ap (λ (it : Written). it.trees) (same_value written.2) in
      let step = one_step office_schema Enforced db written.0 edit (calm (tree_of its) (taken_by db edit) edit.news) wrote in
      let now = ap (λ (p : Tally × Database). p.1) (same_value end.2) in
      record {
        schema = ap (λ (d : Database). d.schema) now;
        sound = sound;
        row = ap (λ (d : Database). rows_in d.trees its) now ∙ ap (λ (t : Trees). rows_in t its) trees ∙ step.rows;
        others = subst (λ (t : Trees). SameBut its db t) (sym (ap (λ (d : Database). d.trees) now ∙ trees)) (same_but its db written.0 step.tables);
        counted = ap (λ (p : Tally × Database). unwrap_or p.0.rows 0) (same_value end.2)
            ∙ ap (λ (it : Written). length it.rows) (same_value written.2)
            ∙ ap (λ all. length (news db all)) rows;
      }

module _ (text : List ℕ) (table : OfficeTable) (tests shown : List Term)
    (update : IsUpdate text table tests shown) (params : Row) (old new : State) (count : ℕ)
    (has : old.now.schema ≡ office_schema) (ran : Executes text params old new (Ok count)) where
  abbrev after : List Row → List Row
  after = rows_after text table tests shown update params old.now.trees

  updates : (kept : List Row) → passing tests params (rows_in old.now.trees table) ≡ kept → ((l : List Row) → IsPermutation kept l → l ≡ kept)
      → (tally : Tally)
      × Updates text table tests shown update params (map (λ r.
      eval_all shown (env params r)) kept) old.now new.now tally
      × (count ≡ unwrap_or tally.rows 0)
  updates kept passed alone =
      let it = command text table tests shown update params in
      let w = runs_as text params old new office_schema has it update.is update.plain count ran in
      let words = statement_of text (understood office_schema text) in
      let does = subst (λ s. Does old.step_limit (mode_of old) params (record old.now { schema = s }) words None it (Ok (w.tally, new.now))) has w.changed in (
        w.tally,
        puts text table tests shown update params old.step_limit old.now (w.tally, new.now) w.sound kept passed alone
            (subst (λ o.
            AtPlace (λ t. OnRows (task_on office_schema old.step_limit params t) enforced None it old.now.trees) o (Ok (w.tally, new.now))) update.there does),
        w.counted,
      )

  -- where one row passes, it is replaced
  pub replaces : (r source columns : Row) (id : ℤ)
      → passing tests params (rows_in old.now.trees table) ≡ r ∷ []
      → eval_all shown (env params r) ≡ Int id ∷ source → cast_row (table_of table) source ≡ Int id ∷ columns
      → Replaces table id columns old.now new.now × (count ≡ 1)
  replaces r source columns id one evals casts =
      let it = updates (r ∷ []) one (one_permutation r) in
      let shows : after (eval_all shown (env params r) ∷ []) ≡ put_row (Int id ∷ columns) (without_rowid id (rows_in old.now.trees table)) =
      ap (λ e. after (e ∷ [])) evals ∙ ap (λ c. put_row c (without_rowid id (rows_in old.now.trees table))) casts in
      (record { schema = it.1.schema; sound = it.1.sound; row = it.1.row ∙ shows; others = it.1.others }, it.2 ∙ it.1.counted)

  -- where none passes, nothing changes
  pub stays : passing tests params (rows_in old.now.trees table) ≡ [] → SqlStays old.now new.now × (count ≡ 0)
  stays none =
      let it = updates [] none (λ l same. nil_from_length l (length_permutation [] l same)) in (
        record {
          schema = it.1.schema;
          sound = it.1.sound;
          tables = λ t. elim (cases_eq (tree_of t) (tree_of table)) [
            | inl e ↦ subst (λ n. new.now.trees n ≡ old.now.trees n) (sym e) it.1.row
            | inr ne ↦ it.1.others t (λ e. ne (ap tree_of e))
          ];
        },
        it.2 ∙ it.1.counted,
      )

-- ---- the row with a key

-- a row and the rest
pub without_one : (rows : List Row) (r : Row) (id : ℤ) → IsTable rows → Has rows r → rowid r ≡ Int id → IsPermutation rows (r ∷ without_rowid id rows)
without_one [] r id up has e = absurd has
without_one (x ∷ rows) r id up (inl same) e =
    let here : has_rowid id x ≡ true = ap (λ v. is_eq (value_cmp v (Int id))) (ap rowid (sym same) ∙ e) ∙ ap is_eq (tied_itself value_cmp_total (Int id)) in
    let low : is_lt (value_cmp (rowid x) (Int id))
    ≡ false = ap (λ v. is_lt (value_cmp v (Int id))) (ap rowid (sym same) ∙ e)
    ∙ ap is_lt (tied_itself value_cmp_total (Int id)) in
    let rest : without_rowid id rows
    ≡ rows = filter_all _ rows (all_weaker _ (λ y. not (has_rowid id y)
    ≡ true) (λ y k. ap not k) rows (later_rowids (Int id) x rows low up.0)) in
    rw (here, rest, same) (IsPermutation-refl _)
without_one (x ∷ rows) r id up (inr later) e =
    let below : value_cmp (rowid x) (Int id) ≡ Less = subst (λ v. value_cmp (rowid x) v ≡ Less) e (all_has _ rows r up.0 later) in
    rw below (IsPermutation-trans _ _ _
    (IsPermutation-cons x _ _ (without_one rows r id up.1 later e)) (IsPermutation-middle (x
    ∷ []) r (without_rowid id rows)))

-- the row of a table that passes a test, and its rowid
pub record IsTheRow {A : Type 0} (t : TableOf A) (p : A → Bool) (rows : List Row) (r : Row) (id : ℤ) : Type 0 where
  pub numbered : rowid r ≡ Int id
  pub typed : t.Typed r
  pub passed : p (t.value r) ≡ true
  pub alone : filter (λ x. p (t.value x)) rows ≡ r ∷ []
  pub split : IsPermutation rows (r ∷ without_rowid id rows)

-- no row of the table passes, or one
abbrev IsOneOrNone : {A : Type 0} → TableOf A → (A → Bool) → List Term → Row → List Row → Type 0
IsOneOrNone t p tests params rows =
    ((passing tests params rows ≡ []) × AllByRecursion (λ x. p x ≡ false) (map t.value rows))
    ⊎ ((r : Row) × (id : ℤ) × (passing tests params rows ≡ r ∷ []) × IsTheRow t p rows r id)

module _ {A : Type 0} (t : TableOf A) (p : A → Bool) (ties : (a b : A) → p a ≡ true → p b ≡ true → t.cmp a b ≡ Equal) where
  -- no two rows have one key
  twice : (rows : List Row) (a b : Row) (more : List Row) → AreRowsAs t rows → filter (λ r. p (t.value r)) rows ≡ a ∷ b ∷ more → ⊥
  twice rows a b more are e =
      let two = subst (AreKeyed t.cmp) (filter-map p t.value rows ∙ ap (map t.value) e) (ascending-filter _ p (map t.value rows) are.keyed) in
      let pa = (has_filtered (λ r. p (t.value r)) rows a (subst (λ l. Has l a) (sym e) (inl refl))).1 in
      let pb = (has_filtered (λ r. p (t.value r)) rows b (subst (λ l. Has l b) (sym e) (inr (inl refl)))).1 in
      true≢false (ap is_eq (sym (ties (t.value a) (t.value b) pa pb)) ∙ two.0.0)

  one_or_none : (tests : List Term) (params : Row) → ((r : Row) → t.Typed r → passes tests params r ≡ p (t.value r))
      → (rows : List Row) → AreRowsAs t rows → IsOneOrNone t p tests params rows
  one_or_none tests params is rows are = go (filter (λ r. p (t.value r)) rows) refl
    where
      same : passing tests params rows ≡ filter (λ r. p (t.value r)) rows
      same = filter_same (passes tests params) (λ r. p (t.value r)) rows (all_weaker _ (λ r. passes tests params r ≡ p (t.value r)) is rows are.typed)

      go : (l : List Row) → filter (λ r. p (t.value r)) rows ≡ l → IsOneOrNone t p tests params rows
      go [] e = inl (same ∙ e, all-map (λ x. p x ≡ false) t.value rows (none_filtered (λ r. p (t.value r)) rows e))
      go (r ∷ []) e =
          let has = has_filtered (λ r. p (t.value r)) rows r (subst (λ l. Has l r) (sym e) (inl refl)) in
          let numbered = int_is (rowid r) (all_has _ rows r are.numbered has.0) in
          inr (
            r,
            id_in (rowid r),
            same ∙ e,
            record {
              numbered = numbered;
              typed = all_has _ rows r are.typed has.0;
              passed = has.1;
              alone = e;
              split = without_one rows r (id_in (rowid r)) are.rising has.0 numbered;
            },
          )
      go (a ∷ b ∷ more) e = absurd (twice rows a b more are e)

-- what an UPDATE of the row with a key leaves: no row has the key, and nothing changed, or the row with the key is replaced
pub record SetsNone {A : Type 0} (t : TableOf A) (p : A → Bool) (old new : Database) (count : ℕ) : Type 0 where
  pub stays : SqlStays old new
  pub none : AllByRecursion (λ x. p x ≡ false) (map t.value (rows_in old.trees t.name))
  pub counted : count ≡ 0

pub record SetsOne {A : Type 0} (t : TableOf A) (p : A → Bool) (columns : Row → Row) (old new : Database) (count : ℕ) : Type 0 where
  pub was : Row
  pub id : ℤ
  pub one : IsTheRow t p (rows_in old.trees t.name) was id
  pub replaced : Replaces t.name id (columns was) old new
  pub rows : AreRowsAs t (rows_in new.trees t.name)
  pub placed_is : in_order t (rows_in new.trees t.name) ≡ with_row t.cmp (t.value (Int id ∷ columns was)) (in_order t (rows_in old.trees t.name))
  pub counted : count ≡ 1

-- it is remade, where its new columns are those of another rule
pub remade : {A : Type 0} (t : TableOf A) (p : A → Bool) (columns others : Row → Row) (old new : Database) (count : ℕ)
    → (one : SetsOne t p columns old new count) → columns one.was ≡ others one.was → Remakes t.name (λ r. p (t.value r)) others old new
remade t p columns others old new count one same =
    (one.was, one.id, one.one.alone, one.one.numbered, subst (λ (c : Row). Replaces t.name one.id c old new) same one.replaced)

-- the columns of the new row, made of the old one
pub record IsSet {A : Type 0} (t : TableOf A) (p : A → Bool) (tests shown : List Term) (params : Row) (columns : Row → Row) : Type 0 where
  pub tested : (r : Row) → t.Typed r → passes tests params r ≡ p (t.value r)
  pub evals : (r : Row) → eval_all shown (env params r) ≡ rowid r ∷ rowid r ∷ columns r
  pub casts : (id : ℤ) (r : Row) → t.Typed r → cast_row (table_of t.name) (Int id ∷ columns r) ≡ Int id ∷ columns r
  pub typed : (id : ℤ) (r : Row) → t.Typed r → t.Typed (Int id ∷ columns r)
  pub tied : (id : ℤ) (r : Row) → t.Typed r → p (t.value r) ≡ true → t.cmp (t.value (Int id ∷ columns r)) (t.value r) ≡ Equal

module _ {A : Type 0} (t : TableOf A) (p : A → Bool) (ties : (a b : A) → p a ≡ true → p b ≡ true → t.cmp a b ≡ Equal)
    (text : List ℕ) (tests shown : List Term) (update : IsUpdate text t.name tests shown) (params : Row) (columns : Row → Row)
    (set : IsSet t p tests shown params columns) where
  pub sets : (old new : State) (count : ℕ) → IsOffice old.now → Executes text params old new (Ok count)
      → SetsNone t p old.now new.now count ⊎ SetsOne t p columns old.now new.now count
  sets old new count office ran =
      let rows = rows_in old.now.trees t.name in
      let are = t.from_office rows (office.rows t.name) in
      elim (one_or_none t p ties tests params set.tested rows are) [
        | inl none ↦
            (let it = stays text t.name tests shown update params old new count office.schema ran none.0 in inl
            (record { stays = it.0; none = none.1; counted = it.1 }))
        | inr one ↦ (let r = one.0 in
            let id = one.1 in
            let the = one.3 in
            let it = replaces text t.name tests shown update params old new count office.schema ran r (Int id ∷ columns r) (columns r) id one.2
            (set.evals r ∙ ap (λ v. v ∷ v ∷ columns r) the.numbered) (set.casts id r the.typed) in
            let made = row_replaced t id r (columns r) rows are the.split (set.typed id r the.typed) (set.tied id r the.typed the.passed) in
            inr (record {
              was = r;
              id = id;
              one = the;
              replaced = it.0;
              rows = subst (AreRowsAs t) (sym it.0.row) made.0;
              placed_is = ap (in_order t) it.0.row ∙ made.1;
              counted = it.1;
            }))
      ]

-- What a sink has taken, a row at a time, are the rows of an answer.
use Rattle.std.proofs.Common.{◌≡◌, ℕ, ◌++◌, List, [], ◌∷◌, Bool, false, map, Option, Some, None, inl, inr, refl, sym, ap, subst, ◌∙◌, append-nil, Result, Ok}
use Rattle.std.proofs.Common.{Err, IfOk, OnOk, rules, IsSome, MatchBool}
use Rattle.office_sql.proofs.Kit.{Key, Returning, Compiled, CompileError, Schema, Error, Select, Database, Returns, HasGiven, HasBegun, Held, state}
use Rattle.office_sql.proofs.Kit.{reads_listing, IsSourceOf, Row, overlay, State, HasCleanDisk, Survives, ShowsRows, IsUnchanged, FailsToShow, Term, Trees}
use Rattle.office_sql.proofs.Kit.{IsAnswer, command_of, EndsIn, begins_shown, unchanged_then, survives_weaker}
use Rattle.sqlite.specs.Clock.{timed}
use Rattle.sqlite.specs.Listing.{understood}
use Rattle.sqlite.specs.Query.{Query}
use Rattle.sqlite.specs.State.{Shown, IsNotRun, FailsToQuery, CommitsShowing}
use Rattle.sqlite.specs.Store.{Ghosts}
use Rattle.office_tables.specs.Prelude.{Visits, Tables}
use Rattle.office_sql.specs.Prelude.{OfficeTable, SqlReads, HasOffice, Rests, office_schema, rows_in, tree_of, scan, IsOffice, tables_in, HasVisited}
use Rattle.office_sql.proofs.Asked.{unchanged_rests, undone_rests}
use Rattle.office_sql.proofs.Bare.{IsBare, bare_understood}
use Rattle.office_sql.proofs.LedgerAsked.{IsReadAs, shows_as}
use Rattle.office_sql.proofs.Reading.{IsRead, read_as, scanned_of}
use Rattle.office_sql.proofs.Scan.{Scanned}

-- ---- a text without RETURNING
is_none : (o : Option Returning) → ¬ IsSome o → o ≡ None
is_none None never = refl
is_none (Some r) never = absurd (never (search rules))

some_none : (o : Option Returning) → o ≡ None → ¬ IsSome o
some_none None e some = absurd (cc)
some_none (Some r) e some = absurd (let f = e in cc)

pub bare_returns : (text : List ℕ) → IsBare text → (schema : Schema) → ¬ Returns (understood schema text)
bare_returns text is schema = go (understood schema text) refl
  where
    go : (r : Result Compiled CompileError) → understood schema text ≡ r → ¬ Returns r
    go (Ok c) e some = some_none c.returning (bare_understood text is schema c e) some
    go (Err f) e some = some

module _ (sql : List ℕ) (params : Row) (old new : State) (never : ¬ Returns (understood old.now.schema sql)) where
  unreturned : (c : Compiled) → understood old.now.schema sql ≡ Ok c → c.returning ≡ None
  unreturned c is = is_none c.returning (λ some. never (subst Returns (sym is) some))

  nothing_commits : (db : Trees) → ¬ CommitsShowing sql params old db
  unfolding CommitsShowing
  nothing_commits db h = never (subst Returns (sym h.1.is) h.2)

  pub commits_nothing : Survives old new (CommitsShowing sql params old) → Survives old new (λ _. ⊥)
  commits_nothing = survives_weaker old new _ _ (λ _ db. nothing_commits db)

  -- a query that fails leaves what was there, or the last commit
  pub refused_rests : (e : Error) → FailsToQuery sql params old new e → Rests old new
  unfolding FailsToQuery IsNotRun
  refused_rests e (inl (inl h)) = unchanged_rests old new h.1
  refused_rests e (inl (inr h)) = undone_rests old new h.3
  refused_rests e (inr h) = unchanged_rests old new (subst (FailsToShow old new sql h.0 (timed params h.0.formats h.1.now) e) (unreturned h.0 h.1.is) h.2).3

-- an answer is one of a connection that was as it is
pub shown_from : (sql : List ℕ) (params : Row) (first old new : State) (rows : List Row)
    → ¬ Returns (understood first.now.schema sql) → IsUnchanged first old
    → Shown sql params old new rows → Shown sql params first new rows
unfolding Shown
shown_from sql params first old new rows never same h =
    let full = timed params h.0.formats h.1.now in
    let is = subst (λ (d : Database). understood d.schema sql ≡ Ok h.0) same.0.now_is h.1.is in
    let none = unreturned sql params first new never h.0 is in
    let it = subst (ShowsRows old new sql h.0 full rows) none h.2 in (
      h.0,
      record { is = is; whole = h.1.whole; given = h.1.given; now = h.1.now },
      subst (ShowsRows first new sql h.0 full rows) (sym none) (
        it.0,
        subst (λ (d : Database).
            IsSourceOf (reads_listing d.schema sql) d it.0)
            same.0.now_is it.1,
        it.2,
        unchanged_then first old new same it.3,
      ),
    )

pub begun : {S : Type 0} (g : Ghosts S) (sql : List ℕ) (params : Row) (old new : Held S) → ¬ Returns (understood old.schema sql) → HasBegun g sql params old new
    → HasGiven g sql params new [] × IsUnchanged (state g old) (state g new)
begun g sql params old new never (inl h) = h
begun g sql params old new never (inr h) = absurd (never h.0)

-- ---- a row more
pub joined : (given more : List Row) (row : Row) → given ++ row ∷ more ≡ (given ++ row ∷ []) ++ more
joined [] more row = refl
joined (x ∷ given) more row = ap (λ l. x ∷ l) (joined given more row)

module _ {K R : Type 0} (takes : K → R → Bool → K → Type 0) (reads : Row → R) (before mid : K) (given : List Row)
    (so_far : (more : List Row) (last : K) → Visits takes mid (map reads more) last → Visits takes before (map reads (given ++ more)) last) where
  -- a visit of more rows is one of those that were given, with this one, and more
  pub one_more : (row : Row) (item : R) (goes_on : Bool) (next : K) → item ≡ reads row → takes mid item goes_on next → (more : List Row) (last : K)
      → MatchBool goes_on (Visits takes next (map reads more) last) (last ≡ next) → Visits takes before (map reads ((given ++ row ∷ []) ++ more)) last
  one_more row item goes_on next is took more last rest =
      subst (λ l.
      Visits takes before (map reads l) last) (joined given more row) (so_far (row
      ∷ more) last (goes_on, next, subst (λ x. takes mid x goes_on next) is took, rest))

  pub no_more : Visits takes before (map reads given) mid
  no_more = subst (λ l. Visits takes before (map reads l) mid) (append-nil given) (so_far [] mid refl)

-- a connection that is as it was is as it is
pub still : (old new : State) → IsUnchanged old new → IsUnchanged new new
still old new same = (
  record { was_open = same.0.is_open; is_open = same.0.is_open; now_is = refl; committed_is = refl; mode = refl },
  record { changes = refl; last_rowid = refl },
  refl,
)

module _ (text : List ℕ) (body : Query) (read : IsReadAs office_schema text body) (params : Row) (old new : State)
    (has : old.now.schema ≡ office_schema) (same : IsUnchanged old new) where
  abbrev Answers : List Row → Type 0
  Answers rows = IsAnswer body (overlay old.now.trees []) params rows

  answers : (first : State) → first.now ≡ old.now → (rows : List Row) → Shown text params first new rows → Answers rows
  answers first is rows h =
      subst (λ (d : Database). IsAnswer body (overlay d.trees []) params rows) is
      (shows_as text body read params first new (ap (λ (d : Database). d.schema) is ∙ has) rows h)

  -- what a sink has visited are rows that the text means
  pub visited_rows : {K R : Type 0} (takes : K → R → Bool → K → Type 0) (reads : Row
      → R) (before after : K) → HasVisited takes reads text params old new before after
      → (rows : List Row) × Answers rows × Visits takes before (map reads rows) after
  visited_rows takes reads before after (given, inl h) = (given, answers old refl given h.0, h.1)
  visited_rows takes reads before after (given, inr h) =
      let whole = begins_shown text params new new given h.0 (still old new same) (λ c db it source.
      let is : c.command ≡ Select (record { lets = []; body = body }) read.names =
      ap command_of (sym it.is ∙ ap (λ s. understood s text) (ap (λ (d : Database). d.schema) same.0.now_is ∙ has)) ∙ read.is in
      subst (λ k. EndsIn k db (timed params c.formats it.now)) (sym is) tt) in
      (given ++ whole.0, answers new same.0.now_is (given ++ whole.0) whole.1, h.1 whole.0)

module _ {S : Type 0} (g : Ghosts S) (text : List ℕ) (body : Query)
    (read : IsReadAs office_schema text body) (params values : Row) (bound : params ≡ values) (old new : Held S) where
  -- a sink that visits the office's database, with these values for the parameters, takes what the text means
  pub visits_as : {K R : Type 0} (takes : K → R → Bool → K → Type 0) (reads : Row
      → R) (r : Result (Unit {0}) Error) (before after : K) (kept : Tables → List R)
      → HasOffice (state g old)
      → ((rows : List Row) → IsOffice (state g old).now
      → IsAnswer body (overlay (state g old).now.trees []) values rows
      → map reads rows ≡ kept (tables_in (state g old).now.trees))
      → (HasCleanDisk (state g new)
      → OnOk r (HasVisited takes reads text params (state g old) (state g new) before after))
      → (HasCleanDisk (state g new) → OnOk r (IsUnchanged (state g old) (state g new)))
      → (HasCleanDisk (state g new) → Rests (state g old) (state g new))
      → (old.in_transaction ≡ false → new.in_transaction ≡ false)
      → Survives (state g old) (state g new) (λ _. ⊥)
      → SqlReads g old new r (λ t _. Visits takes before (kept t) after)
  visits_as takes reads r before after kept has answer visited same rests mode crash =
      record {
        answer = λ clean. said r (visited clean) (same clean);
        same = same;
        rests =
            rests;
        mode = mode;
        crash = crash;
      }
    where
      said : (r : Result (Unit {0}) Error)
          → OnOk r (HasVisited takes reads text params (state g old) (state g new) before after)
          → OnOk r (IsUnchanged (state g old) (state g new))
          → IfOk r (λ _. Visits takes before (kept (tables_in (state g old).now.trees)) after)
      said (Ok x) h s =
          let office = has s.0.was_open in
          let it = visited_rows text body read params (state g old) (state g new) office.schema s takes reads before after h in
          subst (λ l.
          Visits takes before l after) (answer it.0 office (subst (λ p.
          IsAnswer body (overlay (state g old).now.trees []) p it.0)
          bound it.1)) it.2
      said (Err e) h s = tt

module _ {S : Type 0} (g : Ghosts S) {text : List ℕ} {table : OfficeTable} {tests shown : List Term} {keys : List (Term × Key)}
    (read : IsRead office_schema text table tests shown keys) (params values : Row) (bound : params ≡ values) (old new : Held S) where
  -- a sink that visits one table of the office's database, with these values for the parameters, takes what the text means
  pub visits : {K R : Type 0} (takes : K → R → Bool → K → Type 0) (reads : Row → R) (r : Result (Unit {0}) Error) (before after : K) (kept : Tables → List R)
      → HasOffice (state g old)
      → ((rows : List Row) → IsOffice (state g old).now
      → Scanned tests shown keys values (rows_in (state g old).now.trees table) rows
      → map reads rows ≡ kept (tables_in (state g old).now.trees))
      → (HasCleanDisk (state g new)
      → OnOk r (HasVisited takes reads text params (state g old) (state g new) before after))
      → (HasCleanDisk (state g new) → OnOk r (IsUnchanged (state g old) (state g new)))
      → (HasCleanDisk (state g new) → Rests (state g old) (state g new))
      → (old.in_transaction ≡ false → new.in_transaction ≡ false)
      → Survives (state g old) (state g new) (λ _. ⊥)
      → SqlReads g old new r (λ t _. Visits takes before (kept t) after)
  visits takes reads r before after kept has answer =
      visits_as g text (scan (tree_of table) tests shown keys) (read_as read) params values bound old new
      takes reads r before after kept has
      (λ rows office a. answer rows office (scanned_of read (state g old).now.trees values rows a))

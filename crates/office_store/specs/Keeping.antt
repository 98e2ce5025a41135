-- What a connection says to the clauses of a keeper.
use Rattle.std.specs.Prelude.{◌≡◌, ℕ, List, IsTrue}
use Rattle.sqlite.specs.Store.{Ghosts}
use Rattle.sqlite.specs.Tree.{Trees}
use Rattle.sqlite.specs.State.{HasCleanDisk}
use Rattle.sqlite.specs.Held.{Held, state}
use Rattle.office_tables.specs.Prelude.{Tables}
use Rattle.office_sql.specs.Prelude.{tables_in}
use Rattle.store_inspection.specs.Prelude.{HoldsSite}

module _ {S : Type 0} (g : Ghosts S) where
  -- the tables that were last committed. At rest a statement sees them too
  abbrev pub tables_of : Held S → Tables
  tables_of h = tables_in (state g h).committed.trees

  abbrev pub is_open_at : Held S → Type 0
  is_open_at h = IsTrue (state g h).is_open

  abbrev pub is_honest_at : Held S → Type 0
  is_honest_at h = HasCleanDisk (state g h)

  -- what a crash may leave, as tables
  abbrev pub may_leave_at : Held S → Tables → Type 0
  may_leave_at h t = (db : Trees) × (state g h).may_leave db × (t ≡ tables_in db)

  -- whatever a crash may leave tells of this text of its site: it holds the text, and meta its SHA-256
  abbrev pub tells_text_at : Held S → List ℕ → Type 0
  tells_text_at h text = (db : Trees) → (state g h).may_leave db → HoldsSite text db

-- commits aren't counted
abbrev pub commits_at : {S : Type 0} → Held S → ℕ
commits_at h = 0

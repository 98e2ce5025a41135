-- The steps of a commit.
use Rattle.std.proofs.Common.{◌≡◌, ℕ, zero, suc, ◌<◌, get_or, take, length, List, [], ◌∷◌, ◌++◌, refl, subst, ◌∙◌, arith}
use Rattle.office_sql.proofs.Kit.{State, Database}
use Rattle.office_tables.specs.declared.rows.Write.{Write}
use Rattle.office_tables.specs.Prelude.{Tables, CanWrite, IsFree, Written}
use Rattle.office_tables.proofs.Writing.{Written_push}
use Rattle.office_sql.specs.Prelude.{HasMade, IsInside, WritesAllRows, WritesRows, Wrote, tables_in}

-- the write at an index finds its key free
pub free_at : (ws : List Write) (i : ℕ) (w : Write) (t mid : Tables) → i < length ws
    → w ≡ get_or ws i w → CanWrite ws t → Written (take i ws) t mid → IsFree w mid
free_at [] i w t mid low is can h = absurd (omega arith)
free_at (v ∷ ws) zero w t mid low is can h = rw (is, h) can.0
free_at (v ∷ ws) (suc i) w t mid low is can h = free_at ws i w h.0 mid (omega arith) is (can.1 h.0 h.1) h.2

rows_push : (ws : List Write) (w : Write) (old mid new : Database) → WritesAllRows ws old mid → WritesRows w mid new → WritesAllRows (ws ++ w ∷ []) old new
rows_push [] w old mid new h step = (new, subst (λ m. WritesRows w m new) h step, refl)
rows_push (v ∷ ws) w old mid new h step = (h.0, h.1, rows_push ws w h.0 mid new h.2 step)

pub made_more : (done : List Write) (w : Write) (old mid new : State) → HasMade done old mid
    → Wrote w mid.now new.now → IsInside mid new → HasMade (done ++ w ∷ []) old new
made_more done w old mid new h step inside = record {
  office = λ _. step.office;
  written = record {
    tables = Written_push done w (tables_in old.now.trees) (tables_in mid.now.trees) (tables_in new.now.trees) h.written.tables step.made;
    rows = rows_push done w old.now mid.now new.now h.written.rows step.rows;
    told = step.told ∙ h.written.told;
  };
  committed = inside.committed ∙ h.committed;
  was_open = λ _. h.was_open inside.was_open;
  is_open = λ _. inside.is_open;
  goes_on = inside.goes_on;
}

-- What a read leaves of a connection that was ready.
use Rattle.std.proofs.Common.{◌≡◌, inl, inr, [], sym, ap, subst, ◌∙◌, IsTrue}
use Rattle.office_sql.proofs.Kit.{Database, State, IsUnchanged, KeepsCommit}
use Rattle.office_sql.specs.Prelude.{IsMade, Rests, IsReady, IsOffice, tables_in, told_in}

pub same_now : (old new : State) → IsReady old → Rests old new → IsTrue new.is_open → new.now ≡ old.now
same_now old new rest r up = elim (r.now up) [ inl e ↦ e | inr e ↦ e ∙ sym (rest.shows_committed (r.was_open up)) ]

-- what rests keeps the last commit
pub rests_keeps : (old new : State) → Rests old new → KeepsCommit old new
rests_keeps old new h = record { was_open = h.was_open; committed = h.committed }

-- no write is made by a read
pub none_made : (old new : State) → IsReady old → IsUnchanged old new → IsMade [] old new
none_made old new ready same = record {
  was_open = same.0.was_open;
  is_open = same.0.is_open;
  office = subst IsOffice (sym same.0.now_is) (ready.office same.0.was_open);
  written = record {
    tables = ap (λ (d : Database). tables_in d.trees) same.0.now_is;
    rows =
        same.0.now_is;
    told = ap (λ (d : Database). told_in d.trees) same.0.now_is;
  };
  committed = same.0.committed_is ∙ sym (ready.shows_committed same.0.was_open) ∙ sym same.0.now_is;
}

use Rattle.std.proofs.Common.{◌≡◌, ◌≤◌, drop}
use Rattle.office_tables.specs.Prelude.{Reads}
use Rattle.office_rules.specs.Prelude.{import_result, issued_in}
use Rattle.office_judges.specs.Prelude.{resumed, with_rows}
use Rattle.office_judges.proofs.import.merge_rows.Given as goal

-- the keeper was only read, and the rest of the rows leads from here to the answer, by the tables at the start
abbrev pub invariant-loop-row : goal.invariant-loop-row
invariant-loop-row g l =
    let k = g.K.Keep in
    let given = issued_in l.issuer (k.tables l.fn.keep) in
    record {
      read_only : Reads k.is_open k.is_honest k.may_leave k.tells_text k.tables k.commits l.fn.keep l.keep;
      stays_open : k.is_honest l.keep → k.is_open l.keep;
      left : k.is_open l.keep
          → resumed l.added.items l.present
          (import_result (with_rows l.added.items given) (drop l.row-index l.rows))
          ≡ import_result given l.rows;
      fits : l.present ≤ l.row-index;
    }

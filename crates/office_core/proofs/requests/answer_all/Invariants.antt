use Rattle.std.proofs.Common.{◌≡◌, ◌+◌, ◌≤◌, ◌++◌, List, length, map, take, zip, vec_len, vec_capacity}
use Rattle.std.specs.List.{AllByRecursion}
use Rattle.http_replies.specs.Prelude.{answer_of}
use Rattle.http_replies.specs.declared.Reply.{Reply}
use Rattle.site_core.specs.Prelude.{ownership_of}
use Rattle.office_tables.specs.Prelude.{Stands, Tables}
use Rattle.office_laws.proofs.Seats.{IsSeatOf}
use Rattle.office_core.specs.Prelude.{Answered, calls_in}
use Rattle.office_core.proofs.requests.answer_all.Given as goal

-- the requests so far with their replies are a run, and there is room for the other replies
abbrev pub invariant-loop-asked : goal.invariant-loop-asked
invariant-loop-asked g l =
    let k = g.K.Keep in
    let calls = calls_in l.site (take l.asked-index l.requests) in
    record {
      taken : vec_len l.replies ≡ vec_len l.fn.replies + l.asked-index;
      capacity : vec_capacity l.fn.replies ≤ vec_capacity l.replies;
      was_open : k.is_open l.keep → k.is_open l.fn.keep;
      was_honest : k.is_honest l.keep → k.is_honest l.fn.keep;
      seats : AllByRecursion (IsSeatOf (ownership_of l.site)) calls;
      run : (added : List Reply) × (l.replies.items ≡ l.fn.replies.items ++ added) × (length added ≡ length calls)
          × (k.is_honest l.keep → (t : Tables) → Stands k.is_open k.tables l.fn.keep t
          → (t2 : Tables) × Answered k l.fn.keep l.keep (zip calls (map answer_of added)) t t2);
    }

use Rattle.std.proofs.Common.{◌≡◌, ◌+◌, ◌≤◌, length, drop, take, vec_len, vec_capacity}
use Rattle.std.specs.List.{AllByRecursion}
use Rattle.office_tables.specs.Prelude.{Stands, Tables}
use Rattle.office_core.specs.Prelude.{Answered, calls_of_parts, exchanges_of_parts}
use Rattle.office_core.proofs.Parts.{HasSeats}
use Rattle.office_core.proofs.requests.replay_parts.Given as goal

-- the parts so far are answered, and there is room for the replies to the others
abbrev pub invariant-loop-part : goal.invariant-loop-part
invariant-loop-part g l =
    let k = g.K.Keep in
    let done = take l.part-index l.parts in
    record {
      room : vec_len l.replies + length (calls_of_parts (drop l.part-index l.parts)) ≤ vec_capacity l.replies;
      was_open : k.is_open l.keep → k.is_open l.fn.keep;
      was_honest : k.is_honest l.keep → k.is_honest l.fn.keep;
      count : length l.replies.items ≡ length (calls_of_parts done);
      seats : AllByRecursion HasSeats done;
      run : k.is_honest l.keep → (t : Tables) → Stands k.is_open k.tables l.fn.keep t
          → (t2 : Tables) × Answered k l.fn.keep l.keep (exchanges_of_parts done l.replies.items) t t2;
    }

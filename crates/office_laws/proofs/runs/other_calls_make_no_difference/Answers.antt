use Rattle.std.proofs.Common.{List, ℕ}
use Rattle.office_laws.specs.Prelude.{exchanges_of, IsIsolated, SeatRun}
use Rattle.office_laws.proofs.RunLaws.{isolated, same_from_same}
use Rattle.office_laws.proofs.runs.other_calls_make_no_difference.Goals as goal

alone_in : (customer : List ℕ) (r : SeatRun) → IsIsolated customer r.exchanges r.old r.new
alone_in customer r =
    isolated customer r.first r.exchanges r.last r.old r.new r.is_sound r.are_seats r.is_run

pub returns : goal.returns
returns c = λ customer r other alike.
    same_from_same customer (exchanges_of customer r.exchanges) r.old r.new
    (exchanges_of customer other.exchanges) other.old other.new (alone_in customer r)
    (alone_in customer other) alike.0 alike.1

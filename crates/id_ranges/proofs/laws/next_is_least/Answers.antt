use Rattle.id_ranges.proofs.NextNumbers.{least_is_next, next_is_least, next_none, none_is_left}
use Rattle.id_ranges.proofs.laws.next_is_least.Goals as goal

pub returns-clause-next : goal.returns-clause-next
returns-clause-next c cursor given r n = (next_is_least cursor given r n, least_is_next cursor given r n)

pub returns-clause-none : goal.returns-clause-none
returns-clause-none c cursor given r =
    (none_is_left cursor given r, λ all. next_none cursor given r (λ k low from high. all k (low, high) from))

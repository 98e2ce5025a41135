-- By the lemmas on a run.
use Rattle.seat_runs.proofs.Moving.{expected_stays}
use Rattle.seat_runs.proofs.Staying.{recorded_at, stays}
use Rattle.seat_runs.proofs.laws.what_a_plan_tells_is_recorded.Goals as goal

pub returns-clause-reply : goal.returns-clause-reply
returns-clause-reply c = λ r m chip plans_it done. recorded_at r m chip plans_it done

pub returns-clause-stays : goal.returns-clause-stays
returns-clause-stays c = λ r customer chip d there awaits.
    stays customer chip d awaits r.first r.exchanges r.last r.old r.new r.is_sound r.are_seats r.is_run there

pub returns-clause-expected : goal.returns-clause-expected
returns-clause-expected c = λ r customer chip d m there named.
    expected_stays customer chip m r.first r.exchanges r.last r.old r.new r.is_sound r.are_seats r.is_run d there named

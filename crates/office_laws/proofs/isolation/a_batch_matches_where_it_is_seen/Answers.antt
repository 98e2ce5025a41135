use Rattle.office_laws.proofs.Matching.{device_matches, matches_where_seen}
use Rattle.office_laws.proofs.isolation.a_batch_matches_where_it_is_seen.Goals as goal

pub returns-clause-verdict : goal.returns-clause-verdict
returns-clause-verdict c = λ owners t customer chip d m words sound there named fit.
    device_matches sound customer chip d m words there named fit

pub returns-clause-reply : goal.returns-clause-reply
returns-clause-reply c = λ x.
    matches_where_seen x.old x.is_sound x.section x.seat x.is_seat x.request x.reply x.new x.is_step

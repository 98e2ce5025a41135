use Rattle.station_api.proofs.Living.{lives_promised, lives_run}
use Rattle.station_api.proofs.laws.lives_are_one_run.Goals as goal

pub returns-clause-run : goal.returns-clause-run
returns-clause-run c = λ lives t t2 are. lives_run lives t t2 are

pub returns-clause-promises : goal.returns-clause-promises
returns-clause-promises c = λ first lives t t2 begun grown sound are. lives_promised first lives t t2 begun grown sound are

use Rattle.station_api.proofs.KeptRuns.{run_kept}
use Rattle.station_api.proofs.laws.requests_keep_the_books.Goals as goal

pub returns : goal.returns
returns c = λ r. run_kept r

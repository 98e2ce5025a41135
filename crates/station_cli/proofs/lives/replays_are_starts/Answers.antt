use Rattle.std.proofs.Common.{refl}
use Rattle.http_frames.specs.Prelude.{requests_with_answers}
use Rattle.station_cli.proofs.lives.replays_are_starts.Goals as goal

pub returns : goal.returns
returns g c = λ site absent files traffic ended served. (
  record {
    opened = served.opened;
    last = served.last;
    opens = served.opens;
    leads = (requests_with_answers served.leads.0, served.leads.2, served.leads.3);
    was_honest = served.was_honest;
    leaves = served.leaves;
  },
  refl,
)

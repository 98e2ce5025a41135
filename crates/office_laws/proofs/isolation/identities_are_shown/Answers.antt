use Rattle.office_laws.proofs.Shown.{record_shown}
use Rattle.office_laws.proofs.isolation.identities_are_shown.Goals as goal

pub returns : goal.returns
returns c = λ owners t s seat chip g sound there mine its. record_shown sound s seat chip g there mine its

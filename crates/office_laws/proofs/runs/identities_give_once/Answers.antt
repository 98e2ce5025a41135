use Rattle.office_laws.proofs.Giving.{gives_once}
use Rattle.office_laws.proofs.Moments.{addresses_stay, moment, not_imported_before}
use Rattle.office_laws.proofs.runs.identities_give_once.Goals as goal

pub returns-clause-given : goal.returns-clause-given
returns-clause-given c =
    λ r. gives_once r.first r.exchanges r.last r.old r.new r.is_sound r.are_seats r.is_run

pub returns-clause-imported : goal.returns-clause-imported
returns-clause-imported c = λ r front back middle cut given.
    not_imported_before middle r.new given.gifts (moment r front back middle cut).2 given.imported

pub returns-clause-addresses : goal.returns-clause-addresses
returns-clause-addresses c = λ r front back middle g cut stands.
    let now = moment r front back middle cut in
    addresses_stay middle r.new now.1 now.2 g stands

use Rattle.site_core.proofs.Owners.{section_owned, seat_owned, owners_apart}
use Rattle.site_core.proofs.ownership.sections_are_the_customers_own.Goals as goal

pub returns-clause-section : goal.returns-clause-section
returns-clause-section c = section_owned

pub returns-clause-seat : goal.returns-clause-seat
returns-clause-seat c = seat_owned

pub returns-clause-apart : goal.returns-clause-apart
returns-clause-apart c = owners_apart

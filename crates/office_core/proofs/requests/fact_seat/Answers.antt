use Rattle.site_core.proofs.Owners.{owners_apart, seat_owned, section_owned}
use Rattle.office_core.proofs.requests.fact_seat.Goals as goal

pub returns-clause-apart : goal.returns-clause-apart
returns-clause-apart c = owners_apart c.args.site.now c.customer-customer.ensures.site

pub returns-clause-seat : goal.returns-clause-seat
returns-clause-seat c = record {
  section = section_owned c.args.site.now c.args.asked.now.caller c.customer-customer.ensures.site c.requires;
  seat = seat_owned c.args.site.now c.args.asked.now.caller c.customer-customer.ensures.site c.requires;
  wanted = c.fact_in_range.ensures.asked;
}

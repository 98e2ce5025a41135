use Rattle.std.proofs.Common.{rules}
use Rattle.std.proofs.lemmas.Result.{err_from_is_err_and}
use Rattle.office_judges.proofs.Refused.{refuses}
use Rattle.office_judges.proofs.Registered.{refused_with, registration_judged}
use Rattle.office_judges.proofs.registration.judge_with_map.Goals as goal

pub returns-in_err-row : goal.returns-in_err-row
returns-in_err-row g c =
    let p = err_from_is_err_and c.from_residual.result c.from_residual.ensures.1 in
    rw (p.1, p.2) (record {
      read_only = c.device_to_register.ensures.read_only;
      stays_open = c.in_err-row.ensures.stays_open;
      answer = λ is.
          let seat = c.args.seat.now in
          let known = c.requires (c.device_to_register.ensures.read_only.was_open is) in
          refuses (refused_with c.args.customer.now seat (g.K.Keep.tables c.args.keep.now) c.args.device.now
          c.args.map.now known _) (c.in_err-row.ensures.answer is seat);
    })

pub returns : goal.returns
returns g c = record {
  read_only = search rules;
  stays_open = search rules;
  answer = λ is.
      let seat = c.args.seat.now in
      let before = c.step_writes.ensures.read_only.was_open is in
      let first = c.device_to_register.ensures.read_only.was_open before in
      let row = c.in_ok-row.ensures.answer before seat in
      let written =
      rw (
        c.in_ok-new.ensures,
        c.name-customer.ensures,
        c.first_step.ensures,
        c.device_to_register.ensures.read_only.same before,
        row.1,
      ) at (c.in_ok-writes.ensures.answer is) in
      registration_judged c.args.customer.now seat (g.K.Keep.tables c.args.keep.now) c.args.device.now c.args.map.now
      (c.requires first) (record { body = c.in_ok-body.body; writes = c.in_ok-writes.writes }) row.0 written (rw row.1 at c.in_ok-body.ensures);
}

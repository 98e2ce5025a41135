use Rattle.std.proofs.Common.{rules}
use Rattle.std.proofs.lemmas.Result.{err_from_is_err_and}
use Rattle.office_rules.specs.Prelude.{rule_of}
use Rattle.office_judges.specs.Prelude.{IsAccepted}
use Rattle.office_judges.proofs.Accepting.{IsFound, action_judged, action_refused, found_with}
use Rattle.office_judges.proofs.Refused.{refuses}
use Rattle.office_judges.proofs.act.judge_action.Goals as goal

pub returns-in_err-step : goal.returns-in_err-step
returns-in_err-step g c =
    let at = c.from_residual-in_err-step in
    let p = err_from_is_err_and at.result at.ensures.1 in
    rw (p.1, p.2) (record {
      read_only = search rules;
      stays_open = search rules;
      answer = λ is.
          let s = c.args.customer.now in
          let t = g.K.Keep.tables c.args.keep.now in
          let found : IsFound s t c.args.chip.now c.in_ok-found.found.device c.in_ok-map.map.now =
          found_with s t c.args.chip.now c.in_ok-found.found _ (rw c.in_ok-found.ensures.ok_part
          at (c.in_ok-find_device.ensures.answer is)) c.in_ok-map.ensures in
          refuses (action_refused s c.args.seat.now t c.args.chip.now _ _ found c.args.action.now _) c.in_err-step.ensures;
    })

pub returns : goal.returns
returns g c = record {
  read_only = search rules;
  stays_open = search rules;
  answer = λ is.
      let s = c.args.customer.now in
      let seat = c.args.seat.now in
      let action = c.args.action.now in
      let t = g.K.Keep.tables c.args.keep.now in
      let chip = c.args.chip.now in
      let d = c.in_ok-found.found.device in
      let m = c.in_ok-map.map.now in
      let before = c.accept_step.ensures.read_only.was_open is in
      let found : IsFound s t chip d m =
      found_with s t chip c.in_ok-found.found m (rw c.in_ok-found.ensures.ok_part
      at (c.in_ok-find_device.ensures.answer before)) c.in_ok-map.ensures in
      let acted = c.in_ok-step.ensures in
      let does = (rule_of action).does m d in
      let accepted : IsAccepted s seat t does.0 does.1 c.in_ok-accept_step.field-0 =
      rw (c.find_device.ensures.read_only.same before, acted.1.0, acted.1.1)
      at (c.in_ok-accept_step.ensures.answer is) in
      action_judged s seat t chip d m found action c.in_ok-accept_step.field-0 acted.0 accepted;
}

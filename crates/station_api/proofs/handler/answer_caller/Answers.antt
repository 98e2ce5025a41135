use Rattle.std.proofs.Common.{subst, sym}
use Rattle.http_replies.specs.Prelude.{answer_of}
use Rattle.station_api.specs.Prelude.{ParsedOrUnkept, HandlerSteps, SaysRefusal, exchange_asked}
use Rattle.station_requests.specs.Prelude.{parse_request, kind_of_caller}
use Rattle.station_api.proofs.Answering.{asked_is, refused_caller, refused_said, refused_answers_nothing, unchanged}
use Rattle.station_api.proofs.handler.answer_caller.Goals as goal
use Rattle.office_commands.specs.Prelude.{unkept}

pub returns-in-Ok : goal.returns-in-Ok
returns-in-Ok g c = λ request framed.
    let site = c.args.handler.now.site.now in
    let caller = c.args.caller in
    let wanted = asked_is (parse_request (kind_of_caller caller) request) c.in-Ok.parsed unkept (c.in-Ok.ensures.asked request framed) in
    subst (λ w.
    HandlerSteps g.K.Keep (SaysRefusal w) (exchange_asked site caller w)
    (ParsedOrUnkept site caller w) c.args.keep.now (answer_of c.answer_parsed.result)
    c.answer_parsed.new.keep)
    (sym wanted) c.answer_parsed.ensures

pub returns-in-Err : goal.returns-in-Err
returns-in-Err g c = λ request framed.
    let caller = c.args.caller in
    let is = c.in-Err.ensures.asked request framed in
    unchanged _ _ _ _ _ _ (refused_said (parse_request (kind_of_caller caller) request) _ c.in-Err.reason is c.refusal_reply.ensures)
    (refused_answers_nothing c.args.handler.now.site.now caller (parse_request (kind_of_caller caller) request) _ c.in-Err.reason is c.refusal_reply.ensures)
    (λ t. refused_caller c.args.handler.now.site.now caller (parse_request (kind_of_caller caller) request) t _ c.in-Err.reason is c.refusal_reply.ensures)

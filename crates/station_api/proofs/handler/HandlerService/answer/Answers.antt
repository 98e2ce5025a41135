use Rattle.std.proofs.Common.{◌≡◌, Some, sym, ap, refl, ◌∙◌, option_and_then}
use Rattle.site_core.specs.Prelude.{caller_of}
use Rattle.station_api.specs.Prelude.{caller_at}
use Rattle.station_api.proofs.Answering.{unchanged, known_caller}
use Rattle.station_api.proofs.handler.HandlerService.answer.Goals as goal

pub returns-in_default : goal.returns-in_default
returns-in_default g c = λ request framed.
    let token = sym (c.in_default.ensures request framed) in
    unchanged _ _ _ _ _ _ (rw token c.unknown_token.ensures) (rw token tt) (λ t. rw token (c.unknown_token.ensures, refl))

pub returns-in-Some-who : goal.returns-in-Some-who
returns-in-Some-who g c = λ request framed.
    let site = c.args.self.now.site.now in
    let found : caller_at site request ≡ Some c.in-Some-who.caller =
    ap (option_and_then (caller_of site)) (sym (c.in-Some.ensures request framed)) ∙ sym c.in-Some-who.ensures.value in
    known_caller g.K.Keep site c.in-Some-who.caller request _ _ _ found (c.answer_caller.ensures request framed)

pub returns-in-None : goal.returns-in-None
returns-in-None g c = λ request framed.
    let token = sym (c.in-Some.ensures request framed) in
    let caller = sym c.in-None.ensures.value in
    unchanged _ _ _ _ _ _ (rw (token, caller) c.unknown_token-in-None.ensures)
    (rw (token, caller) tt) (λ t. rw (token, caller) (c.unknown_token-in-None.ensures, refl))

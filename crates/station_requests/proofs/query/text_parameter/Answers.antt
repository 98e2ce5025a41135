use Rattle.text_core.proofs.Kit.{false_from_ne_true, is_utf8-from_IsUtf8, IsUtf8-from_is_utf8, refl}
use Rattle.station_requests.proofs.query.text_parameter.Goals as goal

pub returns-in-Ok : goal.returns-in-Ok
returns-in-Ok c = rw (c.in-Once.ensures, is_utf8-from_IsUtf8 _ c.in-Ok.ensures.cases.1, c.in-Ok.ensures.cases.0) refl

pub returns-in-Err : goal.returns-in-Err
returns-in-Err c = rw (c.in-Once.ensures, false_from_ne_true _ (λ is. c.in-Err.ensures.cases.0 (IsUtf8-from_is_utf8 _ is))) refl

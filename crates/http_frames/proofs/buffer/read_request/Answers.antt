use Rattle.std.proofs.Common.{sym, subst, refl}
use Rattle.http_frames.specs.Prelude.{IsUndecided, IsLook}
use Rattle.http_frames.proofs.BufferLemmas.{cut_off}
use Rattle.http_frames.proofs.buffer.read_request.Goals as goal

pub returns-in-Moved-eq0-2-clause-framed : goal.returns-in-Moved-eq0-2-clause-framed
returns-in-Moved-eq0-2-clause-framed g c =
    let undecided = subst (IsLook c.look.new.self.window c.look.new.self.spans) c.in_default.is c.look.ensures.look in
    let still = sym (c.in-Moved-eq0.ensures.still c.in-Moved-eq0.field-0-test) in
    cut_off c.fill.new.self.window (subst IsUndecided still undecided.0) (λ empty. let yes = c.if-is_empty.ensures.1 empty in cc)

pub returns-in-Failed-clause-framed : goal.returns-in-Failed-clause-framed
returns-in-Failed-clause-framed g c =
    let undecided = subst (IsLook c.look.new.self.window c.look.new.self.spans) c.in_default.is c.look.ensures.look in
    subst IsUndecided (sym (c.in-Failed.ensures.still refl)) undecided.0

use Rattle.std.proofs.Common.{sym, subst, ap, ◌∙◌}
use Rattle.http_frames.specs.Prelude.{IsCut, before_byte, after_byte}
use Rattle.http_frames.proofs.FieldsLemmas.{before_at, after_at, before_whole, after_whole}
use Rattle.http_frames.proofs.fields.split_once.Goals as goal

pub returns-in-Some-clause-before : goal.returns-in-Some-clause-before
returns-in-Some-clause-before c =
    let cut = subst (IsCut c.args.byte c.args.bytes.now) c.in-Some.is c.cut_at.ensures in
    sym (ap (before_byte c.args.byte) cut.0 ∙ before_at c.args.byte c.in-Some.parts.0.now c.in-Some.parts.1.now cut.1)

pub returns-in-Some-clause-after : goal.returns-in-Some-clause-after
returns-in-Some-clause-after c =
    let cut = subst (IsCut c.args.byte c.args.bytes.now) c.in-Some.is c.cut_at.ensures in
    sym (ap (after_byte c.args.byte) cut.0 ∙ after_at c.args.byte c.in-Some.parts.0.now c.in-Some.parts.1.now cut.1)

pub returns-in-None-clause-before : goal.returns-in-None-clause-before
returns-in-None-clause-before c =
    sym (before_whole c.args.byte c.args.bytes.now (subst (IsCut c.args.byte c.args.bytes.now) c.in-None.is c.cut_at.ensures))

pub returns-in-None-clause-after : goal.returns-in-None-clause-after
returns-in-None-clause-after c =
    sym (after_whole c.args.byte c.args.bytes.now (subst (IsCut c.args.byte c.args.bytes.now) c.in-None.is c.cut_at.ensures))

use Rattle.std.proofs.Common.{◌||◌, ◌∙◌, ap, sym, subst}
use Rattle.http_frames.specs.Prelude.{has_close, IsCut}
use Rattle.http_frames.proofs.FieldsLemmas.{has_close_at, has_close_whole}
use Rattle.http_frames.proofs.fields.lists_close.Goals as goal

pub returns-then-is_close : goal.returns-then-is_close
returns-then-is_close c =
    let rest = c.loop-piece.rest.now in
    let cut = subst (IsCut 44 rest) c.in-Some.is c.cut_at.ensures in
    sym (sym c.loop-piece.invariant ∙ has_close_at rest c.in-Some.piece.now c.in-Some.after.now cut.0 cut.1
    ∙ ap (λ t. t || has_close c.in-Some.after.now) (sym c.is_close.ensures ∙ c.if-is_close.true))

pub loop-piece-preserved : goal.loop-piece-preserved
loop-piece-preserved c =
    let rest = c.loop-piece.rest.now in
    let cut = subst (IsCut 44 rest) c.in-Some.is c.cut_at.ensures in
    sym (sym c.loop-piece.invariant ∙ has_close_at rest c.in-Some.piece.now c.in-Some.after.now cut.0 cut.1
    ∙ ap (λ t. t || has_close c.in-Some.after.now) (sym c.is_close.ensures ∙ c.if-is_close.false))

pub returns : goal.returns
returns c =
    let rest = c.loop-piece.rest.now in
    let none = subst (IsCut 44 rest) c.in_default.is c.cut_at.ensures in
    c.is_close-2.ensures ∙ sym (has_close_whole rest none) ∙ c.loop-piece.invariant

use Rattle.std.proofs.Common.{◌≡◌, ◌<◌, ◌∙◌, ap, sym, refl, true, false, length, arith, eq-eqb}
use Rattle.std.proofs.lemmas.Bool.Decides.{nat_tests}
use Rattle.http_frames.specs.Prelude.{some_token}
use Rattle.std.proofs.lemmas.List.{take_rest}
use Rattle.http_frames.proofs.FieldsLemmas.{bearer_token_by, no_token_unspaced, no_token_empty, some_token_of, past_end}
use Rattle.http_frames.proofs.fields.read_bearer.Goals as goal

pub returns-then-value-le6 : goal.returns-then-value-le6
returns-then-value-le6 c =
    let past = past_end c.args.value.now 6 c.if-value-le6.true in
    no_token_unspaced c.args.value.now (λ h. omega arith)

pub returns-then-not-is_same_ignoring_case : goal.returns-then-not-is_same_ignoring_case
returns-then-not-is_same_ignoring_case c =
    sym (bearer_token_by c.args.value.now false _ (sym c.is_same_ignoring_case.ensures ∙ c.if-not-is_same_ignoring_case.true) refl)

pub returns-then-value-ne32 : goal.returns-then-value-ne32
returns-then-value-ne32 c = no_token_unspaced c.args.value.now c.if-value-ne32.true

pub returns-then-is_empty : goal.returns-then-is_empty
returns-then-is_empty c =
    let token = simp take_rest at c.after_spaces-token.ensures in
    let none : length c.after_spaces-token.result.now ≡ 0 = grind (arith, nat_tests) in
    sym (bearer_token_by c.args.value.now true true (sym c.is_same_ignoring_case.ensures ∙ c.if-not-is_same_ignoring_case.false)
    (eq-eqb _ _ c.if-value-ne32.false)
    ∙ ap some_token (sym token) ∙ no_token_empty c.after_spaces-token.result.now none)

pub returns : goal.returns
returns c =
    let token = simp take_rest at c.after_spaces-token.ensures in
    let some : 0 < length c.after_spaces-token.result.now = grind (arith, nat_tests) in
    sym (bearer_token_by c.args.value.now true true (sym c.is_same_ignoring_case.ensures ∙ c.if-not-is_same_ignoring_case.false)
    (eq-eqb _ _ c.if-value-ne32.false)
    ∙ ap some_token (sym token) ∙ some_token_of c.after_spaces-token.result.now some)

use Rattle.std.proofs.Common.{◌≡◌, ◌∙◌, sym, true, get_or, arith}
use Rattle.std.specs.Char.{is_ascii_digit, digit_value}
use Rattle.std.proofs.lemmas.Bool.Decides.{nat_tests}
use Rattle.std.proofs.lemmas.Int.Digits.{digits_value_more}
use Rattle.http_frames.proofs.FieldsLemmas.{capped_step, list_all_more}
use Rattle.http_frames.proofs.fields.read_size.Goals as goal

pub loop-digit-preserved : goal.loop-digit-preserved
loop-digit-preserved c =
    let xs = c.args.value.now in
    let i = c.loop-digit.digit-index in
    let is_digit : is_ascii_digit (get_or xs i 0) ≡ true = sym c.is_ascii_digit.ensures.value ∙ c.if-not-is_ascii_digit.false in
    let digit : digit_value (get_or xs i 0) ≡ c.from.result = grind (arith, nat_tests) in
    let more = digits_value_more 10 xs i c.loop-digit-test.true in
    record {
      capped = c.min-size.ensures ∙ capped_step _ c.loop-digit.size c.from.result _ 65537 c.loop-digit.invariant.capped (omega arith);
      digits = list_all_more is_ascii_digit xs i 0 c.loop-digit-test.true c.loop-digit.invariant.digits is_digit;
    }

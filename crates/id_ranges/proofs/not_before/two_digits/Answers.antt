use Rattle.std.proofs.Common.{◌+◌, get_or, arith}
use Rattle.std.proofs.lemmas.Str.{digit_value_digit}
use Rattle.id_ranges.proofs.Times.{digit_pair}
use Rattle.id_ranges.proofs.not_before.two_digits.Goals as goal

pub overflow_sub-result : goal.overflow_sub-result
overflow_sub-result c =
    let d = digit_pair c.as_str.result.now c.as_str.ensures.is_one c.args.place c.requires in rw c.as_bytes-digits.ensures.value d.0.0

pub overflow_mul-result : goal.overflow_mul-result
overflow_mul-result c =
    let d = digit_pair c.as_str.result.now c.as_str.ensures.is_one c.args.place c.requires in
    rw c.as_bytes-digits.ensures.value (omega (arith, d.0.0, d.0.1))

pub overflow_sub-result-2 : goal.overflow_sub-result-2
overflow_sub-result-2 c =
    let d = digit_pair c.as_str.result.now c.as_str.ensures.is_one c.args.place c.requires in rw c.as_bytes-digits.ensures.value d.1.0

pub overflow_add-result-2 : goal.overflow_add-result-2
overflow_add-result-2 c =
    let d = digit_pair c.as_str.result.now c.as_str.ensures.is_one c.args.place c.requires in
    rw c.as_bytes-digits.ensures.value (omega (arith, d.0.0, d.0.1, d.1.0, d.1.1))

pub returns-clause-same : goal.returns-clause-same
returns-clause-same c =
    let text = c.as_str.result.now in
    let d = digit_pair text c.as_str.ensures.is_one c.args.place c.requires in
    let first = digit_value_digit (get_or text c.args.place 0) d.0 in
    let second = digit_value_digit (get_or text (c.args.place + 1) 0) d.1 in
    rw (c.as_bytes-digits.ensures.value, ← c.as_str.ensures.same) (omega (arith, first, second))

pub returns-clause-bound : goal.returns-clause-bound
returns-clause-bound c =
    let d = digit_pair c.as_str.result.now c.as_str.ensures.is_one c.args.place c.requires in
    rw c.as_bytes-digits.ensures.value (omega (arith, d.0.0, d.0.1, d.1.0, d.1.1))

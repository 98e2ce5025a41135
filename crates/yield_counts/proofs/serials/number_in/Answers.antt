use Rattle.std.proofs.Common.{◌≡◌}
use Rattle.text_core.proofs.Kit.{◌∙◌, ap, sym, arith, length, take, true, Some, bytes_eq, both_ways, not-true, bytes_eq-Decides}
use Rattle.id_ranges.proofs.Texts.{length-serial_text}
use Rattle.yield_counts.proofs.Digits.{front_of_text, number_is}
use Rattle.yield_counts.proofs.serials.number_in.Goals as goal
use Rattle.yield_counts.proofs.serials.number_in.Goals.{then-number-first-via-then-number-first, then-number-first-via-else-number-first+then-number-first-2}

pub returns-then-bytes-front-clause-found : goal.returns-then-bytes-front-clause-found
returns-then-bytes-front-clause-found c = λ n has text.
    let r = c.args.range.now in
    let size = length-serial_text r c.width.ensures.range n has in
    let front = ap length (c.as_bytes-front.ensures.value ∙ (c.as_str.ensures.same ∙ c.prefix-prefix.ensures)) in
    let bytes = ap length (c.as_bytes-bytes.ensures.value ∙ c.as_str-2.ensures.same) in
    absurd (c.if-bytes-front.true (omega (arith, size, front, bytes, ap length text, c.width.ensures.same, c.from.ensures)))

pub returns-then-ne-clause-found : goal.returns-then-ne-clause-found
returns-then-ne-clause-found c = λ n has text.
    let r = c.args.range.now in
    let front : c.as_bytes-front.result.now ≡ r.prefix = c.as_bytes-front.ensures.value ∙ (c.as_str.ensures.same ∙ c.prefix-prefix.ensures) in
    let bytes : c.as_bytes-bytes.result.now ≡ c.args.serial.now = c.as_bytes-bytes.ensures.value ∙ c.as_str-2.ensures.same in
    let cut = take (length c.as_bytes-front.result.now) c.as_bytes-bytes.result.now in
    let is : cut ≡ c.as_bytes-front.result.now = rw (front, bytes) (front_of_text r n c.args.serial.now text) in
    let same : bytes_eq cut c.as_bytes-front.result.now ≡ true = (bytes_eq-Decides _ _).1 is in
    absurd (both_ways (bytes_eq cut c.as_bytes-front.result.now) (not-true _ (sym c.if-ne.ensures)) same)

pub returns-then-number-first-clause-found : goal.returns-then-number-first-clause-found
returns-then-number-first-clause-found c = λ n has text.
    let r = c.args.range.now in
    let is = number_is r c.width.ensures.range n has c.args.serial.now text _ _
    (c.as_bytes-front.ensures.value ∙ (c.as_str.ensures.same ∙ c.prefix-prefix.ensures))
    (c.as_bytes-bytes.ensures.value ∙ c.as_str-2.ensures.same) _ c.number_of-number.ensures in
    elim c.then-number-first.branch [
      | then-number-first-via-then-number-first w ↦ absurd (omega (arith, is, has.0, has.1))
      | then-number-first-via-else-number-first+then-number-first-2 w ↦ absurd (omega (arith, is, has.0, has.1))
    ]

pub returns-clause-found : goal.returns-clause-found
returns-clause-found c = λ n has text.
    ap Some (number_is c.args.range.now c.width.ensures.range n has c.args.serial.now text _ _
    (c.as_bytes-front.ensures.value ∙ (c.as_str.ensures.same ∙ c.prefix-prefix.ensures))
    (c.as_bytes-bytes.ensures.value ∙ c.as_str-2.ensures.same) _ c.number_of-number.ensures)

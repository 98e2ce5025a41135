use Rattle.std.proofs.Common.{◌≡◌, ◌∙◌, false, Some, None, sym, ap, rules, is_some, nat_le}
use Rattle.text_core.proofs.Kit.{arith, nat_tests, none_from_test}
use Rattle.office_tables.specs.Prelude.{places_taken, device_at, order_at, rows_of}
use Rattle.fuse_image.specs.Prelude.{redacted}
use Rattle.office_rules.specs.Prelude.{device_of_registration, readback_refusals}
use Rattle.office_judges.proofs.Refused.{judged_as}
use Rattle.office_judges.proofs.device.device_to_register.Goals as goal

pub returns : goal.returns
returns g c = record {
  read_only = search rules;
  stays_open = search rules;
  answer = λ is seat.
      let s = c.args.customer.now in
      let d = c.args.device.now in
      let t = g.K.Keep.tables c.args.keep.now in
      let was = c.places_taken.ensures.read_only.was_open is in
      let first = c.device.ensures.read_only.was_open was in
      let same = c.order.ensures.read_only.same first in
      let still = c.device.ensures.read_only.same was ∙ same in
      let there : order_at s.name d.order t ≡ Some c.in_ok-order-2.order =
      rw c.name.ensures at (sym (c.in_ok-order.ensures.answer first) ∙ c.in_ok-order-2.ensures.ok_part) in
      let none = sym c.is_some.ensures ∙ c.if-is_some.false in
      let unknown = ap is_some (sym (c.in_ok-device.ensures.answer was)) ∙ none in
      let free : device_at s.name d.chip t ≡ None =
      none_from_test _ (rw (c.name-2.ensures, same) at unknown) in
      let o = c.in_ok-order-2.order.row in
      let taken : c.in_ok-places_taken.field-0 ≡ places_taken o.name (rows_of s.name t.devices) =
      rw (c.name-3.ensures, still) at (c.in_ok-places_taken.ensures.answer is) in
      let room : nat_le o.range.quantity (places_taken o.name (rows_of s.name t.devices)) ≡ false =
      grind (arith, nat_tests, taken, c.quantity.ensures, c.if-branch-quantity.false) in
      let m = c.args.map.now in
      rw (there, free, room) (judged_as (readback_refusals d.blocks m) (device_of_registration m d (redacted m d.blocks))
      c.device_of_chip.result c.device_of_chip.ensures);
}

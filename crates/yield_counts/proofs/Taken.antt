-- One more serial number is given.
use mathlib.Core.Path.{fun_ext}
use Rattle.std.proofs.Common.{◌≡◌, ◌-◌, ◌||◌}
use Rattle.text_core.proofs.Kit.{ℕ, Bool, true, false, not, List, length, filter, refl, sym, ap, ◌∙◌, arith, cond, bytes_eq, bytes_eq-Decides}
use Rattle.text_core.proofs.Kit.{false_from_ne_true}
use Rattle.id_ranges.specs.Prelude.{Range, TextSet, IsRange, is_unused, numbers, serial_text}
use Rattle.id_ranges.proofs.Texts.{same_number}
use Rattle.office_tables.proofs.Places.{same_both_ways}
use Rattle.text_core.proofs.Kit.{text_itself}
use Rattle.std.proofs.Common.{map}
use Rattle.std.proofs.lemmas.List.Elements.{All-map}
use Rattle.yield_counts.specs.declared.left.RangeLeft.{RangeLeft}
use Rattle.yield_counts.specs.Prelude.{count_unused, has_serial, less_one, AgreeOff, AreLeftOf, HasIssued, IsGivenToo, IsLeft}
use Rattle.yield_counts.proofs.RisingSerials.{one_less}

module _ (r : Range) (is : IsRange r) (s : List ℕ) (given after : TextSet) (new : given s ≡ false)
    (too : (t : List ℕ) → after t ≡ (bytes_eq s t || given t)) where
  -- a range has one less where it has the serial number
  pub unused_less : count_unused after r ≡ count_unused given r - cond (has_serial r s) 1 0
  unused_less =
      let p : ℕ → Bool = λ n. given (serial_text r n) in
      let q : ℕ → Bool = λ n. bytes_eq s (serial_text r n) in
      let tests : is_unused after r ≡ (λ n. not (q n || p n)) = fun_ext (λ n. ap not (too (serial_text r n))) in
      let same : count_unused after r ≡ length (filter (λ n. not (q n || p n)) (numbers r)) =
      ap (λ (test : ℕ → Bool). length (filter test (numbers r))) tests in
      let step = one_less p q r.first r.quantity
      (λ m n low less high passes. false_from_ne_true (q n) (λ also.
      let one = (bytes_eq-Decides s (serial_text r m)).0 passes in
      let other = (bytes_eq-Decides s (serial_text r n)).0 also in
      let equal : m ≡ n = same_number r is m n (low, omega arith) (omega arith, high) (sym one ∙ other) in
      omega arith))
      (λ n low high passes. ap given (sym ((bytes_eq-Decides s (serial_text r n)).0 passes)) ∙ new) in
      omega (arith, same, step)

-- a serial number is taken from each of an issuer's ranges that has it
pub range_taken : (given after : TextSet) (s : List ℕ) → given s ≡ false → ((t : List ℕ) → after t ≡ (bytes_eq s t || given t))
    → (one : RangeLeft) → IsLeft given one → IsLeft after (less_one s one)
range_taken given after s new too one is =
    elim (has_serial one.range s) as (λ b. has_serial one.range s ≡ b → count_unused after one.range ≡ count_unused given one.range - cond b 1 0
    → IsLeft after (cond b (record one { left = one.left - 1 }) one)) [
      | true ↦ λ e less. record { range = is.range; left = omega (arith, is.left, less) }
      | false ↦ λ e less. record { range = is.range; left = omega (arith, is.left, less) }
    ] refl (unused_less one.range is.range s given after new too)

pub ranges_taken : (given after : TextSet) (s : List ℕ) → given s ≡ false → ((t : List ℕ) → after t ≡ (bytes_eq s t || given t))
    → (ranges : List RangeLeft) → AreLeftOf given ranges → AreLeftOf after (map (less_one s) ranges)
ranges_taken given after s new too ranges are =
    All-map (IsLeft after) (less_one s) ranges (λ k d within. range_taken given after s new too _ (are k d within))

-- another issuer's serial numbers are given as before
pub agree_off : (issuer s : List ℕ) (given after : HasIssued) → IsGivenToo issuer s given after → AgreeOff issuer given after
agree_off issuer s given after is other apart = fun_ext (λ t. is.follows other t ∙ rw (same_both_ways issuer other, apart) refl)

-- one more of the issuer's own is given
pub own_follows : (issuer s : List ℕ) (given after : HasIssued) → IsGivenToo issuer s given after → (t : List ℕ)
    → after issuer t ≡ (bytes_eq s t || given issuer t)
own_follows issuer s given after is t = is.follows issuer t ∙ rw (text_itself issuer issuer refl) refl

-- The digits of a range's serial numbers, and the numbers that they write.
use Rattle.std.proofs.Common.{◌≡◌, ◌≢◌, ◌+◌, ◌-◌, ◌*◌, ◌^◌, ◌<◌, ◌≤◌, ◌++◌, get_or, ◌&&◌}
use Rattle.text_core.proofs.Kit.{ℕ, zero, suc, Bool, true, false, List, length, take, drop, replicate, decimal, Some, None, refl, sym, ap, ◌∙◌, arith}
use Rattle.text_core.proofs.Kit.{bytes_eq}
use Rattle.text_core.proofs.Kit.{digits_value, AllDigits, nat_le, list_all, list_any, range_with_len, pow-le-pow_right, and_from, and_parts}
use Rattle.text_core.proofs.Kit.{both_ways, le-leb}
use Rattle.text_core.proofs.Kit.{leb-true, or_from, false_from_ne_true, bytes_eq-Decides, none-some, same_Some, digits_value-lt, digits_value_more}
use Rattle.text_core.proofs.Kit.{digit_value_digit, digit_at, digits_value-take-le, decimal_is_IsNumeral, drop_at, take_at, take_rest, any_in_range}
use Rattle.text_core.specs.Prelude.{zero_padded, is_prefix, prefix_of_text, is_serial, is_serial_byte}
use Rattle.id_ranges.specs.Prelude.{Range, IsRange, Has, serial_text}
use Rattle.id_ranges.proofs.Texts.{is_small, length-serial_text, value-padded}
use Rattle.yield_counts.specs.Prelude.{has_serial}

-- at most nine digits write a small number
pub value_is_small : (digits : List ℕ) (i : ℕ) → AllDigits 10 digits → length digits ≤ 9 → digits_value 10 (take i digits) < 1000000000
value_is_small digits i all few =
    let most : 10 ^ length digits ≤ 10 ^ 9 = pow-le-pow_right {n = 10} (omega arith) few in
    let whole = digits_value-lt 10 digits all in
    let part = digits_value-take-le 10 digits i (omega arith) in
    omega (arith, most, whole, part)

-- one digit more
pub value_more : (digits : List ℕ) (i digit : ℕ) → AllDigits 10 digits → i < length digits → digit ≡ get_or digits i 0
    → (48 ≤ digit) × (digits_value 10 (take (i + 1) digits) ≡ digits_value 10 (take i digits) * 10 + (digit - 48))
value_more digits i digit all within is =
    let range = digit_at digits i all within in
    let digit_is = digit_value_digit (get_or digits i 0) range in
    let more = digits_value_more 10 digits i within in
    (omega (arith, range.0), more ∙ ap (λ k. digits_value 10 (take i digits) * 10 + k) (omega (arith, digit_is)))

-- zeros before digits are digits
zeros_are_digits : (count : ℕ) (digits : List ℕ) → AllDigits 10 digits → AllDigits 10 (replicate count 48 ++ digits)
zeros_are_digits zero digits all = all
zeros_are_digits (suc count) digits all = (omega arith, zeros_are_digits count digits all)

pub padded_digits : (width n : ℕ) → n < 2 ^ 64 → AllDigits 10 (zero_padded width (decimal n))
padded_digits width n small = zeros_are_digits (width - length (decimal n)) (decimal n) (decimal_is_IsNumeral n small).0.1

-- the digits of a serial number
pub digits_of_text : (r : Range) (n : ℕ) (serial : List ℕ) → serial ≡ serial_text r n → drop (length r.prefix) serial ≡ zero_padded r.width (decimal n)
digits_of_text r n serial is = ap (drop (length r.prefix)) is ∙ drop_at r.prefix (zero_padded r.width (decimal n)) (length r.prefix) refl

pub front_of_text : (r : Range) (n : ℕ) (serial : List ℕ) → serial ≡ serial_text r n → take (length r.prefix) serial ≡ r.prefix
front_of_text r n serial is = ap (take (length r.prefix)) is ∙ take_at r.prefix (zero_padded r.width (decimal n)) (length r.prefix) refl

-- a serial number in the two parts of its length and the width
pub front_is : (r : Range) → IsRange r → (n : ℕ) → Has r n → (serial bytes front : List ℕ) (width count : ℕ) → serial ≡ serial_text r n → bytes ≡ serial
    → r.width ≡ width → count ≡ width → front ≡ take (length bytes - count) bytes → front ≡ r.prefix
front_is r is n has serial bytes front width count text same wide counts cut =
    let size = length-serial_text r is n has in
    let at : length bytes - count ≡ length r.prefix = omega (arith, size, ap length text, ap length same, wide, counts) in
    cut ∙ (ap (λ k. take k bytes) at ∙ (ap (take (length r.prefix)) same ∙ front_of_text r n serial text))

pub back_is : (r : Range) → IsRange r → (n : ℕ) → Has r n → (serial bytes back : List ℕ) (width count : ℕ) → serial ≡ serial_text r n → bytes ≡ serial
    → r.width ≡ width → count ≡ width → back ≡ drop (length bytes - count) bytes → back ≡ drop (length r.prefix) serial
back_is r is n has serial bytes back width count text same wide counts cut =
    let size = length-serial_text r is n has in
    let at : length bytes - count ≡ length r.prefix = omega (arith, size, ap length text, ap length same, wide, counts) in
    cut ∙ (ap (λ k. drop k bytes) at ∙ ap (drop (length r.prefix)) same)

-- the text of a prefix is one
pub prefix_found : (text prefix : List ℕ) → text ≡ prefix → is_prefix prefix ≡ true → prefix_of_text text ≡ Some prefix
prefix_found text prefix same is = ap prefix_of_text same ∙ rw is refl

pub prefix_is_serial : (text : List ℕ) → is_prefix text ≡ true → is_serial text ≡ true
prefix_is_serial text is =
    let parts = and_parts (nat_le 1 (length text) && nat_le (length text) 32) (list_all is_serial_byte text) is in
    let lengths = and_parts (nat_le 1 (length text)) (nat_le (length text) 32) parts.0 in
    let short = leb-true _ _ lengths.1 in
    let few : length text ≤ 64 = omega (arith, short) in
    and_from _ _ (and_from _ _ lengths.0 (le-leb _ _ few)) parts.1

-- the number that they write is the serial number's
pub value_of_text : (r : Range) → IsRange r → (n : ℕ) → Has r n → (serial : List ℕ) → serial ≡ serial_text r n → (digits : List ℕ)
    → digits ≡ drop (length r.prefix) serial
    → (value : ℕ) → (AllDigits 10 digits → value ≡ digits_value 10 digits) → value ≡ n
value_of_text r is n has serial text digits cut value answer =
    let same : digits ≡ zero_padded r.width (decimal n) = cut ∙ digits_of_text r n serial text in
    let small = is_small r is n has in
    answer (rw same (padded_digits r.width n small)) ∙ (ap (digits_value 10) same ∙ value-padded r.width n small)

-- a range whose numbers all fail
pub any_none : (p : ℕ → Bool) (first count : ℕ) → ((n : ℕ) → first ≤ n → n < first + count → p n ≡ false) → list_any p (range_with_len first count) ≡ false
any_none p first zero none = refl
any_none p first (suc count) none =
    or_from (p first) (list_any p (range_with_len (first + 1) count)) (none first (omega arith) (omega arith))
    (any_none p (first + 1) count (λ n low high. none n (omega arith) (omega arith)))

-- a text that is the serial number of a number of the range
pub has_at : (r : Range) (serial : List ℕ) (n : ℕ) → Has r n → serial ≡ serial_text r n → has_serial r serial ≡ true
has_at r serial n has text = any_in_range (λ k.
    bytes_eq serial (serial_text r k))
    r.first r.quantity n has.0 has.1 ((bytes_eq-Decides serial (serial_text r n)).1 text)

-- a text that is that of none
pub has_none : (r : Range) (serial : List ℕ) → ((n : ℕ) → Has r n → serial ≢ serial_text r n) → has_serial r serial ≡ false
has_none r serial none =
    any_none (λ k. bytes_eq serial (serial_text r k)) r.first r.quantity
    (λ n low high. false_from_ne_true _ (λ t. none n (low, high) ((bytes_eq-Decides serial (serial_text r n)).0 t)))

-- the number of the digits that are read after the prefix
pub number_is : (r : Range) → IsRange r → (n : ℕ) → Has r n → (serial : List ℕ) → serial ≡ serial_text r n → (front bytes : List ℕ) → front ≡ r.prefix
    → bytes ≡ serial
    → (value : ℕ)
    → (AllDigits 10 (take (length bytes - length front) (drop (length front) bytes))
    → value ≡ digits_value 10 (take (length bytes - length front) (drop (length front) bytes)))
    → value ≡ n
number_is r is n has serial text front bytes front_is bytes_is value answer =
    value_of_text r is n has serial text (take (length bytes - length front) (drop (length front) bytes))
    (take_rest bytes (length front) ∙ (ap (λ (f : List ℕ). drop (length f) bytes) front_is ∙ ap (drop (length r.prefix)) bytes_is)) value answer

-- the test by the one number that it may be
pub has_by : (r : Range) (serial : List ℕ) (n : ℕ) → Has r n → ((k : ℕ) → Has r k → serial ≡ serial_text r k → Some n ≡ Some k) → (e : Bool)
    → e ≡ bytes_eq (serial_text r n) serial
    → e ≡ has_serial r serial
has_by r serial n has only true e = sym (has_at r serial n has (sym ((bytes_eq-Decides (serial_text r n) serial).0 (sym e))))
has_by r serial n has only false e =
    sym (has_none r serial (λ k other text.
    let same : serial_text r n ≡ serial = ap (serial_text r) (same_Some n k (only k other text)) ∙ sym text in
    both_ways (bytes_eq (serial_text r n) serial) (sym e) ((bytes_eq-Decides (serial_text r n) serial).1 same)))

pub has_not : (r : Range) (serial : List ℕ) → ((k : ℕ) → Has r k → serial ≡ serial_text r k → None ≡ Some k) → false ≡ has_serial r serial
has_not r serial only = sym (has_none r serial (λ k has text. none-some k (only k has text)))

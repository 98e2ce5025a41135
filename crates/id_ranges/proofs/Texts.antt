-- The serial numbers of a range's numbers.
use Rattle.std.proofs.Common.{◌≡◌, ◌+◌, ◌-◌, ◌%◌, ◌^◌, ◌<◌, ◌≤◌, ◌&&◌, ◌∷◌, ◌++◌}
use Rattle.text_core.proofs.Kit.{ℕ, zero, suc, true, nat_le, List, [], length, replicate, decimal, refl, sym, ap, ◌∙◌, arith, length-append, list_all, IsAscii}
use Rattle.text_core.proofs.Kit.{IsUtf8, digits_value, pow-le-pow_right, and_from, and_parts, le-leb, leb-true, nat_tests, decimal_by_steps}
use Rattle.text_core.proofs.Kit.{decimal_is_IsNumeral, length-decimal-le, append_cancel_left, length-replicate, list_all-append, IsUtf8-from_ascii}
use Rattle.text_core.specs.Prelude.{zero_padded, is_serial, is_serial_byte}
use Rattle.id_ranges.specs.Prelude.{Range, IsRange, Has, serial_text}

-- a number of at most nine digits is below 10^9
pub below_billion : (width n : ℕ) → width ≤ 9 → n < 10 ^ width → n < 1000000000
below_billion width n few low =
    let most : 10 ^ width ≤ 10 ^ 9 = pow-le-pow_right {n = 10} (omega arith) few in
    omega (arith, most, low)

-- each number of a range has at most as many digits as the width
pub fits_width : (r : Range) → IsRange r → (n : ℕ) → Has r n → n < 10 ^ r.width
fits_width r is n has = omega (arith, is.fits, has.1)

-- each number of a range is below 2^64
pub is_small : (r : Range) → IsRange r → (n : ℕ) → Has r n → n < 2 ^ 64
is_small r is n has =
    let low = below_billion r.width n is.largest_width (fits_width r is n has) in omega (arith, low)

-- a text of two parts of bytes of serial numbers
both_parts : (xs ys : List ℕ) → list_all is_serial_byte xs ≡ true → list_all is_serial_byte ys ≡ true → list_all is_serial_byte (xs ++ ys) ≡ true
both_parts xs ys one other = list_all-append is_serial_byte xs ys ∙ and_from _ _ one other

-- a digit is a byte of serial numbers
digit_passes : (n : ℕ) → n < 10 → is_serial_byte (48 + n) ≡ true
digit_passes n low = grind (arith, nat_tests)

-- the digits of a number are bytes of serial numbers
pub digits_pass : (n : ℕ) → n < 2 ^ 64 → list_all is_serial_byte (decimal n) ≡ true
digits_pass n small =
    decimal_by_steps (λ _ ds. list_all is_serial_byte ds ≡ true) (λ k low. and_from _ _ (digit_passes k low) refl)
    (λ k ds high pass. both_parts ds ((48 + k % 10) ∷ []) pass (and_from _ _ (digit_passes (k % 10) (omega arith)) refl)) n small

-- zeros are bytes of serial numbers
pub zeros_pass : (count : ℕ) → list_all is_serial_byte (replicate count 48) ≡ true
zeros_pass zero = refl
zeros_pass (suc count) = zeros_pass count

-- a number that fits the width takes all of it
pub length-padded : (width n : ℕ) → 0 < width → n < 10 ^ width → n < 2 ^ 64 → length (zero_padded width (decimal n)) ≡ width
length-padded width n some low small =
    let short = length-decimal-le width n some low small in
    let zeros : List ℕ = replicate (width - length (decimal n)) 48 in
    let count : length zeros ≡ width - length (decimal n) = length-replicate (width - length (decimal n)) 48 in
    omega (arith, short, count, length-append zeros (decimal n))

-- a serial number is as long as the prefix and the width together
pub length-serial_text : (r : Range) → IsRange r → (n : ℕ) → Has r n → length (serial_text r n) ≡ length r.prefix + r.width
length-serial_text r is n has =
    length-append r.prefix (zero_padded r.width (decimal n))
    ∙ ap (λ k. length r.prefix + k) (length-padded r.width n (omega (arith, is.least_width)) (fits_width r is n has) (is_small r is n has))

-- each number of a range has a serial number
pub texts_are_serials : (r : Range) → IsRange r → (n : ℕ) → Has r n → is_serial (serial_text r n) ≡ true
texts_are_serials r is n has =
    let parts = and_parts (nat_le 1 (length r.prefix) && nat_le (length r.prefix) 32) (list_all is_serial_byte r.prefix) is.prefix in
    let lengths = and_parts (nat_le 1 (length r.prefix)) (nat_le (length r.prefix) 32) parts.0 in
    let least = leb-true _ _ lengths.0 in
    let largest = leb-true _ _ lengths.1 in
    let size = length-serial_text r is n has in
    let digits =
    both_parts (replicate (r.width - length (decimal n)) 48) (decimal n) (zeros_pass (r.width - length (decimal n))) (digits_pass n (is_small r is n has))
    in
    let some : 1 ≤ length (serial_text r n) = omega (arith, least, size) in
    let few : length (serial_text r n) ≤ 64 = omega (arith, largest, size, is.largest_width) in
    and_from _ _ (and_from _ _ (le-leb _ _ some) (le-leb _ _ few))
    (both_parts r.prefix (zero_padded r.width (decimal n)) parts.1 digits)

-- zeros before digits don't change their value
value-zeros : (count : ℕ) (ds : List ℕ) → digits_value 10 (replicate count 48 ++ ds) ≡ digits_value 10 ds
value-zeros zero ds = refl
value-zeros (suc count) ds = value-zeros count ds

-- the value of a number's digits is the number
pub value-padded : (width n : ℕ) → n < 2 ^ 64 → digits_value 10 (zero_padded width (decimal n)) ≡ n
value-padded width n small = value-zeros (width - length (decimal n)) (decimal n) ∙ (decimal_is_IsNumeral n small).1

-- numbers of one serial number are one
pub same_number : (r : Range) → IsRange r → (m n : ℕ) → Has r m → Has r n → serial_text r m ≡ serial_text r n → m ≡ n
same_number r is m n one other same =
    let padded = append_cancel_left r.prefix (zero_padded r.width (decimal m)) (zero_padded r.width (decimal n)) same in
    sym (value-padded r.width m (is_small r is m one)) ∙ (ap (digits_value 10) padded ∙ value-padded r.width n (is_small r is n other))

-- two ranges of one prefix that have a serial number in common have one width
pub same_width : (r s : Range) → IsRange r → IsRange s → r.prefix ≡ s.prefix → (m n : ℕ) → Has r m
    → Has s n → serial_text r m ≡ serial_text s n → r.width ≡ s.width
same_width r s is also prefix m n one other same =
    omega (arith, length-serial_text r is m one, length-serial_text s also n other, ap length same, ap length prefix)

-- a number's digits take at most the width
pub digits_fit : (r : Range) → IsRange r → (n : ℕ) → Has r n → length (decimal n) ≤ r.width
digits_fit r is n has = length-decimal-le r.width n (omega (arith, is.least_width)) (fits_width r is n has) (is_small r is n has)

-- bytes of serial numbers are ASCII
byte_is_ascii : (b : ℕ) → is_serial_byte b ≡ true → b < 128
byte_is_ascii b pass = grind (arith, nat_tests)

bytes_are_ascii : (bs : List ℕ) → list_all is_serial_byte bs ≡ true → IsAscii bs
bytes_are_ascii [] pass i = omega arith
bytes_are_ascii (b ∷ bs) pass zero = byte_is_ascii b (and_parts (is_serial_byte b) (list_all is_serial_byte bs) pass).0
bytes_are_ascii (b ∷ bs) pass (suc i) = bytes_are_ascii bs (and_parts (is_serial_byte b) (list_all is_serial_byte bs) pass).1 i

-- a serial number is a text
pub serial_is_text : (text : List ℕ) → is_serial text ≡ true → IsUtf8 text
serial_is_text text is =
    IsUtf8-from_ascii text (bytes_are_ascii text (and_parts (nat_le 1 (length text) && nat_le (length text) 64) (list_all is_serial_byte text) is).1)

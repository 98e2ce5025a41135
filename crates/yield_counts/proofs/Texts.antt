-- The serial numbers of a range rise with its numbers.
use Rattle.std.proofs.Common.{◌≡◌, ◌+◌, ◌*◌, ◌<◌, ◌∷◌, ◌++◌}
use Rattle.text_core.proofs.Kit.{ℕ, List, [], length, decimal, refl, sym, ◌∙◌, arith, Less, Equal, AllDigits, cases_eq}
use Rattle.text_core.proofs.Kit.{cases_lt, inl, inr}
use Rattle.std.specs.Str.Parse.{digits_value_after}
use Rattle.std.specs.Char.{digit_value}
use Rattle.std.specs.Cmp.{nat_cmp_is}
use Rattle.std.proofs.lemmas.Str.{digit_value_digit}
use Rattle.std.proofs.lemmas.Str.Parse.{digit_from_value}
use Rattle.text_core.specs.Prelude.{zero_padded}
use Rattle.id_ranges.specs.Prelude.{Range, IsRange, Has, serial_text}
use Rattle.id_ranges.proofs.Texts.{fits_width, is_small, length-padded, value-padded}
use Rattle.office_tables.specs.Prelude.{text_cmp}
use Rattle.yield_counts.proofs.Digits.{padded_digits}

-- a greater number before as many digits gives a greater one
after_greater : (a b : List ℕ) (m n : ℕ) → AllDigits 10 a → AllDigits 10 b → length a ≡ length b → m < n
    → digits_value_after 10 m a < digits_value_after 10 n b
after_greater [] [] m n all other same less = less
after_greater [] (y ∷ ys) m n all other same less = absurd (omega (arith, same))
after_greater (x ∷ xs) [] m n all other same less = absurd (omega (arith, same))
after_greater (x ∷ xs) (y ∷ ys) m n all other same less =
    after_greater xs ys (m * 10 + digit_value x) (n * 10 + digit_value y) all.1 other.1 (omega (arith, same)) (omega (arith, less, all.0))

-- digits that write a lesser number, as many, come before
digits_less : (a b : List ℕ) (m : ℕ) → AllDigits 10 a → AllDigits 10 b → length a ≡ length b
    → digits_value_after 10 m a < digits_value_after 10 m b → text_cmp a b ≡ Less
digits_less [] [] m all other same less = absurd (omega (arith, less))
digits_less [] (y ∷ ys) m all other same less = absurd (omega (arith, same))
digits_less (x ∷ xs) [] m all other same less = absurd (omega (arith, same))
digits_less (x ∷ xs) (y ∷ ys) m all other same less =
    let one = digit_value_digit x (digit_from_value x all.0) in
    let two = digit_value_digit y (digit_from_value y other.0) in
    elim (cases_lt x y) [
      | inl below ↦ rw (← (nat_cmp_is x y Less below)) refl
      | inr past ↦ elim (cases_eq x y) [
        | inl equal ↦
            rw (← (nat_cmp_is x y Equal equal))
            (digits_less xs ys (m * 10 + digit_value y) all.1 other.1 (omega (arith, same)) (rw equal at less))
        | inr apart ↦
            let greater : m * 10 + digit_value y < m * 10 + digit_value x = omega (arith, past, one, two, apart) in
            let more = after_greater ys xs (m * 10 + digit_value y) (m * 10 + digit_value x) other.1 all.1 (omega (arith, same)) greater
            in absurd (omega (arith, more, less))
      ]
    ]

-- texts that begin alike compare by what follows
same_front : (front a b : List ℕ) → text_cmp (front ++ a) (front ++ b) ≡ text_cmp a b
same_front [] a b = refl
same_front (x ∷ xs) a b = rw (← (nat_cmp_is x x Equal refl)) (same_front xs a b)

-- of two numbers of a range, the lesser one's serial number comes before
pub text_rises : (r : Range) → IsRange r → (m n : ℕ) → Has r m → Has r n → m < n → text_cmp (serial_text r m) (serial_text r n) ≡ Less
text_rises r is m n has also less =
    let small = is_small r is m has in
    let large = is_small r is n also in
    let one = length-padded r.width m (omega (arith, is.least_width)) (fits_width r is m has) small in
    let two = length-padded r.width n (omega (arith, is.least_width)) (fits_width r is n also) large in
    same_front r.prefix (zero_padded r.width (decimal m)) (zero_padded r.width (decimal n))
    ∙ digits_less (zero_padded r.width (decimal m)) (zero_padded r.width (decimal n)) 0 (padded_digits r.width m small) (padded_digits r.width n large)
    (one ∙ sym two) (omega (arith, less, value-padded r.width m small, value-padded r.width n large))

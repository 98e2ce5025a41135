-- The digits of a time, and which texts are the beginning of a validity.
use Rattle.std.proofs.Common.{◌≡◌, ◌+◌, ◌<◌, ◌&&◌, ◌==◌, if◌then◌else◌, get_or}
use Rattle.text_core.proofs.Kit.{ℕ, Bool, true, false, nat_le, List, length, take, Some, None, Ok, Err, refl, arith, is_ascii_digit, IsInRange, list_all}
use Rattle.text_core.proofs.Kit.{and_parts, eqb-true, leb-true, cond_some, get_or-take, length-take-le, All-get_or, AllPass-from_list_all}
use Rattle.text_core.specs.Prelude.{is_time, time_of_text}
use Rattle.id_ranges.specs.Prelude.{has_clock, has_date, not_before_of}
use Rattle.id_ranges.specs.declared.fault.RangeFault.TheVariants.{BadNotBefore}

-- each of the first 14 bytes of a time is a digit
pub time_digit : (text : List ℕ) → is_time text ≡ true → (place : ℕ) → place < 14 → IsInRange 48 57 (get_or text place 0)
time_digit text is place low =
    let front : List ℕ = take 14 text in
    let form = and_parts (length text == 15 && list_all is_ascii_digit front) (get_or text 14 0 == 90) is in
    let parts = and_parts (length text == 15) (list_all is_ascii_digit front) form.0 in
    let all = eqb-true _ _ parts.0 in
    let count : length front ≡ 14 = length-take-le 14 text (omega (arith, all)) in
    let each = AllPass-from_list_all is_ascii_digit front parts.1 in
    let passes = All-get_or (λ byte. is_ascii_digit byte ≡ true) front place 0 (omega (arith, count)) each in
    let same = get_or-take 14 text place 0 low in
    let bounds = and_parts (nat_le 48 (get_or text place 0)) (nat_le (get_or text place 0) 57) (rw same at passes) in
    (leb-true _ _ bounds.0, leb-true _ _ bounds.1)

-- two bytes beside each other, of the first 14 of a time, are digits
pub digit_pair : (text : List ℕ) → is_time text ≡ true → (place : ℕ) → place < 13
    → IsInRange 48 57 (get_or text place 0) × IsInRange 48 57 (get_or text (place + 1) 0)
digit_pair text is place low = (time_digit text is place (omega arith), time_digit text is (place + 1) (omega arith))

-- what three tests choose, where one of them fails and where all pass
module _ {A : Type 0} (x y : A) where
  unless_first : (a b c : Bool) → a ≡ false → (if a && b && c then x else y) ≡ y
  unless_first a b c fails = rw fails refl

  unless_second : (a b c : Bool) → b ≡ false → (if a && b && c then x else y) ≡ y
  unless_second true b c fails = rw fails refl
  unless_second false b c fails = refl

  unless_third : (a b c : Bool) → c ≡ false → (if a && b && c then x else y) ≡ y
  unless_third true true c fails = rw fails refl
  unless_third true false c fails = refl
  unless_third false b c fails = refl

  after_three : (a b c : Bool) → a ≡ true → b ≡ true → c ≡ true → (if a && b && c then x else y) ≡ x
  after_three a b c one two three = rw (one, two, three) refl

-- where a test chooses nothing it fails
unless_chosen : {A : Type 0} (b : Bool) (x : A) → None ≡ (if b then Some x else None) → b ≡ false
unless_chosen true x none = cc
unless_chosen false x none = refl

-- a text that is no time is refused
pub refused_form : (text : List ℕ) → None ≡ time_of_text text → not_before_of text ≡ Err BadNotBefore
refused_form text none =
    unless_first (Ok text) (Err BadNotBefore) (is_time text) (has_date text) (has_clock text) (unless_chosen (is_time text) text none)

-- a text whose day doesn't exist is refused
pub refused_date : (text : List ℕ) → has_date text ≡ false → not_before_of text ≡ Err BadNotBefore
refused_date text fails = unless_second (Ok text) (Err BadNotBefore) (is_time text) (has_date text) (has_clock text) fails

-- a text whose hour, minute and second aren't those of a day is refused
pub refused_clock : (text : List ℕ) → has_clock text ≡ false → not_before_of text ≡ Err BadNotBefore
refused_clock text fails = unless_third (Ok text) (Err BadNotBefore) (is_time text) (has_date text) (has_clock text) fails

-- each other text is taken
pub taken : (text : List ℕ) → is_time text ≡ true → has_date text ≡ true → has_clock text ≡ true → not_before_of text ≡ Ok text
taken text form date clock = after_three (Ok text) (Err BadNotBefore) (is_time text) (has_date text) (has_clock text) form date clock

-- what is read as a time is the text itself
pub time_is_text : (text time : List ℕ) → time_of_text text ≡ Some time → (is_time text ≡ true) × (text ≡ time)
time_is_text text time found = cond_some (is_time text) text time found

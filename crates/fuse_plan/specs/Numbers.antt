-- Whole numbers of 256 bits: their bits, their words, and their texts.
use Rattle.std.specs.Prelude.{ℕ, ◌+◌, ◌*◌, ◌/◌, ◌%◌, ◌^◌, ◌==◌, ◌&&◌, nat_le, Bool, List, length, slice_index, map, fold, unwrap_or, Option, Some, None}
use Rattle.std.specs.Prelude.{if◌then◌else◌}
use Rattle.std.specs.Int.{bit_at}
use Rattle.std.specs.List.{list_all, range_with_len}
use Rattle.hex.specs.Hex.{hex_digit_value, is_hex_digit}

-- bit i of a number is 1; its words of 32 bits stand lowest first
abbrev pub number_has_one : List ℕ → ℕ → Bool
number_has_one number i = bit_at (slice_index number (i / 32)) (i % 32) == 1

-- what a hexadecimal digit stands for, in either case
abbrev pub digit_value : ℕ → ℕ
digit_value digit = unwrap_or (hex_digit_value digit) 0

-- the number of hexadecimal digits, the highest first
unfoldable pub digits_value : List ℕ → ℕ
digits_value digits = fold (λ value digit. 16 * value + digit_value digit) 0 digits

-- word i of a number, word 0 the lowest, and its eight words
unfoldable pub number_word : ℕ → ℕ → ℕ
number_word value i = value / 2 ^ (32 * i) % 2 ^ 32

abbrev pub words_of_number : ℕ → List ℕ
words_of_number value = map (number_word value) (range_with_len 0 8)

-- 1 to 64 hexadecimal digits of either case
abbrev pub is_number : List ℕ → Bool
is_number text = nat_le 1 (length text) && nat_le (length text) 64 && list_all is_hex_digit text

-- the number of a text, if it is one
abbrev pub number_of_text : List ℕ → Option (List ℕ)
number_of_text text = if is_number text then Some (words_of_number (digits_value text)) else None

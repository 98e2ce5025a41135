-- A set of positions as 32 words of 32 bits, eight words for each of 4 blocks, the lowest bit of a word first.
use Rattle.std.specs.Prelude.{ℕ, zero, suc, ◌+◌, ◌*◌, ◌/◌, ◌%◌, ◌^◌, Bool, ◌==◌, List, slice_index, map, if◌then◌else◌}
use Rattle.std.specs.Int.{bit_at}
use Rattle.std.specs.List.{range_with_len}
use Rattle.std.specs.FinSet as set
use Rattle.fusemap_core.specs.declared.pos.Pos.{Pos}
use Rattle.fuse_image.specs.Places.{Positions}

-- the words have a 1 at the position
abbrev pub bit_in : List ℕ → Pos → Bool
bit_in words p = bit_at (slice_index words (8 * p.block + p.bit / 32)) (p.bit % 32) == 1

-- the number that has a 1 at each place below n that passes a test
unfoldable pub number_with : (ℕ → Bool) → ℕ → ℕ
number_with test zero = 0
number_with test (suc n) = number_with test n + (if test n then 2 ^ n else 0)

-- the position of a bit of a word
abbrev pub position_of_bit : ℕ → ℕ → Pos
position_of_bit word bit = record { block = word / 8; bit = 32 * (word % 8) + bit }

-- a word of a set
abbrev pub word_of : Positions → ℕ → ℕ
word_of s word = number_with (λ bit. set.contains s (position_of_bit word bit)) 32

-- the 32 words of a set
unfoldable pub words_of_set : Positions → List ℕ
words_of_set s = map (word_of s) (range_with_len 0 32)

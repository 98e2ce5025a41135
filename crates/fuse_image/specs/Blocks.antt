-- The words of the blocks of a chip.
use Rattle.std.specs.Prelude.{ℕ, Bool, ◌&&◌, List, length, nat_le, Option, Some, None, if◌then◌else◌, flat_map}
use Rattle.std.specs.List.{list_all}
use Rattle.std.specs.Int.{to_le_bytes, w32}

-- 1 to 8 words
abbrev pub is_block : List ℕ → Bool
is_block words = nat_le 1 (length words) && nat_le (length words) 8

-- 1 to 4 blocks of 1 to 8 words
abbrev pub are_blocks : List (List ℕ) → Bool
are_blocks blocks = nat_le 1 (length blocks) && (nat_le (length blocks) 4 && list_all is_block blocks)

-- the blocks, if there are 1 to 4 of 1 to 8 words
abbrev pub blocks_of : List (List ℕ) → Option (List (List ℕ))
blocks_of blocks = if are_blocks blocks then Some blocks else None

-- the bytes of a block: byte i holds its bits 8i to 8i+7, the lowest bit first
unfoldable pub bytes_of_block : List ℕ → List ℕ
bytes_of_block words = flat_map (to_le_bytes w32) words

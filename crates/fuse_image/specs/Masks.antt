-- Words with ones from one place up to another.
use Rattle.std.specs.Prelude.{ℕ, ◌-◌, ◌*◌, ◌^◌, min}

-- the word of this index, where there are ones from the place `start` up to the place `end`: places are counted from the lowest bit of word 0, 32 of them a
-- word
abbrev pub mask_of : ℕ → ℕ → ℕ → ℕ
mask_of start end word = 2 ^ (min (end - 32 * word) 32) - 2 ^ (min (start - 32 * word) 32)

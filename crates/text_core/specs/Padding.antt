-- A text with zeros before it.
use Rattle.std.specs.Prelude.{ℕ, ◌-◌, ◌++◌, List, length, replicate}

-- the text, with the digit zero before it as often as it takes to be as long as the width
abbrev pub zero_padded : ℕ → List ℕ → List ℕ
zero_padded width text = replicate (width - length text) 48 ++ text

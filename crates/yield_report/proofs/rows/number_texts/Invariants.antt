use Rattle.std.proofs.Common.{◌≡◌, decimal, map, string_bytes, take}
use Rattle.yield_report.proofs.rows.number_texts.Given as goal

-- the texts so far are those of the numbers so far
abbrev pub invariant-loop-number : goal.invariant-loop-number
invariant-loop-number l = map string_bytes l.texts.items ≡ map decimal (take l.number-index l.numbers)

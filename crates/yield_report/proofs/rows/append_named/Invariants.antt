use Rattle.std.proofs.Common.{◌≡◌, ◌∷◌, map, string_bytes, take}
use Rattle.yield_report.proofs.rows.append_named.Given as goal

-- the fields so far are the name and the texts so far
abbrev pub invariant-loop-number : goal.invariant-loop-number
invariant-loop-number l = map (λ f. f.now) l.fields.items ≡ l.name ∷ map string_bytes (take l.number-index l.number-items)

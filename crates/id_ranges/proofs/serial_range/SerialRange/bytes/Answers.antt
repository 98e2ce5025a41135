use Rattle.std.proofs.Common.{◌≡◌, ◌-◌, ℕ, List, length, take, replicate, decimal, ◌∙◌, arith, append_assoc}
use Rattle.std.proofs.lemmas.List.{take-replicate}
use Rattle.id_ranges.specs.Prelude.{Range, Has}
use Rattle.id_ranges.proofs.Texts.{digits_fit, texts_are_serials}
use Rattle.id_ranges.proofs.serial_range.SerialRange.bytes.Goals as goal

pub slice_bounds-zeros-count : goal.slice_bounds-zeros-count
slice_bounds-zeros-count c =
    let r : Range = record { prefix = c.self.inside.prefix; width = c.self.inside.width; first = c.self.inside.first; quantity = c.self.inside.quantity } in
    let has : Has r c.args.number = rw (← c.self.view_is) at c.requires in
    let digits : c.as_bytes-digits.result.now ≡ decimal c.args.number = c.as_bytes-digits.ensures.value ∙ c.format.ensures.text in
    rw (digits, c.from.ensures) (digits_fit r c.self.invariant c.args.number has)

pub returns-clause-same : goal.returns-clause-same
returns-clause-same c =
    let n = c.args.number in
    let count : ℕ = c.self.inside.width - length (decimal n) in
    let padding : List ℕ = replicate count 48 in
    let digits : c.as_bytes-digits.result.now ≡ decimal n = c.as_bytes-digits.ensures.value ∙ c.format.ensures.text in
    let prefix : c.as_bytes.result.now ≡ c.self.inside.prefix = c.as_bytes.ensures.value ∙ c.as_str.ensures.same in
    let nine : List ℕ = replicate 9 48 in
    let zeros : take count nine ≡ padding = take-replicate count 9 48 (omega (arith, c.self.invariant.largest_width)) in
    rw (c.append-3.ensures, c.append-2.ensures, c.append.ensures, c.empty-bytes.ensures, prefix, digits, c.from.ensures, zeros, ← c.self.view_is)
    (append_assoc c.self.inside.prefix padding (decimal n))

pub returns-clause-is_one : goal.returns-clause-is_one
returns-clause-is_one c =
    let r : Range = record { prefix = c.self.inside.prefix; width = c.self.inside.width; first = c.self.inside.first; quantity = c.self.inside.quantity } in
    let has : Has r c.args.number = rw (← c.self.view_is) at c.requires in
    rw (returns-clause-same c, ← c.self.view_is) (texts_are_serials r c.self.invariant c.args.number has)

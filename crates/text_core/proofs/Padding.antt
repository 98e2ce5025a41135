-- What a hole with a width and a zero before it writes.
use Rattle.std.proofs.Common.{◌≡◌, ℕ, ◌-◌, List, [], ◌++◌, length, replicate, false, ap, arith, append-nil}
use Rattle.std.specs.Fmt.{padded_integral, format_spec, char_count}
use Rattle.text_core.specs.Prelude.{zero_padded}

-- `{n:0width$x}`, of the numeral in that radix
pub padded_integral-zeros : (width precision : ℕ) (numeral : List ℕ)
    → padded_integral (format_spec 32 0 4 width precision) false [] numeral ≡ zero_padded width numeral
unfolding padded_integral char_count
padded_integral-zeros width precision numeral =
    let short : width - length numeral - 0 - 0 ≡ width - length numeral = omega arith in
    simp append-nil (ap (λ n. replicate n 48 ++ numeral) short)

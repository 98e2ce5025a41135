-- The number that a text stands for, by what parsing it gives.
use Rattle.std.proofs.Common.{◌≡◌, ◌<◌, ◌≤◌, ◌^◌, ℕ, List, Bool, true, false, Option, Some, None, option_and_then, refl, sym, ap, subst, ◌∙◌, if◌then◌else◌}
use Rattle.std.specs.Str.Parse.{IsNumeral, digits_value, without_leading_plus}
use Rattle.clap.proofs.WalkLemmas.{first_value-rows}
use Rattle.clap.proofs.ValueTestLemmas.{Accepts-accepts, accepts-Accepts}
use Rattle.clap.specs.ValueTests.{is_unsigned_in}
use Rattle.clap.specs.Values.{IsUnsignedIn}
use Rattle.clap.specs.Words.{first_value, rows_of}
use Rattle.clap.specs.declared.parser.matches.Found.{Found}
use Rattle.clap.specs.declared.builder.value_parser.ValueParser.TheVariants.{Unsigned}
use Rattle.station_cli.specs.Prelude.{number_of_digits, number_of_option}

-- what the test of a text says of its number
abbrev number_if : List ℕ → Bool → Option ℕ
number_if text taken = if taken then Some (digits_value 10 (without_leading_plus text)) else None

-- a number in the bounds is that of the text
pub number_of_digits-read : (least most number : ℕ) (text : List ℕ)
    → (IsNumeral 10 (without_leading_plus text)
    × (digits_value 10 (without_leading_plus text) < 2 ^ 64))
    × (number ≡ digits_value 10 (without_leading_plus text))
    → least ≤ number → number ≤ most → Some number ≡ number_of_digits least most text
number_of_digits-read least most number text read low high =
    let within : IsUnsignedIn least most text =
    (read.0.0, read.0.1, subst (λ n. least ≤ n) read.1 low, subst (λ n. n ≤ most) read.1 high) in
    ap Some read.1 ∙ ap (number_if text) (sym (Accepts-accepts false (Unsigned least most) text within))

-- a text that stands for no number in the bounds
pub number_of_digits-none : (least most : ℕ) (text : List ℕ) → (IsUnsignedIn least most text → ⊥) → None ≡ number_of_digits least most text
number_of_digits-none least most text none = go (is_unsigned_in least most text) refl
  where
    go : (b : Bool) → is_unsigned_in least most text ≡ b → None ≡ number_of_digits least most text
    go true is = absurd (none (accepts-Accepts false (Unsigned least most) text is))
    go false is = ap (number_if text) (sym is)

-- the number of an option, by its first value
pub number_of_first : (f : Found) (id : List ℕ) (least most : ℕ) (o : Option (List ℕ)) → o ≡ first_value f id
    → option_and_then (number_of_digits least most) o ≡ number_of_option id least most (rows_of f)
number_of_first f id least most o is = ap (option_and_then (number_of_digits least most)) (is ∙ first_value-rows f id)

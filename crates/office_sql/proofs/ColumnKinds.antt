-- What the rule on types says of each column of a row, and what the casts of SQL make of such columns.
use Rattle.std.proofs.Common.{◌≡◌, ◌+◌, ◌∷◌}
use Rattle.text_core.proofs.Kit.{ℕ, suc, cond, true, List, [], drop, refl, sym, ap, subst, ◌∙◌, arith, add-one, true≢false, None, AllByRecursion, and_parts}
use Rattle.office_sql.proofs.Kit.{Value, Null, Int, Real, Row, column, Integer, cast, Column, are_typed, is_of, has_affinity}
use Rattle.sqlite.specs.declared.types.Value.TheVariants.{Text as Words, Blob as Bytes}
use Rattle.sqlite.specs.Kind.TheVariants.{Text}
use Rattle.office_sql.proofs.Stepping.{cast_null, cast_int}

-- the columns of a row from a place on are of these kinds
abbrev pub AreOf : ℕ → List Column → Row → Type 0
AreOf from [] r = Unit {0}
AreOf from (c ∷ cs) r = (is_of c.kind (column r from) ≡ true) × AreOf (from + 1) cs r

next : (from : ℕ) (r vs : Row) (v : Value) (i : ℕ) → column (v ∷ vs) (suc i) ≡ column r (suc i + from) → column vs i ≡ column r (i + (from + 1))
next from r vs v i e = let n : suc i + from ≡ i + (from + 1) = omega arith in e ∙ ap (column r) n

here : (from : ℕ) (r vs : Row) → column vs 0 ≡ column r (0 + from) → column vs 0 ≡ column r from
here from r vs e = let n : 0 + from ≡ from = omega arith in e ∙ ap (column r) n

each : (from at : ℕ) (cs : List Column) (vs r : Row) → AllByRecursion (λ c. c.is_strict ≡ true) cs
    → ((i : ℕ) → column vs i ≡ column r (i + from)) → are_typed None at cs vs ≡ true
    → AreOf from cs r
each from at [] vs r strict same typed = tt
each from at (c ∷ cs) [] r strict same typed = (
  ap (is_of c.kind) (sym (here from r [] (same 0))),
  each (from + 1) (at + 1) cs []
      r strict.1 (λ i. next from r [] Null i (same (suc i))) (and_parts _ _ typed).1,
)
each from at (c ∷ cs) (v ∷ vs) r strict same typed =
    let both = and_parts _ _ typed in (
      ap (is_of c.kind) (sym (here from r (v ∷ vs) (same 0)))
          ∙ subst (λ b. cond b (is_of c.kind v) (has_affinity c.kind v)
          ≡ true) strict.0 both.0,
      each (from + 1) (at + 1) cs vs r strict.1 (λ i.
          next from r vs v i (same (suc i))) both.1,
    )

dropped : (r : Row) (i : ℕ) → column (drop 1 r) i ≡ column r (i + 1)
dropped [] i = refl
dropped (x ∷ r) i = rw add-one refl

pub are_of : (cs : List Column) (r : Row) → AllByRecursion (λ c. c.is_strict ≡ true) cs → are_typed None 0 cs (drop 1 r) ≡ true → AreOf 1 cs r
are_of cs r strict typed = each 1 0 cs (drop 1 r) r strict (dropped r) typed

-- a text or NULL stays as it is in a column of texts, and a number or NULL in one of numbers
pub text_stays : (v : Value) → is_of Text v ≡ true → cast Text v ≡ v
text_stays Null e = refl
text_stays (Int n) e = absurd (true≢false (sym e))
text_stays (Real x) e = absurd (true≢false (sym e))
text_stays (Words t) e = refl
text_stays (Bytes b) e = absurd (true≢false (sym e))

pub number_stays : (v : Value) → is_of Integer v ≡ true → cast Integer v ≡ v
number_stays Null e = cast_null
number_stays (Int n) e = cast_int n
number_stays (Real x) e = absurd (true≢false (sym e))
number_stays (Words t) e = absurd (true≢false (sym e))
number_stays (Bytes b) e = absurd (true≢false (sym e))

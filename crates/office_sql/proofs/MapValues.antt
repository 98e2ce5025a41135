-- The tests of SQL on columns of whole numbers, and their order.
use Rattle.std.proofs.Common.{◌≡◌, ◌==◌}
use Rattle.text_core.proofs.Kit.{ℕ, pos, ap, ap₂, ◌∙◌, is_eq, nat_cmp, int_cmp, arith, nat_tests, ints}
use Rattle.office_sql.proofs.Kit.{Value, Int, is_true, Eq, Compare, Binary, value_cmp-Int}
use Rattle.sqlite.specs.Order.{value_cmp}
use Rattle.sqlite.specs.Ops.{binary}
use Rattle.office_sql.specs.Prelude.{number_in_cell}
use Rattle.office_sql.proofs.Values.{told}

pub naturals_cmp : (m n : ℕ) → int_cmp (pos m) (pos n) ≡ nat_cmp m n
naturals_cmp m n = grind (arith, ints, nat_tests)

tied : (m n : ℕ) → is_eq (nat_cmp m n) ≡ (n == m)
tied m n = grind (arith, nat_tests)

pub numbers_tied : (m n : ℕ) → is_eq (nat_cmp m n) ≡ (m == n)
numbers_tied m n = grind (arith, nat_tests)

numbers_are : (m n : ℕ) → is_true (binary (Compare Eq Binary) (Int (pos m)) (Int (pos n))) ≡ (n == m)
unfolding binary
numbers_are m n = told _ ∙ ap is_eq (value_cmp-Int (pos m) (pos n) ∙ naturals_cmp m n) ∙ tied m n

-- a column that is a whole number equals a number where it is that
pub whole_is : (v : Value) (n : ℕ) → v ≡ Int (pos (number_in_cell v)) → is_true (binary (Compare Eq Binary) v (Int (pos n))) ≡ (n == number_in_cell v)
whole_is v n e = ap (λ w. is_true (binary (Compare Eq Binary) w (Int (pos n)))) e ∙ numbers_are (number_in_cell v) n

-- columns of whole numbers are in the order of the numbers
pub wholes_cmp : (v w : Value) → v ≡ Int (pos (number_in_cell v)) → w ≡ Int (pos (number_in_cell w))
    → value_cmp v w ≡ nat_cmp (number_in_cell v) (number_in_cell w)
wholes_cmp v w e f = ap₂ value_cmp e f ∙ value_cmp-Int _ _ ∙ naturals_cmp (number_in_cell v) (number_in_cell w)

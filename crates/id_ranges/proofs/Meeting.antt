-- Ranges that meet.
use Rattle.std.proofs.Common.{◌≡◌, ◌==◌, ◌+◌, ◌&&◌, ◌↔◌}
use Rattle.text_core.proofs.Kit.{false, refl, sym, ℕ, nat_le, nat_lt, Bool, true, bytes_eq, and_from, and_parts, le-leb, leb-true, lt-ltb, ltb-true}
use Rattle.text_core.proofs.Kit.{Decides-eqb, bytes_eq-Decides, IsTrue, list_any, range_with_len, in_range_any, any_in_range}
use Rattle.id_ranges.specs.Prelude.{Range, RangesOverlap, ranges_overlap}

-- the number is one of the range's, as a test
abbrev is_of : Range → ℕ → Bool
is_of r n = nat_le r.first n && nat_lt n (r.first + r.quantity)

-- ranges that pass the test meet
pub meets_from_test : (a b : Range) → ranges_overlap a b ≡ true → RangesOverlap a b
meets_from_test a b h =
    let shared : Bool = list_any (is_of b) (range_with_len a.first a.quantity) in
    let outer = and_parts (bytes_eq a.prefix b.prefix && (a.width == b.width)) shared h in
    let inner = and_parts (bytes_eq a.prefix b.prefix) (a.width == b.width) outer.0 in
    let found = in_range_any (is_of b) a.first a.quantity outer.1 in
    let other = and_parts (nat_le b.first found.0) (nat_lt found.0 (b.first + b.quantity)) found.3 in (
      (bytes_eq-Decides a.prefix b.prefix).0 inner.0,
      (Decides-eqb a.width b.width).0 inner.1,
      (found.0, (found.1, found.2), (leb-true _ _ other.0, ltb-true _ _ other.1)),
    )

-- ranges that meet pass it
pub test_from_meets : (a b : Range) → RangesOverlap a b → ranges_overlap a b ≡ true
test_from_meets a b h =
    let shared = h.2 in
    let n : ℕ = shared.0 in
    and_from _ _ (and_from _ _ ((bytes_eq-Decides a.prefix b.prefix).1 h.0) ((Decides-eqb a.width b.width).1 h.1))
    (any_in_range (is_of b) a.first a.quantity n shared.1.0 shared.1.1
    (and_from _ _ (le-leb b.first n shared.2.0) (lt-ltb n (b.first + b.quantity) shared.2.1)))

-- what is true just where they meet is the test
pub same_test : (a b : Range) (r : Bool) → (IsTrue r ↔ RangesOverlap a b) → r ≡ ranges_overlap a b
same_test a b true h = sym (test_from_meets a b (h.0 refl))
same_test a b false h = elim (ranges_overlap a b) as (λ t. ranges_overlap a b ≡ t → false ≡ t) [
  | true ↦ λ passes. h.1 (meets_from_test a b passes)
  | false ↦ λ fails. refl
] refl

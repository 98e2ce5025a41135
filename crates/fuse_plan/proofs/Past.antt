-- The ones of a number from a bit on, as it stands in a block.
use Rattle.std.proofs.Common.{◌≡◌, ◌+◌, ◌-◌, ◌<◌, ◌≤◌, ◌&&◌, ◌==◌}
use Rattle.text_core.proofs.Kit.{ℕ, Bool, true, not, List, sym, ap, ◌∙◌, arith, nat_le, nat_lt, list_any, range_with_len, and_from, and_parts, both_ways}
use Rattle.text_core.proofs.Kit.{false_from_ne_true, le-leb, leb-true, lt-ltb, ltb-true, not-true, not_from_false, true_from_ne_false, any_in_range}
use Rattle.text_core.proofs.Kit.{in_range_any, one_truth}
use Rattle.std.specs.FinSet as set
use Rattle.fusemap_core.specs.declared.pos.Pos.{Pos}
use Rattle.fuse_image.specs.Prelude.{Positions, contains-places_where, is_empty, is_place, sets_meet, places_where, run}
use Rattle.fuse_image.proofs.Sets.{is_empty-from_none, none_in}
use Rattle.fuse_plan.specs.Prelude.{number_has_one, is_one_from}
use Rattle.fuse_plan.proofs.Asked.{intersection-of_tests}

-- a bit of block 0
abbrev at : ℕ → Pos
at i = record { block = 0; bit = i }

-- the position lies in the run from a bit of block 0 to the block's end
abbrev is_past : ℕ → Pos → Bool
is_past start p = 0 == p.block && (nat_le start p.bit && nat_lt p.bit (start + (256 - start)))

abbrev is_one_past : List ℕ → ℕ → Pos → Bool
is_one_past v start p = is_one_from v (at 0) p && is_past start p

-- a bit from the start on that is 1 is such a position
one_past : (v : List ℕ) (start i : ℕ) → start ≤ i → i < start + (256 - start) → start ≤ 256 → number_has_one v i ≡ true
    → set.contains (places_where (is_one_past v start)) (at i) ≡ true
one_past v start i low high within one =
    let small : i < 256 = omega (arith, high, within) in
    let same : i - 0 ≡ i = omega arith in
    let in_place : is_place (at i) ≡ true = lt-ltb i 256 small in
    let one_from : is_one_from v (at 0) (at i)
    ≡ true = and_from (nat_le 0 i) (number_has_one v (i - 0)) (le-leb 0 i (omega arith))
    (ap (number_has_one v) same ∙ one) in
    let past : is_past start (at i) ≡ true =
    and_from (nat_le start i) (nat_lt i (start + (256 - start))) (le-leb start i low) (lt-ltb i (start + (256 - start)) high) in
    let both : is_one_past v start (at i) ≡ true = and_from (is_one_from v (at 0) (at i)) (is_past start (at i)) one_from past in
    let there : (is_place (at i) && is_one_past v start (at i)) ≡ true = and_from (is_place (at i)) (is_one_past v start (at i)) in_place both in
    contains-places_where (is_one_past v start) (at i) ∙ there

-- such a position is a bit from the start on that is 1
one_of_past : (v : List ℕ) (start : ℕ) (p : Pos) → set.contains (places_where (is_one_past v start)) p ≡ true
    → list_any (number_has_one v) (range_with_len start (256 - start)) ≡ true
one_of_past v start p h =
    let parts = and_parts (is_place p) (is_one_past v start p) (sym (contains-places_where (is_one_past v start) p) ∙ h) in
    let both = and_parts (is_one_from v (at 0) p) (is_past start p) parts.1 in
    let from = and_parts (0 == p.block) (nat_le 0 p.bit && number_has_one v (p.bit - 0)) both.0 in
    let one = and_parts (nat_le 0 p.bit) (number_has_one v (p.bit - 0)) from.1 in
    let in_block = and_parts (0 == p.block) (nat_le start p.bit && nat_lt p.bit (start + (256 - start))) both.1 in
    let in_run = and_parts (nat_le start p.bit) (nat_lt p.bit (start + (256 - start))) in_block.1 in
    let same : p.bit ≡ p.bit - 0 = omega arith in
    any_in_range (number_has_one v) start (256 - start) p.bit (leb-true start p.bit in_run.0) (ltb-true p.bit (start + (256 - start)) in_run.1)
    (ap (number_has_one v) same ∙ one.1)

-- a number at the front of a block meets the positions from a bit on where it has a 1 from that bit on
pub sets_meet-from : (v : List ℕ) (start : ℕ) → start ≤ 256 → sets_meet (places_where (is_one_from v (at 0))) (run (at start) (256 - start))
    ≡ list_any (number_has_one v) (range_with_len start (256 - start))
sets_meet-from v start within =
    ap (λ (s : Positions). not (is_empty s)) (intersection-of_tests (is_one_from v (at 0)) (is_past start))
    ∙ one_truth _ _
    (λ met. true_from_ne_false _ (λ none.
    both_ways _ (not-true _ met) (is_empty-from_none _ (λ p. false_from_ne_true _ (λ there. both_ways _ none (one_of_past v start p there))))))
    (λ one. let found = in_range_any (number_has_one v) start (256 - start) one in
    not_from_false _ (false_from_ne_true _ (λ empty.
    both_ways _ (none_in _ empty (at found.0)) (one_past v start found.0 found.1 found.2 within found.3))))

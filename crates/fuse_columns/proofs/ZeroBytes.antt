-- Zeros stand for nothing, and nothing is zeros.
use Rattle.std.proofs.Common.{◌≡◌, ◌+◌, ◌-◌, ◌*◌, ◌/◌, ◌%◌, ◌<◌, ◌&&◌, ◌∷◌, ◌++◌, get_or, ◌==◌, if◌then◌else◌}
use Rattle.text_core.proofs.Kit.{ℕ, zero, suc, false, List, [], length, take, drop, None, refl, sym, ap, ap₂, ◌∙◌, inl, inr, arith, nat_cmp, bit_at, cases_Bool}
use Rattle.text_core.proofs.Kit.{cond-true, cond-false, and_right, drop-replicate, take-replicate, replicate-append-replicate, length-replicate}
use Rattle.std.specs.FinSet as set
use Rattle.std.specs.FinMap as map
use Rattle.text_core.specs.Prelude.{zeros}
use Rattle.fusemap_core.specs.declared.pos.Pos.{Pos}
use Rattle.fusemap_core.specs.Prelude.{Map, IsMap}
use Rattle.fuse_image.specs.Prelude.{pos_cmp}
use Rattle.fuse_image.proofs.BitSets.{zeros_at}
use Rattle.fuse_image.proofs.Sets.{same_places}
use Rattle.fuse_image.proofs.Tables.{table_where-same}
use Rattle.fuse_columns.specs.Prelude.{bits_column, bits_in, bits_length, is_plain, bytes_have_one, start_of_block, key_blocks, key_in_bytes, key_of_bytes}
use Rattle.fuse_columns.specs.Prelude.{keys_column, keys_in, keys_length, todo_column, pending_in, AreKeyBytes, ZerosAreNothing, NothingIsZeros}
use Rattle.fuse_columns.proofs.BytesBack.{bytes_back}
use Rattle.fuse_columns.proofs.KeyBytes.{key_of_bytes-other}
use Rattle.fuse_columns.proofs.WorkBytesBack.{key_bytes_back}

zeros_after : (count n : ℕ) → drop n (zeros count) ≡ zeros (count - n)
zeros_after count n = drop-replicate n count 0

reads_none : (blocks : List ℕ) (count : ℕ) (p : Pos) → bytes_have_one blocks (zeros count) p ≡ false
reads_none blocks count p =
    let none : bit_at 0 (p.bit % 8) ≡ 0 = omega arith in
    ap (λ k. bit_at k (p.bit % 8) == 1) (zeros_at count (start_of_block blocks p.block + p.bit / 8)) ∙ ap (λ k. k == 1) none

no_bits : (m : Map) (count : ℕ) → bits_in m (zeros count) ≡ set.empty
unfolding bits_in
no_bits m count =
    same_places (λ p. is_plain m p && bytes_have_one m.blocks (zeros count) p) set.empty
    (λ p _. and_right (is_plain m p) (bytes_have_one m.blocks (zeros count) p) (reads_none m.blocks count p) ∙ sym (set.contains-empty pos_cmp p))
    (λ p _. set.contains-empty pos_cmp p)

no_key : (blocks : List ℕ) (count block : ℕ) → key_in_bytes blocks (zeros count) block ≡ None
no_key [] count block = refl
no_key (b ∷ blocks) count block =
    elim (cases_Bool (b == block)) as (λ _.
    (if b == block then key_of_bytes (take 33 (zeros count))
    else key_in_bytes blocks (drop 33 (zeros count)) block) ≡ None) [
      | inl here ↦
          cond-true (b == block) (key_of_bytes (take 33 (zeros count))) (key_in_bytes blocks (drop 33 (zeros count)) block) here
          ∙ key_of_bytes-other (zeros count) (λ e. omega (arith, e, zeros_at count 0))
      | inr other ↦
          cond-false (b == block) (key_of_bytes (take 33 (zeros count))) (key_in_bytes blocks (drop 33 (zeros count)) block) other
          ∙ (ap (λ bytes. key_in_bytes blocks bytes block) (zeros_after count 33) ∙ no_key blocks (count - 33) block)
    ]

no_keys : (m : Map) (count : ℕ) → keys_in m (zeros count) ≡ map.empty
unfolding keys_in
no_keys m count =
    table_where-same (key_in_bytes (key_blocks m.fields) (zeros count)) map.empty
    (λ block _. no_key (key_blocks m.fields) count block ∙ sym (map.get-empty {X = List ℕ} nat_cmp block))
    (λ block _. map.get-empty {X = List ℕ} nat_cmp block)

pub zeros_are_nothing : (m : Map) (count : ℕ) → ZerosAreNothing m count
unfolding pending_in
zeros_are_nothing m count =
    let n : ℕ = bits_length m in
    let second : bits_in m (drop n (zeros count)) ≡ set.empty = ap (bits_in m) (zeros_after count n) ∙ no_bits m (count - n) in
    let keys : keys_in m (drop (n + n) (zeros count)) ≡ map.empty = ap (keys_in m) (zeros_after count (n + n)) ∙ no_keys m (count - (n + n)) in
    record {
      bits = no_bits m count;
      keys = no_keys m count;
      work = λ i. record { first = no_bits m count i; second = second i; keys = keys i };
    }

-- nothing as zeros
zero_bits : (m : Map) → IsMap m → bits_column m set.empty ≡ zeros (bits_length m)
zero_bits m is =
    ap (bits_column m) (sym (no_bits m (bits_length m))) ∙ bytes_back m is (zeros (bits_length m)) (record {
      size = length-replicate (bits_length m) 0;
      small = λ k d low. all_small (bits_length m) k d low;
      keys = λ p _ _. reads_none m.blocks (bits_length m) p;
    })
  where
    all_small : (count k d : ℕ) → k < length (zeros count) → get_or (zeros count) k d < 256
    all_small zero k d low = absurd (omega (arith, low))
    all_small (suc count) zero d low = omega arith
    all_small (suc count) (suc k) d low = all_small count k d (omega (arith, low))

are_zero_keys : (count : ℕ) → AreKeyBytes count (zeros (33 * count))
are_zero_keys zero = refl
are_zero_keys (suc count) =
    let rest : 33 * suc count - 33 ≡ 33 * count = omega arith in
    ((None, tt, take-replicate 33 (33 * suc count) 0 (omega arith)), rw (zeros_after (33 * suc count) 33 ∙ ap zeros rest) (are_zero_keys count))

zero_keys : (m : Map) → IsMap m → keys_column m map.empty ≡ zeros (keys_length m)
zero_keys m is =
    ap (keys_column m) (sym (no_keys m (keys_length m))) ∙ key_bytes_back m is (zeros (keys_length m)) (are_zero_keys (length (key_blocks m.fields)))

pub nothing_is_zeros : (m : Map) → IsMap m → NothingIsZeros m
unfolding todo_column
nothing_is_zeros m is =
    let n : ℕ = bits_length m in
    let k : ℕ = keys_length m in
    let whole : n + n + k ≡ n + (n + k) = omega arith in
    record {
      bits = zero_bits m is;
      keys = zero_keys m is;
      work =
          ap₂ (λ (xs ys : List ℕ). xs ++ ys) (ap₂ (λ (xs ys : List ℕ). xs ++ ys) (zero_bits m is) (zero_bits m is) ∙ replicate-append-replicate n n 0)
          (zero_keys m is)
          ∙ (replicate-append-replicate (n + n) k 0 ∙ ap zeros whole);
    }

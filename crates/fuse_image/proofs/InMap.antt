-- Sets and tables of a map stay in it, and so does what a chip shows.
use Rattle.std.proofs.Common.{◌≡◌, ◌*◌, ◌/◌, ◌%◌, ◌<◌, ◌&&◌, ◌==◌, if◌then◌else◌, ◌⊎◌}
use Rattle.text_core.proofs.Kit.{ℕ, Bool, true, false, not, List, [], length, Option, Some, None, IfSome, refl, sym, ap, ◌∙◌, inl, inr, arith, is_some}
use Rattle.text_core.proofs.Kit.{slice_index, slice_index_or, bit_at, option_or, nat_cmp, cases_lt, and_parts, or_cases, false≢true, not-true, get_or_past}
use Rattle.std.specs.FinSet as set
use Rattle.std.specs.FinMap as map
use Rattle.std.proofs.Math.ListN.{get_or-map}
use Rattle.sha2.specs.Sha256.{sha256}
use Rattle.sha2.proofs.Facts256.{length-sha256}
use Rattle.fusemap_core.specs.declared.pos.Pos.{Pos}
use Rattle.fusemap_core.specs.Prelude.{Map, IsPosition, word_count}
use Rattle.fuse_image.specs.Prelude.{HoldsDigests, KeyTable, keys_union, keys_without, table_where, is_key_block, is_key_position, pos_cmp, pos_total}
use Rattle.fuse_image.specs.Prelude.{contains-places_where, is_place, bytes_of_block, WordsFitMap, block_has_one, words_have_one, redacted, shown_key, AreBits}
use Rattle.fuse_image.specs.Prelude.{AreKeysOf, SetsStay, TablesStay, ReadBacksInMap}
use Rattle.fuse_image.proofs.Tables.{get_within, get_past, HoldsDigests-table_where}
use Rattle.fuse_image.proofs.Redacted.{AreKeys-redacted}

-- a block with a bit is one of the blocks
pub block_is : (blocks : List ℕ) (block bit : ℕ) → bit < 32 * word_count blocks block → block < length blocks
block_is blocks block bit low = elim (cases_lt block (length blocks)) as (λ _. block < length blocks) [
  | inl is ↦ is
  | inr high ↦ absurd (omega (arith, low, get_or_past blocks block 0 high))
]

pub sets_stay : (m : Map) → SetsStay m
sets_stay m = record {
  none = λ p has. absurd (false≢true (sym (set.contains-empty pos_cmp p) ∙ has));
  union = λ s t s_in_map t_in_map p has.
      elim (or_cases (set.contains s p) (set.contains t p) (sym (set.contains-union pos_total s t p) ∙ has)) as (λ _.
      IsPosition m.blocks p × (is_key_position m p ≡ false)) [
        | inl one ↦ s_in_map p one
        | inr other ↦ t_in_map p other
      ];
  difference = λ s t s_in_map p has. s_in_map p (and_parts (set.contains s p) (not (set.contains t p)) (sym (set.contains-difference pos_total s t p) ∙ has)).0;
}

-- keys of a table that takes them from others
one_of_two : (a b : Option (List ℕ)) → is_some (option_or a b) ≡ true → (is_some a ≡ true) ⊎ (is_some b ≡ true)
one_of_two (Some x) b has = inl refl
one_of_two None b has = inr has

first_of_two : (is : Bool) (a : Option (List ℕ)) → is_some (if is then None else a) ≡ true → is_some a ≡ true
first_of_two true a has = absurd (false≢true has)
first_of_two false a has = has

from_table : (f : ℕ → Option (List ℕ)) (block : ℕ) → is_some (map.get (table_where f) block) ≡ true → is_some (f block) ≡ true
from_table f block has = elim (cases_lt block 4) as (λ _. is_some (f block) ≡ true) [
  | inl low ↦ sym (ap is_some (get_within f block low)) ∙ has
  | inr high ↦ absurd (false≢true (sym (ap is_some (get_past f block (λ low. omega (arith, low, high)))) ∙ has))
]

each_digest : (a b : Option (List ℕ)) → IfSome a (λ d. length d ≡ 32) → IfSome b (λ d. length d ≡ 32) → IfSome (option_or a b) (λ d. length d ≡ 32)
each_digest (Some x) b first second = first
each_digest None b first second = second

left_digest : (is : Bool) (a : Option (List ℕ)) → IfSome a (λ d. length d ≡ 32) → IfSome (if is then None else a) (λ d. length d ≡ 32)
left_digest true a first = tt
left_digest false a first = first

joined_in_map : (m : Map) (t u : KeyTable) → AreKeysOf m t → AreKeysOf m u → AreKeysOf m (keys_union t u)
unfolding keys_union
joined_in_map m t u t_in_map u_in_map = record {
  keys = λ block has.
      elim (one_of_two (map.get t block) (map.get u block) (from_table (λ b. option_or (map.get t b) (map.get u b)) block has)) as (λ _.
      (block < 4) × (is_key_block m block ≡ true)) [
        | inl one ↦ t_in_map.keys block one
        | inr other ↦ u_in_map.keys block other
      ];
  digests =
      HoldsDigests-table_where (λ b. option_or (map.get t b) (map.get u b)) (λ block.
      each_digest (map.get t block) (map.get u block) (t_in_map.digests block) (u_in_map.digests block));
}

without_in_map : (m : Map) (t u : KeyTable) → AreKeysOf m t → AreKeysOf m (keys_without t u)
unfolding keys_without
without_in_map m t u t_in_map = record {
  keys = λ block has.
      t_in_map.keys block (first_of_two (is_some (map.get u block)) (map.get t block)
      (from_table (λ b. if is_some (map.get u b) then None else map.get t b) block has));
  digests =
      HoldsDigests-table_where (λ b. if is_some (map.get u b) then None else map.get t b) (λ block.
      left_digest (is_some (map.get u block)) (map.get t block) (t_in_map.digests block));
}

no_keys : KeyTable
no_keys = map.empty

none_at : (block : ℕ) → map.get no_keys block ≡ None
unfolding no_keys
none_at block = map.get-empty {X = List ℕ} nat_cmp block

none_in_map : (m : Map) → AreKeysOf m no_keys
none_in_map m = record {
  keys = λ block has. absurd (false≢true (sym (ap is_some (none_at block)) ∙ has));
  digests = λ block. rw (none_at block) tt;
}

pub tables_stay : (m : Map) → TablesStay m
unfolding no_keys
tables_stay m = record {
  none = none_in_map m;
  joined = λ t u t_in_map u_in_map. joined_in_map m t u t_in_map u_in_map;
  without = λ t u t_in_map. without_in_map m t u t_in_map;
}

-- a bit past the words of a block reads 0
ones_in_blocks : (m : Map) (blocks : List (List ℕ)) → WordsFitMap m blocks → (p : Pos)
    → words_have_one blocks p ≡ true → p.bit < 32 * word_count m.blocks p.block
ones_in_blocks m blocks fits p one =
    let block : List ℕ = slice_index_or blocks p.block [] in
    let count : word_count m.blocks p.block ≡ length block = ap (λ (bs : List ℕ). slice_index bs p.block) (sym fits) ∙ get_or-map length blocks p.block [] in
    elim (cases_lt p.bit (32 * length block)) as (λ _. p.bit < 32 * word_count m.blocks p.block) [
      | inl low ↦ omega (arith, low, count)
      | inr high ↦
          let none : bit_at 0 (p.bit % 32) ≡ 0 = omega arith in
          absurd (false≢true (sym (ap (λ (word : ℕ). bit_at word (p.bit % 32) == 1) (get_or_past block (p.bit / 32) 0 (omega (arith, high))) ∙ ap (λ k.
          k == 1) none) ∙ one))
    ]

ones_in_map : (m : Map) (blocks : List (List ℕ)) → WordsFitMap m blocks → AreBits m (redacted m blocks).ones
unfolding redacted
ones_in_map m blocks fits p has =
    let parts =
    and_parts (is_place p) (words_have_one blocks p && not (is_key_position m p))
    (sym (contains-places_where (λ q. words_have_one blocks q && not (is_key_position m q)) p) ∙ has) in
    let both = and_parts (words_have_one blocks p) (not (is_key_position m p)) parts.1 in
    let low : p.bit < 32 * word_count m.blocks p.block = ones_in_blocks m blocks fits p both.0 in
    (record { block = block_is m.blocks p.block p.bit low; bit = low }, not-true (is_key_position m p) both.1)

digest_or_none : (is : Bool) (message : List ℕ) → IfSome (if is then Some (sha256 message) else None) (λ d. length d ≡ 32)
digest_or_none true message = length-sha256 message
digest_or_none false message = tt

shown_digests : (m : Map) (blocks : List (List ℕ)) → HoldsDigests (redacted m blocks).shown
unfolding redacted
shown_digests m blocks =
    HoldsDigests-table_where (shown_key m blocks) (λ block.
    digest_or_none (is_key_block m block && block_has_one (slice_index_or blocks block [])) (bytes_of_block (slice_index_or blocks block [])))

pub read_backs_in_map : ReadBacksInMap
read_backs_in_map m blocks fits = record {
  ones = ones_in_map m blocks fits;
  shown = record { keys = AreKeys-redacted m blocks; digests = shown_digests m blocks };
}

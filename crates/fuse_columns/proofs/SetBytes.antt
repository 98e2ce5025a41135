-- Sets of positions as the bytes of all blocks, and back.
use Rattle.std.proofs.Common.{◌≡◌, ◌+◌, ◌*◌, ◌/◌, ◌%◌, ◌<◌, ◌≤◌, ◌&&◌, ◌∷◌, ◌++◌, ◌==◌}
use Rattle.text_core.proofs.Kit.{ℕ, zero, suc, Bool, true, false, not, All, List, [], length, refl, sym, ap, ap₂, ◌∙◌, inl, inr, arith, map, slice_index, sum}
use Rattle.text_core.proofs.Kit.{take, nat_lt, bit_at, to_le_bytes, w32, flat_map, range_with_len, cases_Bool, cases_lt, cond-true, cond-false, lt-ltb, le-ltb}
use Rattle.text_core.proofs.Kit.{ltb-true, and_parts, and_from, and_left, and_right, not-true, false≢true, false_from_ne_true, get_or_past, get_or_append_left}
use Rattle.text_core.proofs.Kit.{map-append, get_or-map-range_with_len, length-map-range_with_len, sum_by_more_le}
use Rattle.std.specs.FinSet as set
use Rattle.fusemap_core.specs.declared.pos.Pos.{Pos}
use Rattle.fusemap_core.specs.Prelude.{Map, IsMap, word_count}
use Rattle.fuse_image.specs.Prelude.{is_key_position, Positions, IsPlace, is_place, places_where, contains-places_where, pos_total, pos_exact, bit_in}
use Rattle.fuse_image.specs.Prelude.{number_with, position_of_bit, word_of, words_of_set as image_words, same_number, AreBits}
use Rattle.fuse_image.proofs.InMap.{block_is}
use Rattle.fuse_image.proofs.Sets.{places_where-at, none_outside, same_places, is_place-from_IsPlace}
use Rattle.fuse_columns.specs.Prelude.{byte_of, block_bytes, all_bytes, outside_keys, bits_column, bits_length, start_of_block, bytes_have_one, is_plain}
use Rattle.fuse_columns.specs.Prelude.{bits_in, bytes_of_words, bytes_of_blocks, word_at, word_of_block}
use Rattle.fuse_columns.proofs.Blocks.{bytes_of_words-zero, bytes_of_words-more}
use Rattle.fuse_columns.proofs.Bytes.{bytes_of_number, bit_of_bytes, number_reads}
use Rattle.fuse_columns.proofs.Pieces.{range-append, same_pieces, length-pieces, at_piece}

-- a byte of a word of a set
word_byte : (s : Positions) (block n byte : ℕ) (shift : ℕ → ℕ) → n < 8 → ((i : ℕ) → i < 8 → 32 * n + shift i ≡ 8 * byte + i)
    → number_with (λ i. set.contains s (position_of_bit (8 * block + n) (shift i))) 8 ≡ byte_of s block byte
word_byte s block n byte shift low same =
    same_number (λ i. set.contains s (position_of_bit (8 * block + n) (shift i))) (λ bit.
    set.contains s (record { block = block; bit = 8 * byte + bit })) 8 (λ i small.
    let there : (8 * block + n) / 8 ≡ block = omega (arith, low) in
    let index : (8 * block + n) % 8 ≡ n = omega (arith, low) in
    ap₂ (λ (b k : ℕ). set.contains s (record { block = b; bit = k })) there (ap (λ k. 32 * k + shift i) index ∙ same i small))

word_bytes : (s : Positions) (block n : ℕ) → n < 8
    → to_le_bytes w32 (word_of s (8 * block + n)) ≡ map (byte_of s block) (range_with_len (0 + 4 * n) 4)
word_bytes s block n low =
    let test : ℕ → Bool = λ bit. set.contains s (position_of_bit (8 * block + n) bit) in
    let b0 = word_byte s block n (0 + 4 * n) (λ i. i) low (λ i _. omega arith) in
    let b1 = word_byte s block n (0 + 4 * n + 1) (λ i. 8 + i) low (λ i _. omega arith) in
    let b2 = word_byte s block n (0 + 4 * n + 1 + 1) (λ i. 8 + (8 + i)) low (λ i _. omega arith) in
    let b3 = word_byte s block n (0 + 4 * n + 1 + 1 + 1) (λ i. 8 + (8 + (8 + i))) low (λ i _. omega arith) in
    bytes_of_number test ∙ (λ i. b0 i ∷ b1 i ∷ b2 i ∷ b3 i ∷ [])

word_of_words : (s : Positions) (k : ℕ) → k < 32 → slice_index (image_words s) k ≡ word_of s k
unfolding image_words
word_of_words s k low = get_or-map-range_with_len (word_of s) 0 32 k k 0 low (omega arith)

-- the bytes of a block by its words are those by its bits
block_by_words : (s : Positions) (block n : ℕ) → block < 4 → n ≤ 8 → bytes_of_words (image_words s) block n ≡ map (byte_of s block) (range_with_len 0 (4 * n))
block_by_words s block zero one few = sym (bytes_of_words-zero (image_words s) block)
block_by_words s block (suc n) one few =
    let next : suc n ≡ n + 1 = omega arith in
    let low : n < 8 = omega (arith, few) in
    let four : 4 * n + 4 ≡ 4 * suc n = omega arith in
    ap (bytes_of_words (image_words s) block) next
    ∙ (bytes_of_words-more (image_words s) block n
    ∙ (ap₂ (λ (xs ys : List ℕ). xs ++ ys) (block_by_words s block n one (omega (arith, few)))
    (ap (to_le_bytes w32) (word_of_words s (8 * block + n) (omega (arith, one, low))) ∙ word_bytes s block n low)
    ∙ (sym (map-append (byte_of s block) (range_with_len 0 (4 * n)) (range_with_len (0 + 4 * n) 4))
    ∙ (ap (map (byte_of s block)) (sym (range-append 0 (4 * n) 4)) ∙ ap (λ k. map (byte_of s block) (range_with_len 0 k)) four))))

-- 1 to 4 blocks of 1 to 8 words
pub record AreSmall (blocks : List ℕ) : Type 0 where
  pub few : length blocks ≤ 4
  pub short : All (λ count. count ≤ 8) blocks

pub small_blocks : (m : Map) → IsMap m → AreSmall m.blocks
small_blocks m is = record {
  few = is.ranges.most_blocks;
  short = λ k d low. (is.ranges.words k d low).1;
}

short_block : (blocks : List ℕ) → AreSmall blocks → (block : ℕ) → word_count blocks block ≤ 8
short_block blocks small block = elim (cases_lt block (length blocks)) as (λ _. word_count blocks block ≤ 8) [
  | inl low ↦ small.short block 0 low
  | inr high ↦ omega (arith, get_or_past blocks block 0 high)
]

all_by_words : (blocks : List ℕ) (s : Positions) → AreSmall blocks → bytes_of_blocks (image_words s) blocks (length blocks) ≡ all_bytes blocks s
unfolding bytes_of_blocks
all_by_words blocks s small =
    same_pieces (λ block. bytes_of_words (image_words s) block (word_count blocks block)) (block_bytes blocks s) (length blocks) (λ block low.
    block_by_words s block (word_count blocks block) (omega (arith, low, small.few)) (short_block blocks small block))

-- sets that agree on the positions of the blocks have the same bytes
same_map_range : (f g : ℕ → ℕ) (a n : ℕ) → ((k : ℕ) → k < a + n → f k ≡ g k) → map f (range_with_len a n) ≡ map g (range_with_len a n)
same_map_range f g a zero same = refl
same_map_range f g a (suc n) same =
    ap₂ (λ (x : ℕ) (xs : List ℕ). x ∷ xs) (same a (omega arith)) (same_map_range f g (a + 1) n (λ k low. same k (omega (arith, low))))

pub same_bytes : (blocks : List ℕ) (s t : Positions) → ((p : Pos) → p.bit < 32 * word_count blocks p.block → set.contains s p ≡ set.contains t p)
    → all_bytes blocks s ≡ all_bytes blocks t
same_bytes blocks s t same = same_pieces (block_bytes blocks s) (block_bytes blocks t) (length blocks) (λ block _.
    same_map_range (byte_of s block) (byte_of t block) 0 (4 * word_count blocks block) (λ i low.
    same_number (λ bit. set.contains s (record { block = block; bit = 8 * i + bit })) (λ bit.
    set.contains t (record { block = block; bit = 8 * i + bit })) 8 (λ bit small.
    same (record { block = block; bit = 8 * i + bit }) (omega (arith, low, small)))))

-- the words of a set without key positions give the set's column
pub column_by_words : (m : Map) (s : Positions) → IsMap m → bytes_of_blocks (image_words (set.difference s (places_where (is_key_position m)))) m.blocks
    (length m.blocks) ≡ bits_column m s
unfolding bits_column
column_by_words m s is =
    let keys : Positions = places_where (is_key_position m) in
    let small = small_blocks m is in
    all_by_words m.blocks (set.difference s keys) small ∙ same_bytes m.blocks (set.difference s keys) (outside_keys m s) (λ p low.
    let block : p.block < 4 = omega (arith, block_is m.blocks p.block p.bit low, small.few) in
    let bit : p.bit < 256 = omega (arith, low, short_block m.blocks small p.block) in
    set.contains-difference pos_total s keys p
    ∙ (ap (λ b. set.contains s p && not b) (places_where-at (is_key_position m) p (block, bit))
    ∙ sym (set.contains-retain s (λ q. not (is_key_position m q)) p (λ q e. ap (λ (r : Pos). not (is_key_position m r)) (sym (pos_exact p q e))))))

-- how many bytes there are
length_block_bytes : (blocks : List ℕ) (s : Positions) (k : ℕ) → length (block_bytes blocks s k) ≡ 4 * slice_index blocks k
length_block_bytes blocks s k = length-map-range_with_len (byte_of s k) 0 (4 * word_count blocks k)

take_whole : (xs : List ℕ) → take (length xs) xs ≡ xs
take_whole [] = refl
take_whole (x ∷ xs) = ap (λ ys. x ∷ ys) (take_whole xs)

length-all_bytes : (blocks : List ℕ) (s : Positions) → length (all_bytes blocks s) ≡ 4 * sum blocks
length-all_bytes blocks s =
    length-pieces blocks (block_bytes blocks s) (length_block_bytes blocks s) (length blocks) (omega arith) ∙ ap (λ xs. 4 * sum xs) (take_whole blocks)

pub length-bits_column : (m : Map) (s : Positions) → length (bits_column m s) ≡ bits_length m
unfolding bits_column
length-bits_column m s = length-all_bytes m.blocks (outside_keys m s)

-- what the bytes of a set read at a position of the blocks
pub reads_set : (blocks : List ℕ) (s : Positions) (rest : List ℕ) (p : Pos) → p.bit < 32 * word_count blocks p.block
    → bytes_have_one blocks (all_bytes blocks s ++ rest) p ≡ set.contains s p
reads_set blocks s rest p low =
    let block = p.block in
    let i : ℕ = p.bit / 8 in
    let one : block < length blocks = block_is blocks block p.bit low in
    let within : i < 4 * word_count blocks block = omega (arith, low) in
    let before : length (flat_map (block_bytes blocks s) (range_with_len 0 block)) ≡ start_of_block blocks block =
    length-pieces blocks (block_bytes blocks s) (length_block_bytes blocks s) block (omega (arith, one)) in
    let room : start_of_block blocks block + i < length (all_bytes blocks s) =
    omega (arith, within, length-all_bytes blocks s, sum_by_more_le (λ x. x) blocks block 0 one) in
    let there : i < length (block_bytes blocks s block) = omega (arith, within, length_block_bytes blocks s block) in
    let byte : slice_index (all_bytes blocks s ++ rest) (start_of_block blocks block + i) ≡ byte_of s block i =
    get_or_append_left (all_bytes blocks s) rest 0 (start_of_block blocks block + i) room
    ∙ (at_piece (block_bytes blocks s) (length blocks) block i (start_of_block blocks block) one there before
    ∙ get_or-map-range_with_len (byte_of s block) 0 (4 * word_count blocks block) i i 0 within (omega arith)) in
    let again : 8 * (p.bit / 8) + p.bit % 8 ≡ p.bit = omega arith in
    ap (λ k. bit_at k (p.bit % 8) == 1) byte
    ∙ (number_reads (λ bit. set.contains s (record { block = block; bit = 8 * i + bit })) 8 (p.bit % 8) (omega arith)
    ∙ ap (λ k. set.contains s (record { block = block; bit = k })) again)

-- a position of the map is one of the 1,024
pub in_place : (m : Map) → IsMap m → (p : Pos) → p.bit < 32 * word_count m.blocks p.block → is_place p ≡ true
in_place m is p low =
    let small = small_blocks m is in
    is_place-from_IsPlace p (omega (arith, block_is m.blocks p.block p.bit low, small.few), omega (arith, low, short_block m.blocks small p.block))

plain_place : (m : Map) → IsMap m → (p : Pos) → is_plain m p ≡ true → is_place p ≡ true
plain_place m is p plain = in_place m is p (ltb-true p.bit (32 * word_count m.blocks p.block) (and_parts _ _ plain).0)

contains-plain : (m : Map) (s : Positions) (p : Pos) → set.contains (set.retain s (is_plain m)) p ≡ (set.contains s p && is_plain m p)
contains-plain m s p = set.contains-retain s (is_plain m) p (λ q e. ap (is_plain m) (sym (pos_exact p q e)))

contains-outside : (m : Map) (s : Positions) (p : Pos) → set.contains (outside_keys m s) p ≡ (set.contains s p && not (is_key_position m p))
contains-outside m s p = set.contains-retain s (λ q. not (is_key_position m q)) p (λ q e. ap (λ (r : Pos). not (is_key_position m r)) (sym (pos_exact p q e)))

-- what comes back of a set from its column, whatever follows it: its positions that are the map's, outside key fields
pub bits_back : (m : Map) → IsMap m → (s : Positions) (rest : List ℕ) → bits_in m (bits_column m s ++ rest) ≡ set.retain s (is_plain m)
unfolding bits_in bits_column
bits_back m is s rest =
    let bytes : List ℕ = all_bytes m.blocks (outside_keys m s) ++ rest in
    same_places (λ p. is_plain m p && bytes_have_one m.blocks bytes p) (set.retain s (is_plain m))
    (λ p _. elim (cases_Bool (is_plain m p)) as (λ _. (is_plain m p && bytes_have_one m.blocks bytes p) ≡ set.contains (set.retain s (is_plain m)) p) [
      | inl plain ↦
          let parts = and_parts _ _ plain in
          let low : p.bit < 32 * word_count m.blocks p.block = ltb-true p.bit (32 * word_count m.blocks p.block) parts.0 in
          ap (λ b. b && bytes_have_one m.blocks bytes p) plain
          ∙ (reads_set m.blocks (outside_keys m s) rest p low
          ∙ (contains-outside m s p ∙ (ap (λ b. set.contains s p && b) (parts.1 ∙ sym plain) ∙ sym (contains-plain m s p))))
      | inr not_one ↦
          ap (λ b. b && bytes_have_one m.blocks bytes p) not_one ∙ sym (contains-plain m s p ∙ and_right (set.contains s p) (is_plain m p) not_one)
    ])
    (λ p outside. contains-plain m s p ∙ and_right (set.contains s p) (is_plain m p) (false_from_ne_true (is_plain m p) (λ plain.
    false≢true (sym outside ∙ plain_place m is p plain))))

-- a set of such positions comes back whole
pub bits_return : (m : Map) → IsMap m → (s : Positions) (rest : List ℕ) → AreBits m s → bits_in m (bits_column m s ++ rest) ≡ s
bits_return m is s rest bits =
    bits_back m is s rest ∙ set.same_set pos_total pos_exact (set.retain s (is_plain m)) s (λ p.
    contains-plain m s p ∙ kept (set.contains s p) (is_plain m p) (λ has.
    and_from (nat_lt p.bit (32 * word_count m.blocks p.block)) (not (is_key_position m p)) (lt-ltb p.bit (32 * word_count m.blocks p.block) (bits p has).0.bit)
    (ap not (bits p has).1)))
  where
    kept : (a b : Bool) → (a ≡ true → b ≡ true) → (a && b) ≡ a
    kept true b h = h refl
    kept false b h = refl

-- each position that comes back is the map's, outside key fields
pub AreBits-bits_in : (m : Map) (bytes : List ℕ) → AreBits m (bits_in m bytes)
unfolding bits_in
AreBits-bits_in m bytes p has =
    let parts =
    and_parts (is_place p) (is_plain m p && bytes_have_one m.blocks bytes p)
    (sym (contains-places_where (λ q. is_plain m q && bytes_have_one m.blocks bytes q) p) ∙ has) in
    let plain = and_parts (is_plain m p) (bytes_have_one m.blocks bytes p) parts.1 in
    let both = and_parts (nat_lt p.bit (32 * word_count m.blocks p.block)) (not (is_key_position m p)) plain.0 in
    let low : p.bit < 32 * word_count m.blocks p.block = ltb-true p.bit (32 * word_count m.blocks p.block) both.0 in
    (record { block = block_is m.blocks p.block p.bit low; bit = low }, not-true (is_key_position m p) both.1)

-- the bits of words that are read from bytes
four_at : (bytes : List ℕ) (i q : ℕ) → q < 4
    → slice_index (slice_index bytes (4 * i) ∷ slice_index bytes (4 * i + 1) ∷ slice_index bytes (4 * i + 2) ∷ slice_index bytes (4 * i + 3) ∷ []) q
    ≡ slice_index bytes (4 * i + q)
four_at bytes i zero low = let e : 4 * i ≡ 4 * i + 0 = omega arith in ap (slice_index bytes) e
four_at bytes i (suc zero) low = refl
four_at bytes i (suc (suc zero)) low = refl
four_at bytes i (suc (suc (suc zero))) low = refl
four_at bytes i (suc (suc (suc (suc q)))) low = absurd (omega (arith, low))

bit_of_word_at : (bytes : List ℕ) → ((i : ℕ) → slice_index bytes i < 256) → (i j : ℕ) → j < 32
    → bit_at (word_at bytes i) j ≡ bit_at (slice_index bytes (4 * i + j / 8)) (j % 8)
bit_of_word_at bytes small i j low =
    bit_of_bytes (slice_index bytes (4 * i)) (slice_index bytes (4 * i + 1)) (slice_index bytes (4 * i + 2)) (slice_index bytes (4 * i + 3)) j
    (small (4 * i)) (small (4 * i + 1)) (small (4 * i + 2)) low
    ∙ ap (λ k. bit_at k (j % 8)) (four_at bytes i (j / 8) (omega (arith, low)))

-- the words are those of the bytes, eight a block
abbrev pub AreWordsIn : List ℕ → List ℕ → List ℕ → Type 0
AreWordsIn blocks bytes words = (k : ℕ) → k < 32 → slice_index words k ≡ word_of_block blocks bytes (k / 8) (k % 8)

bit_in_words : (blocks bytes words : List ℕ) → ((i : ℕ) → slice_index bytes i < 256) → AreWordsIn blocks bytes words → (p : Pos) → IsPlace p
    → bit_in words p ≡ (nat_lt p.bit (32 * word_count blocks p.block) && bytes_have_one blocks bytes p)
bit_in_words blocks bytes words small each p is =
    let word : ℕ = p.bit / 32 in
    let count : ℕ = word_count blocks p.block in
    let block : (8 * p.block + p.bit / 32) / 8 ≡ p.block = omega (arith, is.1) in
    let index : (8 * p.block + p.bit / 32) % 8 ≡ p.bit / 32 = omega (arith, is.1) in
    let read : slice_index words (8 * p.block + p.bit / 32) ≡ word_of_block blocks bytes p.block word =
    each (8 * p.block + p.bit / 32) (omega (arith, is.0, is.1)) ∙ ap₂ (λ (b i : ℕ). word_of_block blocks bytes b i) block index in
    ap (λ k. bit_at k (p.bit % 32) == 1) read ∙ elim (cases_lt p.bit (32 * count)) as (λ _.
    (bit_at (word_of_block blocks bytes p.block word) (p.bit % 32) == 1) ≡ (nat_lt p.bit (32 * count) && bytes_have_one blocks bytes p)) [
      | inl low ↦
          let there : nat_lt word count ≡ true = lt-ltb word count (omega (arith, low)) in
          let byte : 4 * (sum (take p.block blocks) + p.bit / 32) + p.bit % 32 / 8 ≡ start_of_block blocks p.block + p.bit / 8 = omega arith in
          let bit : p.bit % 32 % 8 ≡ p.bit % 8 = omega arith in
          ap (λ k. bit_at k (p.bit % 32) == 1) (cond-true (nat_lt word count) (word_at bytes (sum (take p.block blocks) + word)) 0 there)
          ∙ (ap (λ k. k == 1) (bit_of_word_at bytes small (sum (take p.block blocks) + word) (p.bit % 32) (omega arith)
          ∙ ap₂ (λ (a b : ℕ). bit_at (slice_index bytes a) b) byte bit)
          ∙ ap (λ b. b && bytes_have_one blocks bytes p) (sym (lt-ltb p.bit (32 * count) low)))
      | inr high ↦
          let none : nat_lt word count ≡ false = le-ltb word count (omega (arith, high)) in
          let zero_bit : bit_at 0 (p.bit % 32) ≡ 0 = omega arith in
          ap (λ k. bit_at k (p.bit % 32) == 1) (cond-false (nat_lt word count) (word_at bytes (sum (take p.block blocks) + word)) 0 none)
          ∙ (ap (λ k. k == 1) zero_bit ∙ ap (λ b. b && bytes_have_one blocks bytes p) (sym (le-ltb p.bit (32 * count) high)))
    ]

turned : (a k r : Bool) → ((a && not k) && r) ≡ ((a && r) && not k)
turned true true true = refl
turned true true false = refl
turned true false true = refl
turned true false false = refl
turned false k r = refl

pub bits_by_words : (m : Map) (bytes words : List ℕ) → ((i : ℕ) → slice_index bytes i < 256) → AreWordsIn m.blocks bytes words
    → set.difference (places_where (bit_in words)) (places_where (is_key_position m)) ≡ bits_in m bytes
unfolding bits_in
bits_by_words m bytes words small each =
    let ones : Positions = places_where (bit_in words) in
    let keys : Positions = places_where (is_key_position m) in
    sym (same_places (λ p. is_plain m p && bytes_have_one m.blocks bytes p) (set.difference ones keys)
    (λ p is.
    turned (nat_lt p.bit (32 * word_count m.blocks p.block)) (is_key_position m p) (bytes_have_one m.blocks bytes p)
    ∙ sym (set.contains-difference pos_total ones keys p
    ∙ ap₂ (λ (a b : Bool). a && not b) (places_where-at (bit_in words) p is ∙ bit_in_words m.blocks bytes words small each p is)
    (places_where-at (is_key_position m) p is)))
    (λ p not_one. set.contains-difference pos_total ones keys p ∙ and_left _ _ (none_outside (bit_in words) p not_one)))

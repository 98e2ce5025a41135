-- The bytes of all blocks come back from the set that they stand for.
use Rattle.std.proofs.Common.{◌≡◌, ◌+◌, ◌*◌, ◌/◌, ◌%◌, ◌<◌, ◌≤◌, ◌&&◌, ◌∷◌, ◌++◌, ◌==◌}
use Rattle.text_core.proofs.Kit.{ℕ, zero, suc, Bool, true, false, not, All, List, [], length, take, drop, refl, sym, ap, ap₂, ◌∙◌, arith, length-drop}
use Rattle.text_core.proofs.Kit.{slice_index, sum, nat_lt, bit_at, flat_map, range_with_len, lt-ltb, and_from, true≢false, get_or-drop, get_or-take}
use Rattle.text_core.proofs.Kit.{length-take-le, take_all, fill_by_all, sum_by_more, sum_by_more_le, bit_at-lt, same_from_bits_below, take-add}
use Rattle.std.specs.FinSet as set
use Rattle.fusemap_core.specs.declared.pos.Pos.{Pos}
use Rattle.fusemap_core.specs.Prelude.{Map, IsMap, IsPosition, word_count}
use Rattle.fuse_image.specs.Prelude.{is_key_position, Positions, is_place, contains-places_where, pos_exact}
use Rattle.fuse_columns.proofs.Numbers.{number_with-lt}
use Rattle.fuse_columns.specs.Prelude.{byte_of, block_bytes, all_bytes, outside_keys, bits_column, start_of_block, bytes_have_one, is_plain, bits_in}
use Rattle.fuse_columns.specs.Prelude.{IsBitsColumn}
use Rattle.fuse_columns.proofs.Bytes.{number_reads}
use Rattle.fuse_columns.proofs.Pieces.{flat_map-range_more}
use Rattle.fuse_image.proofs.InMap.{block_is}
use Rattle.fuse_columns.proofs.SetBytes.{in_place}

-- bits that read alike are alike
alike : (x y : ℕ) → x < 2 → y < 2 → (x == 1) ≡ (y == 1) → x ≡ y
alike zero zero lx ly e = refl
alike (suc zero) (suc zero) lx ly e = refl
alike zero (suc zero) lx ly e = absurd (true≢false (sym e))
alike (suc zero) zero lx ly e = absurd (true≢false e)
alike (suc (suc x)) y lx ly e = absurd (omega (arith, lx))
alike zero (suc (suc y)) lx ly e = absurd (omega (arith, ly))
alike (suc zero) (suc (suc y)) lx ly e = absurd (omega (arith, ly))

-- the set has a position of the blocks where the bytes read 1
abbrev ReadsAlike : List ℕ → List ℕ → Positions → Type 0
ReadsAlike blocks bytes s = (p : Pos) → p.bit < 32 * word_count blocks p.block → bytes_have_one blocks bytes p ≡ set.contains s p

-- a byte comes back
byte_back : (blocks bytes : List ℕ) (s : Positions) → ((i : ℕ) → slice_index bytes i < 256) → ReadsAlike blocks bytes s → (block i : ℕ)
    → i < 4 * word_count blocks block
    → slice_index bytes (start_of_block blocks block + i) ≡ byte_of s block i
byte_back blocks bytes s small same block i low =
    let byte : ℕ = slice_index bytes (start_of_block blocks block + i) in
    same_from_bits_below 8 byte (byte_of s block i) (small (start_of_block blocks block + i))
    (number_with-lt (λ bit. set.contains s (record { block = block; bit = 8 * i + bit })) 8) (λ j few.
    let p : Pos = record { block = block; bit = 8 * i + j } in
    let at : (8 * i + j) / 8 ≡ i = omega (arith, few) in
    let bit : (8 * i + j) % 8 ≡ j = omega (arith, few) in
    let read : (bit_at byte j == 1) ≡ bytes_have_one blocks bytes p =
    ap₂ (λ (a b : ℕ). bit_at (slice_index bytes (start_of_block blocks block + a)) b == 1) (sym at) (sym bit) in
    alike (bit_at byte j) (bit_at (byte_of s block i) j) (bit_at-lt byte j) (bit_at-lt (byte_of s block i) j)
    (read ∙ (same p (omega (arith, low, few)) ∙ sym (number_reads (λ k. set.contains s (record { block = block; bit = 8 * i + k })) 8 j few))))

-- the bytes of the first blocks come back
first_back : (blocks bytes : List ℕ) (s : Positions) → length bytes ≡ 4 * sum blocks → ((i : ℕ) → slice_index bytes i < 256) → ReadsAlike blocks bytes s
    → (n : ℕ) → n ≤ length blocks → flat_map (block_bytes blocks s) (range_with_len 0 n) ≡ take (start_of_block blocks n) bytes
first_back blocks bytes s size small same zero low = refl
first_back blocks bytes s size small same (suc n) low =
    let next : suc n ≡ n + 1 = omega arith in
    let within : n < length blocks = omega (arith, low) in
    let start : ℕ = start_of_block blocks n in
    let count : ℕ = 4 * word_count blocks n in
    let further : start_of_block blocks (n + 1) ≡ start + count = omega (arith, sum_by_more (λ x. x) blocks n 0 within) in
    let room : count ≤ length (drop start bytes) = omega (arith, length-drop start bytes, size, sum_by_more_le (λ x. x) blocks n 0 within) in
    let piece : take count (drop start bytes) ≡ block_bytes blocks s n =
    fill_by_all (byte_of s n) (take count (drop start bytes)) count 0 (length-take-le count (drop start bytes) room) (λ i few.
    get_or-take count (drop start bytes) i 0 few ∙ (get_or-drop start bytes i 0 ∙ byte_back blocks bytes s small same n i few)) in
    ap (λ k. flat_map (block_bytes blocks s) (range_with_len 0 k)) next
    ∙ (flat_map-range_more (block_bytes blocks s) n
    ∙ (ap₂ (λ (xs ys : List ℕ). xs ++ ys) (first_back blocks bytes s size small same n (omega (arith, low))) (sym piece)
    ∙ (sym (take-add start count bytes) ∙ (ap (λ k. take k bytes) (sym further) ∙ ap (λ k. take (start_of_block blocks k) bytes) (sym next)))))

all_back : (blocks bytes : List ℕ) (s : Positions) → length bytes ≡ 4 * sum blocks → ((i : ℕ) → slice_index bytes i < 256) → ReadsAlike blocks bytes s
    → all_bytes blocks s ≡ bytes
all_back blocks bytes s size small same =
    first_back blocks bytes s size small same (length blocks) (omega arith)
    ∙ (ap (λ xs. take (4 * sum xs) bytes) (take_all (length blocks) blocks (omega arith)) ∙ take_all (4 * sum blocks) bytes (omega (arith, size)))

-- a byte of a list of bytes, or 0
small_at : (bytes : List ℕ) → All (λ byte. byte < 256) bytes → (i : ℕ) → slice_index bytes i < 256
small_at [] all i = omega arith
small_at (byte ∷ bytes) all zero = all 0 byte (omega arith)
small_at (byte ∷ bytes) all (suc i) = small_at bytes (λ k d low. all (suc k) d (omega (arith, low))) i

-- what the set has that the bytes stand for, less key fields
kept : (place plain key reads : Bool) → place ≡ true → (key ≡ false → plain ≡ true) → (key ≡ true → reads ≡ false)
    → ((place && (plain && reads)) && not key) ≡ reads
kept place plain true true is here none = absurd (true≢false (none refl))
kept place plain true false is here none = not_there (place && (plain && false))
  where
    not_there : (b : Bool) → (b && false) ≡ false
    not_there true = refl
    not_there false = refl
kept place plain false reads is here none =
    ap₂ (λ (a b : Bool). (a && (b && reads)) && true) is (here refl) ∙ there reads
  where
    there : (b : Bool) → (b && true) ≡ b
    there true = refl
    there false = refl

pub bytes_back : (m : Map) → IsMap m → (bytes : List ℕ) → IsBitsColumn m bytes → bits_column m (bits_in m bytes) ≡ bytes
unfolding bits_column bits_in
bytes_back m is bytes column =
    let s : Positions = bits_in m bytes in
    all_back m.blocks bytes (outside_keys m s) column.size (small_at bytes column.small) (λ p low.
    let position : IsPosition m.blocks p = record { block = block_is m.blocks p.block p.bit low; bit = low } in
    let inside : nat_lt p.bit (32 * word_count m.blocks p.block) ≡ true = lt-ltb p.bit (32 * word_count m.blocks p.block) low in
    sym (set.contains-retain s (λ q. not (is_key_position m q)) p (λ q e. ap (λ (r : Pos). not (is_key_position m r)) (sym (pos_exact p q e)))
    ∙ (ap (λ b. b && not (is_key_position m p)) (contains-places_where (λ q. is_plain m q && bytes_have_one m.blocks bytes q) p)
    ∙ kept (is_place p) (is_plain m p) (is_key_position m p) (bytes_have_one m.blocks bytes p)
    (in_place m is p low)
    (λ other. and_from (nat_lt p.bit (32 * word_count m.blocks p.block)) (not (is_key_position m p)) inside (ap not other))
    (column.keys p position))))

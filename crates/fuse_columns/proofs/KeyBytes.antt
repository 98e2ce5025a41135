-- Tables of keys as bytes, and back.
use Rattle.std.proofs.Common.{◌≡◌, ◌≢◌, ◌+◌, ◌*◌, ◌<◌, ◌&&◌, ◌∷◌, ◌++◌, get_or, drop-cons, ◌==◌, ◌||◌, if◌then◌else◌}
use Rattle.text_core.proofs.Kit.{ℕ, suc, true, false, List, [], length, take, drop, Option, Some, None, IfSome, refl, sym, ap, ◌∙◌, inl, inr, arith}
use Rattle.text_core.proofs.Kit.{length-append, slice_index, is_some, flat_map, list_any, cases_Bool, cases_lt, cond-true, cond-false, eq-eqb, eqb-true, ne_eqb}
use Rattle.text_core.proofs.Kit.{and_left, and_right, and_parts, or_left, or_right, false≢true, true≢false, append_assoc, take_all}
use Rattle.text_core.proofs.Kit.{take-append_seam, drop-append_seam}
use Rattle.std.specs.FinMap as map
use Rattle.fusemap_core.specs.declared.field.Field.{Field}
use Rattle.fusemap_core.specs.Prelude.{Map}
use Rattle.fuse_image.specs.Prelude.{HoldsDigests, KeyTable, is_key_block, AreKeys, AreKeysOf}
use Rattle.fuse_image.proofs.Tables.{HoldsDigests-table_where, get_within, get_past, table_where-same}
use Rattle.fuse_columns.specs.Prelude.{key_blocks, key_bytes, keys_column, key_of_bytes, key_in_bytes, keys_in}
use Rattle.fuse_columns.proofs.KeyFields.{key_blocks-key, key_block_is}

-- what 33 bytes stand for
pub key_of_bytes-short : (bytes : List ℕ) → length bytes < 33 → key_of_bytes (take 33 bytes) ≡ None
key_of_bytes-short [] low = refl
key_of_bytes-short (first ∷ bytes) low =
    let size : length (take 32 bytes) ≢ 32 = λ e. omega (arith, e, low, ap length (take_all 32 bytes (omega (arith, low)))) in
    cond-false (first == 1 && length (take 32 bytes) == 32) (Some (take 32 bytes)) None
    (and_right (first == 1) (length (take 32 bytes) == 32) (ne_eqb (length (take 32 bytes)) 32 size))

pub key_of_bytes-other : (bytes : List ℕ) → slice_index bytes 0 ≢ 1 → key_of_bytes (take 33 bytes) ≡ None
key_of_bytes-other [] other = refl
key_of_bytes-other (first ∷ bytes) other =
    cond-false (first == 1 && length (take 32 bytes) == 32) (Some (take 32 bytes)) None
    (and_left (first == 1) (length (take 32 bytes) == 32) (ne_eqb first 1 other))

with_key : (fields : List Field) (i : ℕ) (f : Field) (rest : List ℕ) (block : ℕ) → i < length fields → f ≡ get_or fields i f → f.key ≡ true
    → key_in_bytes (key_blocks (drop i fields)) rest block ≡ (if f.block == block then key_of_bytes (take 33 rest)
    else key_in_bytes (key_blocks (drop (i + 1) fields)) (drop 33 rest) block)
with_key fields i f rest block low at key =
    let next : suc i ≡ i + 1 = omega arith in
    ap (λ fs. key_in_bytes (key_blocks fs) rest block) (drop-cons fields i f low ∙ ap (λ (g : Field). g ∷ drop (suc i) fields) (sym at))
    ∙ (ap (λ bs. key_in_bytes bs rest block) (key_blocks-key f (drop (suc i) fields) key)
    ∙ ap (λ k. if f.block == block then key_of_bytes (take 33 rest) else key_in_bytes (key_blocks (drop k fields)) (drop 33 rest) block) next)

-- a key as bytes, and back
length-key_bytes : (o : Option (List ℕ)) → IfSome o (λ digest. length digest ≡ 32) → length (key_bytes o) ≡ 33
length-key_bytes None is = refl
length-key_bytes (Some digest) is = ap suc is

pub key_back : (o : Option (List ℕ)) → IfSome o (λ digest. length digest ≡ 32) → key_of_bytes (key_bytes o) ≡ o
key_back None is = refl
key_back (Some digest) is = cond-true (length digest == 32) (Some digest) None (eq-eqb (length digest) 32 is)

-- a block is one of a list that begins with it, and one of a longer list
pub in_first : (block : ℕ) (blocks : List ℕ) → list_any (λ c. c == block) (block ∷ blocks) ≡ true
in_first block blocks = ap (λ b. b || list_any (λ c. c == block) blocks) (eq-eqb block block refl)

pub in_rest : (first block : ℕ) (blocks : List ℕ) → list_any (λ c. c == block) blocks ≡ true → list_any (λ c. c == block) (first ∷ blocks) ≡ true
in_rest first block blocks has = or_right (first == block) (list_any (λ c. c == block) blocks) has

-- how many bytes the keys of these blocks have
pub length-keys : (t : KeyTable) (blocks : List ℕ) → HoldsDigests t → length (flat_map (λ block. key_bytes (map.get t block)) blocks) ≡ 33 * length blocks
length-keys t [] are = refl
length-keys t (b ∷ blocks) are =
    omega (
      arith,
      length-append (key_bytes (map.get t b)) (flat_map (λ block. key_bytes (map.get t block)) blocks),
      length-keys t blocks are,
      length-key_bytes (map.get t b) (are b),
    )

-- the key of a block comes back from the bytes of all, whatever follows them
pub key_in_bytes-keys : (t : KeyTable) (blocks : List ℕ) (more : List ℕ) (block : ℕ) → HoldsDigests t
    → key_in_bytes blocks (flat_map (λ b. key_bytes (map.get t b)) blocks ++ more) block ≡ (if list_any (λ c. c == block) blocks then map.get t block else None)
key_in_bytes-keys t [] more block are = refl
key_in_bytes-keys t (b ∷ blocks) more block are =
    let first : List ℕ = key_bytes (map.get t b) in
    let others : List ℕ = flat_map (λ c. key_bytes (map.get t c)) blocks in
    let size : length first ≡ 33 = length-key_bytes (map.get t b) (are b) in
    let split : (first ++ others) ++ more ≡ first ++ (others ++ more) = append_assoc first others more in
    let front : take 33 (first ++ (others ++ more)) ≡ first =
    ap (λ n. take n (first ++ (others ++ more))) (sym size) ∙ take-append_seam first (others ++ more) in
    let back : drop 33 (first ++ (others ++ more)) ≡ others ++ more =
    ap (λ n. drop n (first ++ (others ++ more))) (sym size) ∙ drop-append_seam first (others ++ more) in
    let rest = key_in_bytes-keys t blocks more block are in
    ap (λ bytes. key_in_bytes (b ∷ blocks) bytes block) split ∙ elim (cases_Bool (b == block)) as (λ _.
    (if b == block then key_of_bytes (take 33 (first ++ (others ++ more))) else key_in_bytes blocks (drop 33 (first ++ (others ++ more))) block)
    ≡ (if (b == block || list_any (λ c. c == block) blocks) then map.get t block else None)) [
      | inl here ↦
          cond-true (b == block) _ _ here
          ∙ (ap key_of_bytes front ∙ (key_back (map.get t b) (are b) ∙ (ap (map.get t) (eqb-true b block here)
          ∙ sym (cond-true (b == block || list_any (λ c. c == block) blocks) (map.get t block) None
          (or_left (b == block) (list_any (λ c. c == block) blocks) here)))))
      | inr other ↦
          cond-false (b == block) _ _ other
          ∙ (ap (λ bytes. key_in_bytes blocks bytes block) back ∙ (rest
          ∙ ap (λ e. if (e || list_any (λ c. c == block) blocks) then map.get t block else None) (sym other)))
    ]

-- a key that bytes stand for is one of a key field, and has 32 bytes
digest_of_key : (bytes : List ℕ) → IfSome (key_of_bytes bytes) (λ digest. length digest ≡ 32)
digest_of_key [] = tt
digest_of_key (first ∷ digest) =
    elim (cases_Bool (first == 1 && length digest == 32)) as (λ _.
    IfSome (if first == 1 && length digest == 32 then Some digest else None) (λ d. length d ≡ 32)) [
      | inl is ↦
          rw (cond-true (first == 1 && length digest == 32) (Some digest) None is)
          (eqb-true (length digest) 32 (and_parts (first == 1) (length digest == 32) is).1)
      | inr not_one ↦ rw (cond-false (first == 1 && length digest == 32) (Some digest) None not_one) tt
    ]

digest_in_keys : (blocks bytes : List ℕ) (block : ℕ) → IfSome (key_in_bytes blocks bytes block) (λ digest. length digest ≡ 32)
digest_in_keys [] bytes block = tt
digest_in_keys (b ∷ blocks) bytes block =
    elim (cases_Bool (b == block)) as (λ _.
    IfSome (if b == block then key_of_bytes (take 33 bytes)
    else key_in_bytes blocks (drop 33 bytes) block) (λ d. length d ≡ 32)) [
      | inl here ↦ rw (cond-true (b == block) (key_of_bytes (take 33 bytes)) (key_in_bytes blocks (drop 33 bytes) block) here) (digest_of_key (take 33 bytes))
      | inr other ↦
          rw (cond-false (b == block) (key_of_bytes (take 33 bytes))
          (key_in_bytes blocks (drop 33 bytes) block) other)
          (digest_in_keys blocks (drop 33 bytes) block)
    ]

block_of_key : (blocks bytes : List ℕ) (block : ℕ) → is_some (key_in_bytes blocks bytes block) ≡ true → list_any (λ c. c == block) blocks ≡ true
block_of_key [] bytes block has = absurd (false≢true has)
block_of_key (b ∷ blocks) bytes block has = elim (cases_Bool (b == block)) as (λ _. list_any (λ c. c == block) (b ∷ blocks) ≡ true) [
  | inl here ↦ or_left (b == block) (list_any (λ c. c == block) blocks) here
  | inr other ↦
      in_rest b block blocks (block_of_key blocks (drop 33 bytes) block
      (sym (ap is_some (cond-false (b == block) (key_of_bytes (take 33 bytes)) (key_in_bytes blocks (drop 33 bytes) block) other)) ∙ has))
]

AreKeys-keys_in : (m : Map) (bytes : List ℕ) → AreKeys m (keys_in m bytes)
unfolding keys_in
AreKeys-keys_in m bytes block some = elim (cases_lt block 4) as (λ _. (block < 4) × (is_key_block m block ≡ true)) [
  | inl low ↦ (
    low,
    sym (key_block_is m.fields block) ∙ block_of_key (key_blocks m.fields) bytes block
        (sym (ap is_some (get_within (key_in_bytes (key_blocks m.fields) bytes) block low)) ∙ some),
  )
  | inr high ↦ absurd (false≢true (sym (ap is_some (get_past (key_in_bytes (key_blocks m.fields) bytes) block (λ low. omega (arith, low, high)))) ∙ some))
]

HoldsDigests-keys_in : (m : Map) (bytes : List ℕ) → HoldsDigests (keys_in m bytes)
unfolding keys_in
HoldsDigests-keys_in m bytes = HoldsDigests-table_where (key_in_bytes (key_blocks m.fields) bytes) (digest_in_keys (key_blocks m.fields) bytes)

pub AreKeysOf-keys_in : (m : Map) (bytes : List ℕ) → AreKeysOf m (keys_in m bytes)
AreKeysOf-keys_in m bytes = record { keys = AreKeys-keys_in m bytes; digests = HoldsDigests-keys_in m bytes }

-- a table of keys of the map comes back whole
none_else : (o : Option (List ℕ)) → (is_some o ≡ true → ⊥) → o ≡ None
none_else None never = refl
none_else (Some d) never = absurd (never refl)

pub keys_return : (m : Map) (t : KeyTable) (more : List ℕ) → AreKeysOf m t → keys_in m (keys_column m t ++ more) ≡ t
unfolding keys_in keys_column
keys_return m t more in_map =
    table_where-same (key_in_bytes (key_blocks m.fields) (flat_map (λ b. key_bytes (map.get t b)) (key_blocks m.fields) ++ more)) t
    (λ block low. key_in_bytes-keys t (key_blocks m.fields) more block in_map.digests
    ∙ elim (cases_Bool (list_any (λ c. c == block) (key_blocks m.fields))) as (λ _.
    (if list_any (λ c. c == block) (key_blocks m.fields) then map.get t block else None) ≡ map.get t block) [
      | inl is ↦ cond-true (list_any (λ c. c == block) (key_blocks m.fields)) (map.get t block) None is
      | inr other ↦ cond-false (list_any (λ c. c == block) (key_blocks m.fields)) (map.get t block) None other
          ∙ sym (none_else (map.get t block) (λ some. true≢false (sym (key_block_is m.fields block ∙ (in_map.keys block some).1) ∙ other)))
    ])
    (λ block past. none_else (map.get t block) (λ some. past (in_map.keys block some).0))

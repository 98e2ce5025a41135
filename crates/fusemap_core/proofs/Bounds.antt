-- Where the fields and the locks of a map lie.
use Rattle.std.proofs.Common.{◌≡◌, ◌+◌, ◌<◌, ◌≤◌, ◌∷◌, get_or}
use Rattle.text_core.proofs.Kit.{ℕ, suc, nat_lt, Bool, true, false, cond, List, [], length, Option, Some, None, All, IfSome, IsSomeAnd, option_map}
use Rattle.text_core.proofs.Kit.{option_and_then, find, refl, sym, ap, ◌∙◌, arith, position, slice_get, position_or_len, ltb-false, find_at, slice_get_past}
use Rattle.text_core.proofs.Kit.{slice_get_within, get_or_from_slice_get}
use Rattle.fusemap_core.specs.declared.field.Field.{Field}
use Rattle.fusemap_core.specs.declared.map.FieldId.{FieldId}
use Rattle.fusemap_core.specs.declared.pos.Pos.{Pos}
use Rattle.fusemap_core.specs.Prelude.{Map, is_field_named, field_named, bit_of, lock_at, write_lock, read_lock, field_of, id_at, IsInRange, IsInBlock, IsMap}
use Rattle.fusemap_core.specs.Prelude.{IsPosition, IsSmall, IsSmallPosition, HasBit, HasItsLocks}

-- what holds of each element holds of the one that is found
found_by : {X : Type 0} (P : X → Type 0) (passes : Bool) (x : X) (rest : Option X) → P x → IfSome rest P → IfSome (cond passes (Some x) rest) P
found_by P true x rest here others = here
found_by P false x rest here others = others

pub found : {X : Type 0} (test : X → Bool) (P : X → Type 0) (xs : List X) → All P xs → IfSome (find test xs) P
found test P [] all = tt
found test P (x ∷ xs) all =
    found_by P (test x) x (find test xs) (all 0 x (omega arith)) (found test P xs (λ k d low. all (suc k) d (omega arith)))

-- a number below a count that is itself bounded
below_count : (found : Option Field) (i : ℕ) → IsSomeAnd found (λ f. i < f.count) → IfSome found (λ f. f.count ≤ 256) → i < 256
below_count None i has bound = absurd has
below_count (Some f) i has bound = omega arith

few_bits : (fields : List Field) (name : List ℕ) (i : ℕ) → All (λ f. f.count ≤ 256) fields → HasBit fields name i → i < 256
few_bits fields name i counts has =
    below_count (field_named name fields) i has (found (is_field_named name) (λ f. f.count ≤ 256) fields counts)

few_locks : (fields : List Field) (name : List ℕ) (number : Option ℕ) → All (λ f.
    f.count ≤ 256) fields → IfSome number (HasBit fields name) → IfSome number (λ i. i < 256)
few_locks fields name None counts has = tt
few_locks fields name (Some i) counts has = few_bits fields name i counts has

-- a field of a map ends within the first 256 bits of one of 4 blocks
pub ends : (m : Map) → IsInRange m → All (IsInBlock m.blocks) m.fields → All (λ f. (f.block < 4) × (f.bit + f.count ≤ 256)) m.fields
ends m ranges in_block k d low =
    let is = in_block k d low in
    let words = ranges.words _ 0 is.block in
    (omega (arith, is.block, ranges.most_blocks), omega (arith, is.end, words.1))

-- the fields of a map are small
pub are_small : (m : Map) → IsMap m → All IsSmall m.fields
are_small m is k d low =
    let within = ends m is.ranges is.in_block in
    let counts : All (λ f. f.count ≤ 256) m.fields = λ j e under. omega (arith, (within j e under).1) in
    let here = within k d low in
    let locks = is.locks k d low in
    record {
      block = here.0;
      end = here.1;
      write = few_locks m.fields m.wr _ counts locks.write;
      read = few_locks m.fields m.rd _ counts locks.read;
    }

-- a bit of a field in a block is a position
position_in : (blocks : List ℕ) (found : Option Field) (i : ℕ) → IsSomeAnd found (λ f.
    i < f.count) → IfSome found (IsInBlock blocks) → IfSome (option_map (λ f. bit_of f i) found) (IsPosition blocks)
position_in blocks None i has in_block = tt
position_in blocks (Some f) i has in_block = record { block = in_block.block; bit = omega (arith, in_block.end, has) }

-- a lock is a position
lock_is_position : (blocks : List ℕ) (fields : List Field) (name : List ℕ) (number : Option ℕ) → All (IsInBlock blocks) fields
    → IfSome number (HasBit fields name) → IfSome (option_and_then (lock_at fields name) number) (IsPosition blocks)
lock_is_position blocks fields name None in_block has = tt
lock_is_position blocks fields name (Some i) in_block has =
    position_in blocks (field_named name fields) i has (found (is_field_named name) (IsInBlock blocks) fields in_block)

-- the locks of a field of a map are positions
field_at_place : (m : Map) (id : FieldId) (f : Field) → field_of m id ≡ Some f → (id.index < length m.fields) × (get_or m.fields id.index f ≡ f)
field_at_place m id f e = (slice_get_within m.fields id.index f e, get_or_from_slice_get m.fields id.index f f e)

pub write_lock_is_position : (m : Map) → IsMap m → (id : FieldId) (f : Field) → field_of m id ≡ Some f → IfSome (write_lock m f) (IsPosition m.blocks)
write_lock_is_position m is id f e =
    let place = field_at_place m id f e in
    let locks : HasItsLocks m f = rw place.1 at (is.locks id.index f place.0) in
    lock_is_position m.blocks m.fields m.wr f.write is.in_block locks.write

pub read_lock_is_position : (m : Map) → IsMap m → (id : FieldId) (f : Field) → field_of m id ≡ Some f → IfSome (read_lock m f) (IsPosition m.blocks)
read_lock_is_position m is id f e =
    let place = field_at_place m id f e in
    let locks : HasItsLocks m f = rw place.1 at (is.locks id.index f place.0) in
    lock_is_position m.blocks m.fields m.rd f.read is.in_block locks.read

-- a position of a map is one of the first 256 bits of one of 4 blocks
position_is_small : (m : Map) → IsMap m → (o : Option Pos) → IfSome o (IsPosition m.blocks) → IfSome o IsSmallPosition
position_is_small m is None in_block = tt
position_is_small m is (Some p) in_block =
    let words = is.ranges.words p.block 0 in_block.block in
    record {
      block = omega (arith, in_block.block, is.ranges.most_blocks);
      bit = omega (arith, in_block.bit, words.1);
    }

pub write_lock_is_small : (m : Map) → IsMap m → (id : FieldId) (f : Field) → field_of m id ≡ Some f → IfSome (write_lock m f) IsSmallPosition
write_lock_is_small m is id f e = position_is_small m is (write_lock m f) (write_lock_is_position m is id f e)

pub read_lock_is_small : (m : Map) → IsMap m → (id : FieldId) (f : Field) → field_of m id ≡ Some f → IfSome (read_lock m f) IsSmallPosition
read_lock_is_small m is id f e = position_is_small m is (read_lock m f) (read_lock_is_position m is id f e)

-- the field at the first place that passes a test is the first field that does
found_at_place : {X : Type 0} (test : X → Bool) (xs : List X) (place : ℕ) (low : Bool) → nat_lt place (length xs) ≡ low
    → option_and_then (slice_get xs) (cond low (Some place) None) ≡ slice_get xs place
found_at_place test xs place true is_low = refl
found_at_place test xs place false is_low = sym (slice_get_past xs place (ltb-false place (length xs) is_low))

pub field_of_first : (m : Map) (test : Field → Bool) (place : Option ℕ) → place ≡ position test m.fields
    → option_and_then (field_of m) (option_map id_at place) ≡ find test m.fields
field_of_first m test None e =
    let first = position_or_len test m.fields in
    ap (option_and_then (slice_get m.fields)) e ∙ (found_at_place test m.fields first (nat_lt first (length m.fields)) refl ∙ sym (find_at test m.fields))
field_of_first m test (Some place) e =
    let first = position_or_len test m.fields in
    ap (option_and_then (slice_get m.fields)) e ∙ (found_at_place test m.fields first (nat_lt first (length m.fields)) refl ∙ sym (find_at test m.fields))

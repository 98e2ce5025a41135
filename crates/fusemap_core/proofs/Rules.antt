-- The tests of a map's rules, and the rules that they decide.
use Rattle.std.proofs.Common.{◌≡◌, ◌≢◌, ◌+◌, ◌*◌, ◌<◌, ◌≤◌, ◌&&◌, ◌==◌}
use Rattle.text_core.proofs.Kit.{ℕ, min, max, true, false, not, List, length, None, Decides, refl, sym, arith, nat_le, nat_lt, is_none, is_some, bytes_eq}
use Rattle.text_core.proofs.Kit.{option_map_or, leb-true, le-leb, eqb-true, eq-eqb, false_from_ne_true, true_from_ne_false, or_parts, not-false, leb-false}
use Rattle.text_core.proofs.Kit.{Decides-and, Decides-eqb, Decides-like, Decides-ltb, Decides-not, bytes_eq-Decides}
use Rattle.fusemap_core.specs.declared.field.Field.{Field}
use Rattle.fusemap_core.specs.declared.pos.Pos.{Pos}
use Rattle.fusemap_core.specs.Prelude.{Map, word_count, holds, field_named, IsInBlock, FieldsDisjoint, NamesLockField, NamesCodingField, HasLockFields, HasBit}
use Rattle.fusemap_core.specs.Prelude.{HasItsLocks, IsKeyField, have_other_names, is_in_block, are_apart, names_lock_field, names_plain_field}
use Rattle.fusemap_core.specs.Prelude.{names_coding_field, has_lock_fields, has_bit, has_its_locks, is_key_field, is_plain_or_key}
use Rattle.fusemap_core.proofs.Pairs.{Decides-some_and, Decides-if_some, Decides-is_none, Decides-is_false, Decides-is_true, Decides-under}

Decides-leb : (a b : ℕ) → Decides (nat_le a b) (a ≤ b)
Decides-leb a b = (leb-true a b, le-leb a b)

Decides-other : (a b : List ℕ) → Decides (not (bytes_eq a b)) (a ≢ b)
Decides-other a b = Decides-not (bytes_eq a b) (bytes_eq-Decides a b)

-- the fields have different names
pub Decides-have_other_names : (f g : Field) → Decides (have_other_names f g) (f.name ≢ g.name)
Decides-have_other_names f g = Decides-other f.name g.name

-- the field lies in a block
pub Decides-is_in_block : (blocks : List ℕ) (f : Field) → Decides (is_in_block blocks f) (IsInBlock blocks f)
Decides-is_in_block blocks f =
    Decides-like (is_in_block blocks f) (λ parts. record { block = parts.0; end = parts.1 }) (λ is. (is.block, is.end))
    (Decides-and (nat_lt f.block (length blocks)) (nat_le (f.bit + f.count) (32 * word_count blocks f.block)) (Decides-ltb f.block (length blocks))
    (Decides-leb (f.bit + f.count) (32 * word_count blocks f.block)))

-- the positions of a field
pub record IsHeld (f : Field) (p : Pos) : Type 0 where
  pub block : f.block ≡ p.block
  pub first : f.bit ≤ p.bit
  pub last : p.bit < f.bit + f.count

pub Decides-holds : (f : Field) (p : Pos) → Decides (holds f p) (IsHeld f p)
Decides-holds f p =
    Decides-like (holds f p) (λ parts. record { block = parts.0; first = parts.1.0; last = parts.1.1 }) (λ is. (is.block, (is.first, is.last)))
    (Decides-and (f.block == p.block) (nat_le f.bit p.bit && nat_lt p.bit (f.bit + f.count)) (Decides-eqb f.block p.block)
    (Decides-and (nat_le f.bit p.bit) (nat_lt p.bit (f.bit + f.count)) (Decides-leb f.bit p.bit) (Decides-ltb p.bit (f.bit + f.count))))

-- where the first end comes after the last start of two fields in one block, the last start lies in both
meet_at_start : (f g : Field) → f.block ≡ g.block → max f.bit g.bit < min (f.bit + f.count) (g.bit + g.count) → FieldsDisjoint f g → ⊥
meet_at_start f g same meet apart =
    let p : Pos = record { block = f.block; bit = max f.bit g.bit } in
    let in_f : holds f p ≡ true = (Decides-holds f p).1 (record { block = refl; first = omega arith; last = omega arith }) in
    let in_g : holds g p ≡ true = (Decides-holds g p).1 (record { block = sym same; first = omega arith; last = omega arith }) in
    let not_in_g : holds g p ≡ false = apart p in_f in
    cc

-- a position of both fields lies between the last start and the first end
apart_at : (f g : Field) → are_apart f g ≡ true → (p : Pos) → IsHeld f p → IsHeld g p → ⊥
apart_at f g apart p in_f in_g =
    let same : (f.block == g.block) ≡ true = eq-eqb f.block g.block (omega (arith, in_f.block, in_g.block)) in
    let ends : nat_le (min (f.bit + f.count) (g.bit + g.count)) (max f.bit g.bit) ≡ true = rw same at apart in
    omega (arith, leb-true _ _ ends, in_f.first, in_f.last, in_g.first, in_g.last)

-- the fields have no position in common
pub Decides-are_apart : (f g : Field) → Decides (are_apart f g) (FieldsDisjoint f g)
Decides-are_apart f g = (
  λ apart p in_f. false_from_ne_true (holds g p) (λ in_g. apart_at f g apart p ((Decides-holds f p).0 in_f) ((Decides-holds g p).0 in_g)),
  λ apart. true_from_ne_false (are_apart f g) (λ meet. let parts = or_parts (not (f.block == g.block))
      (nat_le (min (f.bit + f.count) (g.bit + g.count)) (max f.bit g.bit)) meet in
      meet_at_start f g (eqb-true f.block g.block (not-false (f.block == g.block) parts.0))
      (leb-false (min (f.bit + f.count) (g.bit + g.count)) (max f.bit g.bit) parts.1) apart),
)

-- the name is that of a field that can be a lock field
Decides-names_lock_field : (fields : List Field) (name : List ℕ) → Decides (names_lock_field fields name) (NamesLockField fields name)
Decides-names_lock_field fields name =
    Decides-some_and (λ f. not f.key && is_none f.read) (λ f. (f.key ≡ false) × (f.read ≡ None)) (λ f.
    Decides-and (not f.key) (is_none f.read) (Decides-is_false f.key) (Decides-is_none f.read)) (field_named name fields)

Decides-names_coding_field : (m : Map) (name : List ℕ) → Decides (names_coding_field m name) (NamesCodingField m name)
Decides-names_coding_field m name =
    let plain = names_plain_field m.fields name in
    let not_wr = not (bytes_eq name m.wr) in
    let not_rd = not (bytes_eq name m.rd) in
    let is_plain = Decides-some_and (λ (f : Field). not f.key) (λ f. f.key ≡ false) (λ f. Decides-is_false f.key) (field_named name m.fields) in
    Decides-like (plain && not_wr && not_rd) (λ parts. record { plain = parts.0.0; not_wr = parts.0.1; not_rd = parts.1 }) (λ is.
    ((is.plain, is.not_wr), is.not_rd))
    (Decides-and (plain && not_wr) not_rd (Decides-and plain not_wr is_plain (Decides-other name m.wr)) (Decides-other name m.rd))

-- the lock fields and the coding field can be it
pub Decides-has_lock_fields : (m : Map) → Decides (has_lock_fields m) (HasLockFields m)
Decides-has_lock_fields m =
    let wr = names_lock_field m.fields m.wr in
    let rd = names_lock_field m.fields m.rd in
    let two = not (bytes_eq m.wr m.rd) in
    let coding = option_map_or (names_coding_field m) m.coding true in
    Decides-like (wr && rd && two && coding) (λ parts. record { wr = parts.0.0.0; rd = parts.0.0.1; two = parts.0.1; coding = parts.1 }) (λ is.
    (((is.wr, is.rd), is.two), is.coding))
    (Decides-and (wr && rd && two) coding
    (Decides-and (wr && rd) two (Decides-and wr rd (Decides-names_lock_field m.fields m.wr) (Decides-names_lock_field m.fields m.rd)) (Decides-other m.wr m.rd))
    (Decides-if_some (names_coding_field m) (NamesCodingField m) (Decides-names_coding_field m) m.coding))

-- the field of the name has a bit i
Decides-has_bit : (fields : List Field) (name : List ℕ) (i : ℕ) → Decides (has_bit fields name i) (HasBit fields name i)
Decides-has_bit fields name i =
    Decides-some_and (λ f. nat_lt i f.count) (λ f. i < f.count) (λ f. Decides-ltb i f.count) (field_named name fields)

-- the locks of the field are bits of the lock fields
pub Decides-has_its_locks : (m : Map) (f : Field) → Decides (has_its_locks m.fields m.wr m.rd f) (HasItsLocks m f)
Decides-has_its_locks m f =
    Decides-like (has_its_locks m.fields m.wr m.rd f) (λ parts. record { write = parts.0; read = parts.1 }) (λ has. (has.write, has.read))
    (Decides-and (option_map_or (has_bit m.fields m.wr) f.write true) (option_map_or (has_bit m.fields m.rd) f.read true)
    (Decides-if_some (has_bit m.fields m.wr) (HasBit m.fields m.wr) (Decides-has_bit m.fields m.wr) f.write)
    (Decides-if_some (has_bit m.fields m.rd) (HasBit m.fields m.rd) (Decides-has_bit m.fields m.rd) f.read))

-- the field can be a key field
Decides-is_key_field : (blocks : List ℕ) (f : Field) → Decides (is_key_field blocks f) (IsKeyField blocks f)
Decides-is_key_field blocks f =
    let first = f.bit == 0 in
    let whole = f.count == 256 in
    let words = word_count blocks f.block == 8 in
    let write = is_some f.write in
    let read = is_some f.read in
    Decides-like (first && whole && words && write && read) (λ parts.
    record { first = parts.0.0.0.0; whole = parts.0.0.0.1; words = parts.0.0.1; write = parts.0.1; read = parts.1 })
    (λ is. ((((is.first, is.whole), is.words), is.write), is.read))
    (Decides-and (first && whole && words && write) read
    (Decides-and (first && whole && words) write
    (Decides-and (first && whole) words (Decides-and first whole (Decides-eqb f.bit 0) (Decides-eqb f.count 256)) (Decides-eqb (word_count blocks f.block) 8))
    (Decides-is_true write))
    (Decides-is_true read))

-- the field is plain, or can be a key field
pub Decides-is_plain_or_key : (blocks : List ℕ) (f : Field) → Decides (is_plain_or_key blocks f) (f.key ≡ true → IsKeyField blocks f)
Decides-is_plain_or_key blocks f = Decides-under f.key (is_key_field blocks f) (IsKeyField blocks f) (Decides-is_key_field blocks f)

-- The faults of a map's text, and the tests of a map's rules.
use Rattle.std.specs.Prelude.{◌≡◌, ◌≢◌, ℕ, ◌+◌, ◌*◌, ◌<◌, All, AllPairs, Bool, true, false, not, ◌&&◌, ◌||◌, ◌==◌, nat_le, nat_lt, min, max, List, [], ◌∷◌}
use Rattle.std.specs.Prelude.{length, Option, Some, None, is_some, is_none, Result, Ok, Err, bytes_eq, if◌then◌else◌}
use Rattle.std.specs.List.{list_all}
use Rattle.std.specs.Option.{option_map_or}
use Rattle.members.specs.declared.DocumentFault.{DocumentFault}
use Rattle.members.specs.declared.DocumentFault.TheVariants as document
use Rattle.fusemap_core.specs.declared.fault.MapFault.{MapFault}
use Rattle.fusemap_core.specs.declared.fault.MapFault.TheVariants.{NotToml, BadMember, NameTwice, OutOfBlock, FieldsOverlap, BadLockField, BadLockIndex}
use Rattle.fusemap_core.specs.declared.fault.MapFault.TheVariants.{BadKeyField, OutOfMemory}
use Rattle.fusemap_core.specs.declared.field.Field.{Field}
use Rattle.fusemap_core.specs.Map.{Map, word_count, field_named, IsInBlock, FieldsDisjoint, HasLockFields, HasItsLocks, IsKeyField}

-- the number of a fault
abbrev pub map_fault_number : MapFault → ℕ
map_fault_number NotToml = 1
map_fault_number BadMember = 2
map_fault_number NameTwice = 3
map_fault_number OutOfBlock = 4
map_fault_number FieldsOverlap = 5
map_fault_number BadLockField = 6
map_fault_number BadLockIndex = 7
map_fault_number BadKeyField = 8
map_fault_number OutOfMemory = 9

-- the fault of a text that has no document
abbrev pub map_fault_of_document : DocumentFault → MapFault
map_fault_of_document document.NotDocument = NotToml
map_fault_of_document document.OutOfMemory = OutOfMemory

-- each element goes with each one after it
abbrev pub all_pairs : {A : Type 0} → (A → A → Bool) → List A → Bool
all_pairs goes_with [] = true
all_pairs goes_with (x ∷ xs) = list_all (goes_with x) xs && all_pairs goes_with xs

-- the fields have different names
abbrev pub have_other_names : Field → Field → Bool
have_other_names f g = not (bytes_eq f.name g.name)

-- the field lies in one of the blocks, and ends there
abbrev pub is_in_block : List ℕ → Field → Bool
is_in_block blocks f = nat_lt f.block (length blocks) && nat_le (f.bit + f.count) (32 * word_count blocks f.block)

-- the fields have no position in common: they lie in different blocks, or the first end comes before the last start
abbrev pub are_apart : Field → Field → Bool
are_apart f g = not (f.block == g.block) || nat_le (min (f.bit + f.count) (g.bit + g.count)) (max f.bit g.bit)

-- the name is that of a plain field without read lock
abbrev pub names_lock_field : List Field → List ℕ → Bool
names_lock_field fields name = option_map_or (λ f. not f.key && is_none f.read) (field_named name fields) false

-- the name is that of a plain field
abbrev pub names_plain_field : List Field → List ℕ → Bool
names_plain_field fields name = option_map_or (λ f. not f.key) (field_named name fields) false

-- the name is that of a plain field other than the lock fields
abbrev pub names_coding_field : Map → List ℕ → Bool
names_coding_field m name = names_plain_field m.fields name && not (bytes_eq name m.wr) && not (bytes_eq name m.rd)

-- the lock fields and the coding field, where there is one, are fields that can be it, and no two of them are the same
abbrev pub has_lock_fields : Map → Bool
has_lock_fields m =
    names_lock_field m.fields m.wr && names_lock_field m.fields m.rd && not (bytes_eq m.wr m.rd) && option_map_or (names_coding_field m) m.coding true

-- the field of the name has a bit i
abbrev pub has_bit : List Field → List ℕ → ℕ → Bool
has_bit fields name i = option_map_or (λ f. nat_lt i f.count) (field_named name fields) false

-- the locks of the field, where it has them, are bits of the lock fields of these names
abbrev pub has_its_locks : List Field → List ℕ → List ℕ → Field → Bool
has_its_locks fields wr rd f = option_map_or (has_bit fields wr) f.write true && option_map_or (has_bit fields rd) f.read true

-- the field is a whole block of 8 words with both locks
abbrev pub is_key_field : List ℕ → Field → Bool
is_key_field blocks f =
    f.bit == 0 && f.count == 256 && word_count blocks f.block == 8 && is_some f.write && is_some f.read

-- the field is plain, or can be a key field
abbrev pub is_plain_or_key : List ℕ → Field → Bool
is_plain_or_key blocks f = not f.key || is_key_field blocks f

-- the lowest fault of how the parts of a map fit together
abbrev pub lowest_fault : Map → Option MapFault
lowest_fault m =
    if not (all_pairs have_other_names m.fields) then Some NameTwice
    else if not (list_all (is_in_block m.blocks) m.fields) then Some OutOfBlock
    else if not (all_pairs are_apart m.fields) then Some FieldsOverlap
    else if not (has_lock_fields m) then Some BadLockField
    else if not (list_all (has_its_locks m.fields m.wr m.rd) m.fields) then Some BadLockIndex
    else if not (list_all (is_plain_or_key m.blocks) m.fields) then Some BadKeyField
    else None

-- the rule that a fault is of: names differ, fields lie in blocks, no two share a position, the lock fields can be it, locks are their bits, key fields can be
-- it
abbrev pub KeepsMapRule : MapFault → Map → Type 0
KeepsMapRule NotToml m = Unit {0}
KeepsMapRule BadMember m = Unit {0}
KeepsMapRule NameTwice m = AllPairs (λ f g. f.name ≢ g.name) m.fields
KeepsMapRule OutOfBlock m = All (IsInBlock m.blocks) m.fields
KeepsMapRule FieldsOverlap m = AllPairs FieldsDisjoint m.fields
KeepsMapRule BadLockField m = HasLockFields m
KeepsMapRule BadLockIndex m = All (HasItsLocks m) m.fields
KeepsMapRule BadKeyField m = All (λ f. f.key ≡ true → IsKeyField m.blocks f) m.fields
KeepsMapRule OutOfMemory m = Unit {0}

-- the map breaks the rule of this fault, and keeps that of each fault with a lower number
pub record IsLowestMapFault (fault : MapFault) (m : Map) : Type 0 where
  pub broken : ¬ KeepsMapRule fault m
  pub lower : (other : MapFault) → map_fault_number other < map_fault_number fault → KeepsMapRule other m

-- the map, or the lowest fault of how its parts fit together
abbrev pub map_or_fault : Map → Result Map MapFault
map_or_fault m = option_map_or Err (lowest_fault m) (Ok m)

-- The plan of some wishes, and the faults of wishes.
use Rattle.std.specs.Prelude.{ℕ, ◌-◌, nat_le, Bool, false, not, ◌&&◌, ◌||◌, List, [], ◌∷◌, Option, Some, None, is_none, is_some, Result, Ok, Err, bytes_eq}
use Rattle.std.specs.List.{list_any, range_with_len}
use Rattle.std.specs.Option.{option_map_or}
use Rattle.std.specs.FinSet as set
use Rattle.std.specs.FinMap as map
use Rattle.text_core.specs.Prelude.{first_that_holds}
use Rattle.fusemap_core.specs.declared.field.Field.{Field}
use Rattle.fusemap_core.specs.Prelude.{Map, field_named, holds, read_lock, write_lock}
use Rattle.fuse_image.specs.Prelude.{KeyTable, is_hidden, is_hidden_key, is_write_protected, is_write_protected_key, Positions, sets_meet, places_where}
use Rattle.fuse_image.specs.Prelude.{coding_field, some_key}
use Rattle.fuse_image.specs.declared.image.Image.{Image}
use Rattle.fuse_image.specs.declared.pending.Pending.{Pending}
use Rattle.fuse_plan.specs.declared.fault.PlanFault.{PlanFault}
use Rattle.fuse_plan.specs.declared.fault.PlanFault.TheVariants.{UnknownField, UnmappedBit, ValueTooWide, ClearsBurnt, Contradiction, WrongKind, OtherKey}
use Rattle.fuse_plan.specs.declared.fault.PlanFault.TheVariants.{WriteProtected, Hidden, NoLock}
use Rattle.fuse_plan.specs.declared.wants.Wants.{Wants}
use Rattle.fuse_plan.specs.declared.wish.Want.{Want}
use Rattle.fuse_plan.specs.declared.wish.Want.TheVariants.{Bit, Value, Key, WriteLock, ReadLock}
use Rattle.fuse_plan.specs.declared.wish.Wish.{Wish}
use Rattle.fuse_plan.specs.Numbers.{number_has_one}
use Rattle.fuse_plan.specs.Wishes.{at_field, missing, wants_of, wish_passes}

-- the number of a fault
abbrev pub plan_fault_number : PlanFault → ℕ
plan_fault_number UnknownField = 1
plan_fault_number UnmappedBit = 2
plan_fault_number ValueTooWide = 3
plan_fault_number ClearsBurnt = 4
plan_fault_number Contradiction = 5
plan_fault_number WrongKind = 6
plan_fault_number OtherKey = 7
plan_fault_number WriteProtected = 8
plan_fault_number Hidden = 9
plan_fault_number NoLock = 10

-- the wish names a field that the map hasn't
abbrev pub names_no_field : Map → Wish → Bool
names_no_field m w = is_none (field_named w.field m.fields)

-- the index of the bit isn't below the number of the field's bits
abbrev pub is_past : Want → Field → Bool
is_past (Bit i) f = nat_le f.count i
is_past _ f = false

-- the value has a 1 at or above the number of the field's bits
abbrev pub is_wide : Want → Field → Bool
is_wide (Value v) f = list_any (number_has_one v) (range_with_len f.count (256 - f.count))
is_wide _ f = false

-- two wishes are for keys, and their digests differ
abbrev pub are_two_keys : Want → Want → Bool
are_two_keys (Key digest) (Key other) = not (bytes_eq digest other)
are_two_keys _ _ = false

-- two wishes for keys name one field with two digests
abbrev pub asks_another_key : Wish → Wish → Bool
asks_another_key w other = bytes_eq w.field other.field && are_two_keys w.want other.want

-- two of the wishes, for keys, name one field with two digests
abbrev pub ask_two_keys : List Wish → Bool
ask_two_keys ws = list_any (λ w. list_any (asks_another_key w) ws) ws

-- a key is wished for a plain field, or a bit or a value for a key field
abbrev pub is_wrong : Want → Field → Bool
is_wrong (Bit i) f = f.key
is_wrong (Value v) f = f.key
is_wrong (Key digest) f = not f.key
is_wrong _ f = false

-- a position is asked to be 1 and to be 0, or a field to hold two keys
abbrev pub contradict : Wants → List Wish → Bool
contradict w ws = sets_meet w.ones w.zeros || ask_two_keys ws

-- the positions of the field of a name, if the map has it
abbrev pub positions_named : Map → List ℕ → Positions
positions_named m name = places_where (λ p. at_field m (λ f. holds f p) name)

-- the positions of the coding field (CODING_SCHEME), if the map names one
abbrev pub coding_positions : Map → Positions
coding_positions m = option_map_or (λ f. places_where (holds f)) (coding_field m) set.empty

-- a wish isn't of a kind that its field takes, or a position of the coding field is asked to be 1
abbrev pub are_wrong : Map → Wants → List Wish → Bool
are_wrong m w ws = list_any (wish_passes m is_wrong) ws || sets_meet w.ones (coding_positions m)

-- the positions of the two lock fields (WR_DIS and RD_DIS)
abbrev pub lock_positions : Map → Positions
lock_positions m = set.union (positions_named m m.wr) (positions_named m m.rd)

-- a key is wished for a key block that is known to hold another
abbrev pub is_other_key : KeyTable → Want → Field → Bool
is_other_key keys (Key digest) f = f.key && option_map_or (λ known. not (bytes_eq known digest)) (map.get keys f.block) false
is_other_key keys _ f = false

-- the table has a key at a key block that passes a test
abbrev pub has_key_where : Map → KeyTable → (ℕ → Bool) → Bool
has_key_where m keys test = some_key m (λ b. is_some (map.get keys b) && test b)

-- a lock is wished for that the field hasn't
abbrev pub lacks_lock : Map → Want → Field → Bool
lacks_lock m WriteLock f = is_none (write_lock m f)
lacks_lock m ReadLock f = is_none (read_lock m f)
lacks_lock m _ f = false

-- a position or a key of the image is write-protected (its lock bit in WR_DIS is burnt)
abbrev pub is_protected_in : Map → Positions → Image → Bool
is_protected_in m burnt part =
    sets_meet part.burnt (places_where (is_write_protected m burnt)) || has_key_where m part.keys (is_write_protected_key m burnt)

-- a position or a key of the image is read-protected (its lock bit in RD_DIS is burnt)
abbrev pub is_hidden_in : Map → Positions → Image → Bool
is_hidden_in m burnt part =
    sets_meet part.burnt (places_where (is_hidden m burnt)) || has_key_where m part.keys (is_hidden_key m burnt)

-- the conditions of the faults, in the order of their numbers, for what the wishes ask for and what of it is missing: each is said of all the wishes, whatever
-- the others say
abbrev pub faults_with : Map → Image → List Wish → Wants → Image → List (Bool × PlanFault)
faults_with m image ws w lacking =
    (list_any (names_no_field m) ws, UnknownField)
    ∷ (list_any (wish_passes m is_past) ws, UnmappedBit)
    ∷ (list_any (wish_passes m is_wide) ws, ValueTooWide)
    ∷ (sets_meet w.zeros image.burnt, ClearsBurnt)
    ∷ (contradict w ws, Contradiction)
    ∷ (are_wrong m w ws, WrongKind)
    ∷ (list_any (wish_passes m (is_other_key image.keys)) ws, OtherKey)
    ∷ (is_protected_in m image.burnt lacking, WriteProtected)
    ∷ (is_hidden_in m image.burnt lacking, Hidden)
    ∷ (list_any (wish_passes m (lacks_lock m)) ws, NoLock)
    ∷ []

-- the faults of wishes on a chip, each with whether it holds, the lowest first
abbrev pub faults : Map → Image → List Wish → List (Bool × PlanFault)
faults m image ws = faults_with m image ws (wants_of m ws) (missing image (wants_of m ws))

-- the lowest fault of the wishes: they are lawful where there is none
abbrev pub lowest_plan_fault : Map → Image → List Wish → Option PlanFault
lowest_plan_fault m image ws = first_that_holds (faults m image ws)

-- what is missing in two batches: the second burns the lock bits, so that a key is read back before it is read-protected
abbrev pub batches : Map → Image → Pending
batches m lacking = record {
  first = set.difference lacking.burnt (lock_positions m);
  second = set.intersection lacking.burnt (lock_positions m);
  keys = lacking.keys;
}

-- the batches, unless there is a fault
abbrev pub pending_or_fault : Option PlanFault → Pending → Result Pending PlanFault
pending_or_fault None work = Ok work
pending_or_fault (Some fault) work = Err fault

-- the plan of the wishes, or their lowest fault
abbrev pub plan_of : Map → Image → List Wish → Result Pending PlanFault
plan_of m image ws = pending_or_fault (lowest_plan_fault m image ws) (batches m (missing image (wants_of m ws)))

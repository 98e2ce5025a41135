-- A map in which no fault is found keeps the rules, and the other way round.
use Rattle.std.proofs.Common.{◌≡◌, ◌≢◌, ◌<◌, if◌then◌else◌}
use Rattle.text_core.proofs.Kit.{ℕ, Bool, true, false, not, Option, Some, None, Ok, Err, All, AllPairs, Decides, refl, ap, arith, list_all, broken_by}
use Rattle.text_core.proofs.Kit.{option_map_or, Decides-list_all}
use Rattle.fusemap_core.specs.declared.fault.MapFault.{MapFault}
use Rattle.fusemap_core.specs.declared.fault.MapFault.TheVariants.{NotToml, BadMember, NameTwice, OutOfBlock, FieldsOverlap, BadLockField, BadLockIndex}
use Rattle.fusemap_core.specs.declared.fault.MapFault.TheVariants.{BadKeyField, OutOfMemory}
use Rattle.fusemap_core.specs.Prelude.{Map, IsMap, IsInRange, IsInBlock, FieldsDisjoint, HasItsLocks, IsKeyField, all_pairs, have_other_names, is_in_block}
use Rattle.fusemap_core.specs.Prelude.{are_apart, has_lock_fields, has_its_locks, is_plain_or_key, map_fault_number, lowest_fault}
use Rattle.fusemap_core.specs.Prelude.{map_or_fault, KeepsMapRule, IsLowestMapFault}
use Rattle.fusemap_core.proofs.Pairs.{Decides-all_pairs}
use Rattle.fusemap_core.proofs.Rules.{Decides-have_other_names, Decides-is_in_block, Decides-are_apart, Decides-has_lock_fields, Decides-has_its_locks}
use Rattle.fusemap_core.proofs.Rules.{Decides-is_plain_or_key}

-- what a judgement that finds no fault says of its six tests
no_fault : (names inside apart locks bits keys : Bool)
    → (if not names then Some NameTwice else if not inside then Some OutOfBlock else if not apart then Some FieldsOverlap else if not locks
    then Some BadLockField else if not bits then Some BadLockIndex else if not keys then Some BadKeyField else None) ≡ None
    → (names ≡ true) × (inside ≡ true) × (apart ≡ true) × (locks ≡ true) × (bits ≡ true) × (keys ≡ true)
no_fault false inside apart locks bits keys e = cc
no_fault true false apart locks bits keys e = cc
no_fault true true false locks bits keys e = cc
no_fault true true true false bits keys e = cc
no_fault true true true true false keys e = cc
no_fault true true true true true false e = cc
no_fault true true true true true true e = (refl, refl, refl, refl, refl, refl)

names_decided : (m : Map) → Decides (all_pairs have_other_names m.fields) (AllPairs (λ f g. f.name ≢ g.name) m.fields)
names_decided m = Decides-all_pairs have_other_names (λ f g. f.name ≢ g.name) Decides-have_other_names m.fields

blocks_decided : (m : Map) → Decides (list_all (is_in_block m.blocks) m.fields) (All (IsInBlock m.blocks) m.fields)
blocks_decided m = Decides-list_all (is_in_block m.blocks) (IsInBlock m.blocks) (Decides-is_in_block m.blocks) m.fields

apart_decided : (m : Map) → Decides (all_pairs are_apart m.fields) (AllPairs FieldsDisjoint m.fields)
apart_decided m = Decides-all_pairs are_apart FieldsDisjoint Decides-are_apart m.fields

locks_decided : (m : Map) → Decides (list_all (has_its_locks m.fields m.wr m.rd) m.fields) (All (HasItsLocks m) m.fields)
locks_decided m = Decides-list_all (has_its_locks m.fields m.wr m.rd) (HasItsLocks m) (Decides-has_its_locks m) m.fields

keys_decided : (m : Map) → Decides (list_all (is_plain_or_key m.blocks) m.fields) (All (λ f. f.key ≡ true → IsKeyField m.blocks f) m.fields)
keys_decided m = Decides-list_all (is_plain_or_key m.blocks) (λ f. f.key ≡ true → IsKeyField m.blocks f) (Decides-is_plain_or_key m.blocks) m.fields

-- a map in which no fault is found
pub IsMap-from_no_fault : (m : Map) → IsInRange m → lowest_fault m ≡ None → IsMap m
IsMap-from_no_fault m ranges none =
    let parts =
    no_fault (all_pairs have_other_names m.fields) (list_all (is_in_block m.blocks) m.fields) (all_pairs are_apart m.fields) (has_lock_fields m)
    (list_all (has_its_locks m.fields m.wr m.rd) m.fields) (list_all (is_plain_or_key m.blocks) m.fields) none in
    record {
      ranges = ranges;
      names = (names_decided m).0 parts.0;
      in_block = (blocks_decided m).0 parts.1;
      apart = (apart_decided m).0 parts.2;
      lock_fields = (Decides-has_lock_fields m).0 parts.3;
      locks = (locks_decided m).0 parts.4;
      keys = (keys_decided m).0 parts.5;
    }

-- a map has no fault
no_fault-from_IsMap : (m : Map) → IsMap m → lowest_fault m ≡ None
no_fault-from_IsMap m is =
    let names = (names_decided m).1 is.names in
    let blocks = (blocks_decided m).1 is.in_block in
    let apart = (apart_decided m).1 is.apart in
    let lock_fields = (Decides-has_lock_fields m).1 is.lock_fields in
    let locks = (locks_decided m).1 is.locks in
    let keys = (keys_decided m).1 is.keys in
    rw (names, blocks, apart, lock_fields, locks, keys) refl

-- a judgement that gives a map found no fault, and gives the map that was judged
faultless : (fault : Option MapFault) (m found : Map) → option_map_or Err fault (Ok m) ≡ Ok found → (fault ≡ None) × (m ≡ found)
faultless (Some fault) m found e = cc
faultless None m found e = (refl, cc)

pub same-from_judged : (m found : Map) → map_or_fault m ≡ Ok found → m ≡ found
same-from_judged m found e = (faultless (lowest_fault m) m found e).1

pub IsMap-from_judged : (m found : Map) → IsInRange m → map_or_fault m ≡ Ok found → IsMap found
IsMap-from_judged m found ranges e =
    let parts = faultless (lowest_fault m) m found e in rw (← parts.1) (IsMap-from_no_fault m ranges parts.0)

pub map_or_fault-from_IsMap : (m : Map) → IsMap m → map_or_fault m ≡ Ok m
map_or_fault-from_IsMap m is = ap (λ fault. option_map_or Err fault (Ok m)) (no_fault-from_IsMap m is)

-- the rules of all faults below a number, by the rules of those that have one
rules_below : (m : Map) (n : ℕ) → (3 < n → KeepsMapRule NameTwice m) → (4 < n → KeepsMapRule OutOfBlock m) → (5 < n → KeepsMapRule FieldsOverlap m)
    → (6 < n → KeepsMapRule BadLockField m)
    → (7 < n → KeepsMapRule BadLockIndex m) → (8 < n → KeepsMapRule BadKeyField m) → (other : MapFault) → map_fault_number other < n → KeepsMapRule other m
rules_below m n names inside apart locks bits keys NotToml low = tt
rules_below m n names inside apart locks bits keys BadMember low = tt
rules_below m n names inside apart locks bits keys NameTwice low = names low
rules_below m n names inside apart locks bits keys OutOfBlock low = inside low
rules_below m n names inside apart locks bits keys FieldsOverlap low = apart low
rules_below m n names inside apart locks bits keys BadLockField low = locks low
rules_below m n names inside apart locks bits keys BadLockIndex low = bits low
rules_below m n names inside apart locks bits keys BadKeyField low = keys low
rules_below m n names inside apart locks bits keys OutOfMemory low = tt

-- the fault that six tests tell is that of the first that fails, and what they decide tells which rules are kept
lowest_of_tests : (m : Map) (fault : MapFault) (names inside apart locks bits keys : Bool)
    → Decides names (KeepsMapRule NameTwice m) → Decides inside (KeepsMapRule OutOfBlock m) → Decides apart (KeepsMapRule FieldsOverlap m)
    → Decides locks (KeepsMapRule BadLockField m) → Decides bits (KeepsMapRule BadLockIndex m) → Decides keys (KeepsMapRule BadKeyField m)
    → (if not names then Some NameTwice else if not inside then Some OutOfBlock else if not apart then Some FieldsOverlap else if not locks
    then Some BadLockField else if not bits then Some BadLockIndex else if not keys then Some BadKeyField else None) ≡ Some fault
    → IsLowestMapFault fault m
lowest_of_tests m fault false inside apart locks bits keys d3 d4 d5 d6 d7 d8 e =
    let same : NameTwice ≡ fault = cc in
    rw (← same) (record {
      broken = broken_by d3;
      lower = rules_below m 3 (λ l. absurd (omega (arith, l))) (λ l. absurd (omega (arith, l))) (λ l.
          absurd (omega (arith, l))) (λ l. absurd (omega (arith, l))) (λ l. absurd (omega (arith, l))) (λ l. absurd (omega (arith, l)));
    })
lowest_of_tests m fault true false apart locks bits keys d3 d4 d5 d6 d7 d8 e =
    let same : OutOfBlock ≡ fault = cc in
    rw (← same) (record {
      broken = broken_by d4;
      lower = rules_below m 4 (λ _. d3.0 refl) (λ l. absurd (omega (arith, l))) (λ l.
          absurd (omega (arith, l))) (λ l. absurd (omega (arith, l))) (λ l. absurd (omega (arith, l))) (λ l. absurd (omega (arith, l)));
    })
lowest_of_tests m fault true true false locks bits keys d3 d4 d5 d6 d7 d8 e =
    let same : FieldsOverlap ≡ fault = cc in
    rw (← same) (record {
      broken = broken_by d5;
      lower = rules_below m 5 (λ _. d3.0 refl) (λ _. d4.0 refl) (λ l. absurd (omega (arith, l))) (λ l.
          absurd (omega (arith, l))) (λ l. absurd (omega (arith, l))) (λ l. absurd (omega (arith, l)));
    })
lowest_of_tests m fault true true true false bits keys d3 d4 d5 d6 d7 d8 e =
    let same : BadLockField ≡ fault = cc in
    rw (← same) (record {
      broken = broken_by d6;
      lower = rules_below m 6 (λ _. d3.0 refl) (λ _. d4.0 refl) (λ _. d5.0 refl) (λ l.
          absurd (omega (arith, l))) (λ l. absurd (omega (arith, l))) (λ l. absurd (omega (arith, l)));
    })
lowest_of_tests m fault true true true true false keys d3 d4 d5 d6 d7 d8 e =
    let same : BadLockIndex ≡ fault = cc in
    rw (← same) (record {
      broken = broken_by d7;
      lower = rules_below m 7 (λ _. d3.0 refl) (λ _. d4.0 refl) (λ _. d5.0 refl) (λ _. d6.0 refl) (λ l.
          absurd (omega (arith, l))) (λ l. absurd (omega (arith, l)));
    })
lowest_of_tests m fault true true true true true false d3 d4 d5 d6 d7 d8 e =
    let same : BadKeyField ≡ fault = cc in
    rw (← same) (record {
      broken = broken_by d8;
      lower = rules_below m 8 (λ _. d3.0 refl) (λ _. d4.0 refl) (λ _. d5.0 refl) (λ _. d6.0 refl) (λ _.
          d7.0 refl) (λ l. absurd (omega (arith, l)));
    })
lowest_of_tests m fault true true true true true true d3 d4 d5 d6 d7 d8 e = cc

-- the lowest fault of a map is that of a broken rule, and no lower rule is broken
IsLowestMapFault-from_lowest : (m : Map) (fault : MapFault) → lowest_fault m ≡ Some fault → IsLowestMapFault fault m
IsLowestMapFault-from_lowest m fault e =
    lowest_of_tests m fault _ _ _ _ _ _ (names_decided m) (blocks_decided m) (apart_decided m) (Decides-has_lock_fields m) (locks_decided m) (keys_decided m) e

-- a fault that a judgement gives is the one that was found
found_fault : (found : Option MapFault) (m : Map) (fault : MapFault) → option_map_or Err found (Ok m) ≡ Err fault → found ≡ Some fault
found_fault (Some found) m fault e = cc
found_fault None m fault e = cc

pub IsLowestMapFault-from_judged : (m : Map) (fault : MapFault) → map_or_fault m ≡ Err fault → IsLowestMapFault fault m
IsLowestMapFault-from_judged m fault e = IsLowestMapFault-from_lowest m fault (found_fault (lowest_fault m) m fault e)

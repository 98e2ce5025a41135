-- The refusals of each command stand in the order of their numbers, so the first that holds has the lowest.
use Rattle.std.proofs.Common.{◌≡◌, ◌<◌, ◌≤◌, ◌++◌, ◌∷◌, ◌&&◌, if◌then◌else◌}
use Rattle.text_core.proofs.Kit.{ℕ, Bool, true, false, List, [], Option, Some, None, arith, refl, option_map_or, result_err, nat_lt, option_and_then}
use Rattle.text_core.proofs.Kit.{AllByRecursion, and_parts, false≢true, nat_tests}
use Rattle.sha2.specs.Sha256.{sha256}
use Rattle.text_core.specs.Prelude.{first_that_holds}
use Rattle.fusemap_core.specs.Prelude.{Map}
use Rattle.site_core.specs.Prelude.{Section}
use Rattle.office_laws.proofs.Types.{Device, Action, MakeOrder, ImportMap, RegisterDevice, Act, Identify, Import, Refusal, BadMap, Change, FoundDevice, unkept}
use Rattle.office_commands.specs.declared.command.Action.TheVariants.{Plan}
use Rattle.office_commands.specs.declared.refusal.Refusal.TheVariants.{ImportConflict}
use Rattle.office_commands.specs.Prelude.{refusal_number}
use Rattle.office_rules.specs.Prelude.{action_refusals, merged_rows, refusals, map_fault, text_refusals, readback_refusals, OrderSight}
use Rattle.office_rules.specs.Prelude.{Refusals, Sight, device_in_sight, map_in_sight, refused_for, step_refusals}
use Rattle.office_laws.proofs.Identity.{number_and_key_refusals}

-- each number is above the one before it, the first above n, and below that of 503
abbrev ascends : ℕ → Refusals → Bool
ascends n [] = true
ascends n (c ∷ cs) = nat_lt n (refusal_number c.1) && nat_lt (refusal_number c.1) (refusal_number unkept)
    && ascends (refusal_number c.1) cs

ascends_on : (n : ℕ) (c : Bool × Refusal) (cs : Refusals) → ascends n (c ∷ cs) ≡ true
    → (n < refusal_number c.1) × (refusal_number c.1 < refusal_number unkept) × (ascends (refusal_number c.1) cs ≡ true)
ascends_on n c cs up =
    let all = and_parts (nat_lt n (refusal_number c.1) && nat_lt (refusal_number c.1) (refusal_number unkept))
    (ascends (refusal_number c.1) cs) up in
    let first = and_parts (nat_lt n (refusal_number c.1)) (nat_lt (refusal_number c.1) (refusal_number unkept)) all.0 in
    (grind (arith, nat_tests, first.0), grind (arith, nat_tests, first.1), all.1)

-- then all are above n
pub above : (n m : ℕ) (cs : Refusals) → n ≤ m → ascends m cs ≡ true → AllByRecursion (λ c. n < refusal_number c.1) cs
above n m [] low up = tt
above n m (c ∷ cs) low up =
    let first = ascends_on m c cs up in
    (omega (arith, low, first.0), above n (refusal_number c.1) cs (omega (arith, low, first.0)) first.2)

-- the first refusal that holds has a number below that of 503
pub found_below : (n : ℕ) (cs : Refusals) (r : Refusal) → ascends n cs ≡ true → first_that_holds cs ≡ Some r
    → refusal_number r < refusal_number unkept
found_below n [] r up e = cc
found_below n (c ∷ cs) r up e =
    let first = ascends_on n c cs up in by c.0 first.1 (found_below (refusal_number c.1) cs r first.2) e
  where
    by : (holds : Bool) → refusal_number c.1 < refusal_number unkept
        → (first_that_holds cs ≡ Some r → refusal_number r < refusal_number unkept)
        → (if holds then Some c.1 else first_that_holds cs) ≡ Some r → refusal_number r < refusal_number unkept
    by true low later e = let same : c.1 ≡ r = cc in rw (← same) low
    by false low later e = later e

-- none that holds has a lower number than the first that holds
abbrev NoneBelow : Refusal → Refusals → Type 0
NoneBelow r cs = AllByRecursion (λ c. c.0 ≡ true → refusal_number r ≤ refusal_number c.1) cs

none_below : (r : Refusal) (cs : Refusals) → AllByRecursion (λ c. refusal_number r < refusal_number c.1) cs → NoneBelow r cs
none_below r [] up = tt
none_below r (c ∷ cs) up = (λ _. omega (arith, up.0), none_below r cs up.1)

first_is_lowest : (holds : Bool) (first r : Refusal) (cs : Refusals) → ascends (refusal_number first) cs ≡ true
    → (first_that_holds cs ≡ Some r → NoneBelow r cs) → (if holds then Some first else first_that_holds cs) ≡ Some r
    → (holds ≡ true → refusal_number r ≤ refusal_number first) × NoneBelow r cs
first_is_lowest true first r cs up later e =
    let same : first ≡ r = cc in
    rw (← same) (λ _. omega arith, none_below first cs (above (refusal_number first) (refusal_number first) cs (omega arith) up))
first_is_lowest false first r cs up later e = (λ h. absurd (false≢true h), later e)

pub lowest_of_ascending : (n : ℕ) (cs : Refusals) (r : Refusal) → ascends n cs ≡ true → first_that_holds cs ≡ Some r → NoneBelow r cs
lowest_of_ascending n [] r up e = cc
lowest_of_ascending n (c ∷ cs) r up e =
    let later = (ascends_on n c cs up).2 in
    first_is_lowest c.0 c.1 r cs later (lowest_of_ascending (refusal_number c.1) cs r later) e

-- the refusals of a map's text
map_ascends : (fault : Option ℕ) (text : List ℕ) (found : Option (List ℕ)) (count : ℕ)
    → ascends 12 (refused_for BadMap fault ++ text_refusals text found count) ≡ true
map_ascends None text found count = refl
map_ascends (Some fault) text found count = refl

-- those of a registration
readback_ascends : (words : List (List ℕ)) (map : Option Map)
    → ascends 18 (option_map_or (readback_refusals words) map []) ≡ true
readback_ascends words None = refl
readback_ascends words (Some m) = refl

-- those of a step of a device that was looked up
step_ascends : (against : Map → Device → Refusals) → ((m : Map) (d : Device) → ascends 12 (against m d) ≡ true) → (found : Option FoundDevice)
    → ascends 12 (step_refusals against found) ≡ true
step_ascends against each None = refl
step_ascends against each (Some found) = with_map found.map found.device
  where
    with_map : (map : Option Map) (d : Device)
        → ascends 12 (option_map_or (λ m. against m d) map []) ≡ true
    with_map None d = refl
    with_map (Some m) d = each m d

-- those of each action
action_ascends : (a : Action) (m : Map) (d : Device) → ascends 12 (action_refusals a m d) ≡ true
action_ascends (Plan wishes) m d = refl
action_ascends _ m d = refl

identity_ascends : (key : List ℕ) (d : Device) (order : Option OrderSight)
    → ascends 12 (option_map_or (number_and_key_refusals key d) order []) ≡ true
identity_ascends key d None = refl
identity_ascends key d (Some o) = refl

-- those of an import
conflict_ascends : (serial : Option (List ℕ)) → ascends 37 (refused_for ImportConflict serial) ≡ true
conflict_ascends None = refl
conflict_ascends (Some serial) = refl

-- those of each command stand in the order of their numbers, after those of the retry rule
pub refusals_ascend : (s : Section) (v : Sight) (c : Change) → ascends 12 (refusals s v c) ≡ true
refusals_ascend s v (MakeOrder o) = refl
refusals_ascend s v (ImportMap text) =
    map_ascends (map_fault text) text (v.text (sha256 text)) v.maps
refusals_ascend s v (RegisterDevice d) = readback_ascends d.blocks (map_in_sight v d.map)
refusals_ascend s v (Act chip action) =
    step_ascends (action_refusals action) (action_ascends action) (device_in_sight v chip)
refusals_ascend s v (Identify i) =
    step_ascends _ (λ m d. identity_ascends i.key d (v.order d.order))
    (device_in_sight v i.chip)
refusals_ascend s v (Import i) = conflict_ascends (option_and_then result_err (merged_rows v i))

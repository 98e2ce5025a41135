-- The maps that are kept by number, and the one at the place of a number.
use Rattle.std.proofs.Common.{◌≡◌, get_or}
use Rattle.text_core.proofs.Kit.{◌∙◌, ℕ, List, Option, Some, Result, Ok, Err, nat_eq, map, sym, ap, All, IfOk, IfSome, OnErr, OnOk, position, result_ok}
use Rattle.text_core.proofs.Kit.{eqb-true, All-same}
use Rattle.fusemap_core.specs.Prelude.{Map}
use Rattle.fusemap_core.specs.Recent.{with_first}
use Rattle.fusemap_core.proofs.Brought.{All-with_first, map-with_first}
use Rattle.fusemap_core.specs.Numbers.{IsMapOfNumber}
use Rattle.fusemap_core.specs.declared.numbered.NumberedMap.{NumberedMap}
use Rattle.fusemap_core.proofs.Places.{passes_at_place, place_within}

-- what was looked for in the kept ones, seen as a slice, was looked for in them
pub place_of_kept : (id : ℕ) (kept seen : List NumberedMap) (found : Option ℕ) → seen ≡ kept → found ≡ position (λ (one : NumberedMap). nat_eq id one.id) seen
    → position (λ (one : NumberedMap). nat_eq id one.id) kept ≡ found
place_of_kept id kept seen found same is =
    ap (λ (ones : List NumberedMap). position (λ (one : NumberedMap). nat_eq id one.id) ones) (sym same) ∙ sym is

-- the one at the place of a number has it
pub number_at_place : (id : ℕ) (kept : List NumberedMap) (place : ℕ) (d : NumberedMap) → position (λ (one : NumberedMap). nat_eq id one.id) kept ≡ Some place
    → (get_or kept place d).id ≡ id
number_at_place id kept place d found =
    sym (eqb-true id (get_or kept place d).id (passes_at_place (λ (one : NumberedMap). nat_eq id one.id) kept place d found))

-- the map at the place of a number is that of the number
pub right_at_place : (map_of : ℕ → Option Map) (id : ℕ) (kept : List NumberedMap) (place : ℕ) (d : NumberedMap)
    → position (λ (one : NumberedMap). nat_eq id one.id) kept ≡ Some place → All (IsMapOfNumber map_of) kept → IsMapOfNumber map_of (get_or kept place d)
right_at_place map_of id kept place d found right = right place d (place_within (λ (one : NumberedMap). nat_eq id one.id) kept place found)

-- a copy of the map of a number is its map
pub copy_is : {E : Type 0} (map_of : ℕ → Option Map) (id : ℕ) (one : NumberedMap) (copied : Result Map E) → one.id ≡ id → IsMapOfNumber map_of one
    → IfOk copied (λ copy. copy ≡ one.map) → IfSome (result_ok copied) (λ copy. map_of id ≡ Some copy)
copy_is map_of id one (Ok copy) number is same = ap map_of (sym number) ∙ (is ∙ ap (λ (m : Map). Some m) (sym same))
copy_is map_of id one (Err e) number is same = tt

-- what holds of each that is kept holds once one was kept before them, or none was
pub All-put : {V E : Type 0} (P : NumberedMap → Type 0) (kept : Result V E) (one : NumberedMap) (old new : List NumberedMap)
    → OnOk kept (new ≡ with_first one old) → OnErr kept (new ≡ old) → P one → All P old → All P new
All-put P (Ok v) one old new ok err here all = All-same P new (with_first one old) ok (All-with_first P one old here all)
All-put P (Err e) one old new ok err here all = All-same P new old err all

-- the numbers, once one was kept before the others
pub numbers-put : {V E : Type 0} (kept : Result V E) (one : NumberedMap) (old new : List NumberedMap) → OnOk kept (new ≡ with_first one old)
    → OnOk kept (map (λ (o : NumberedMap). o.id) new ≡ with_first one.id (map (λ (o : NumberedMap). o.id) old))
numbers-put (Ok v) one old new ok =
    ap (λ (ones : List NumberedMap). map (λ (o : NumberedMap). o.id) ones) ok ∙ map-with_first (λ (o : NumberedMap). o.id) one old
numbers-put (Err e) one old new ok = tt

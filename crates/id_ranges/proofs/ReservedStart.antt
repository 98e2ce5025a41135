-- The block that is taken from the pools.
use Rattle.std.proofs.Math.Seq.{drop-cons}
use Rattle.text_core.proofs.Kit.{add-one, ℕ, suc, zero, Bool, true, false, List, [], length, drop, Option, Some, None, find, All, Any, refl, sym, ◌∙◌, arith}
use Rattle.text_core.proofs.Kit.{at_drop_all, find-append, none-some, flat_map, option_or, find-passes}
use Rattle.std.proofs.Common.{◌≡◌, ◌+◌, ◌-◌, ◌<◌, ◌≤◌, ◌∷◌, get_or}
use Rattle.id_ranges.specs.Prelude.{is_free, starts, reserved_start, IsBlockWithin, IsApart, Pool}
use Rattle.id_ranges.proofs.FreeBlocks.{apart-from_free}
use Rattle.id_ranges.proofs.Ranges.{in_range-from_find, fails-from_find}

-- the search goes on to the later pools where the first has no free block
pub reserved_start-cons : (pool : Pool) (pools : List Pool) (intervals : List (ℕ × ℕ)) (count : ℕ)
    → reserved_start (pool ∷ pools) intervals count ≡ option_or (find (is_free intervals count) (starts count pool)) (reserved_start pools intervals count)
reserved_start-cons pool pools intervals count =
    find-append (is_free intervals count) (starts count pool) (flat_map (starts count) pools)

-- the block that is taken is free
pub reserved_start-free : (pools : List Pool) (intervals : List (ℕ × ℕ)) (count start : ℕ) → reserved_start pools intervals count ≡ Some start
    → is_free intervals count start ≡ true
reserved_start-free pools intervals count start taken =
    find-passes (is_free intervals count) (flat_map (starts count) pools) start taken

-- a start of a pool begins a block within it
within-from_find : (pool : Pool) (p : ℕ → Bool) (count start : ℕ) → find p (starts count pool) ≡ Some start → IsBlockWithin (start, count) pool
within-from_find pool p count start found =
    let bounds = in_range-from_find p pool.first (pool.count + 1 - count) start found in
    (omega arith, omega arith)

-- a pool among the later ones is among all
Any-later : {X : Type 0} (P : X → Type 0) (x : X) (xs : List X) → Any P xs → Any P (x ∷ xs)
Any-later P x xs any = (suc any.0, any.1, omega arith, any.3, any.4)

-- the block that is taken lies within the first pool or a later one
in_pool_step : (pool : Pool) (pools : List Pool) (p : ℕ → Bool) (count start : ℕ) (later o : Option ℕ)
    → (later ≡ Some start → Any (IsBlockWithin (start, count)) pools) → find p (starts count pool) ≡ o → option_or o later ≡ Some start
    → Any (IsBlockWithin (start, count)) (pool ∷ pools)
in_pool_step pool pools p count start later None rest found taken =
    Any-later (IsBlockWithin (start, count)) pool pools (rest taken)
in_pool_step pool pools p count start later (Some s) rest found taken =
    (0, pool, omega arith, refl, within-from_find pool p count start (found ∙ taken))

-- the block that is taken lies within a pool
pub reserved_start-in_pool : (pools : List Pool) (intervals : List (ℕ × ℕ)) (count start : ℕ) → reserved_start pools intervals count ≡ Some start
    → Any (IsBlockWithin (start, count)) pools
reserved_start-in_pool [] intervals count start taken = absurd (none-some start taken)
reserved_start-in_pool (pool ∷ pools) intervals count start taken =
    in_pool_step pool pools (is_free intervals count) count start (reserved_start pools intervals count) (find (is_free intervals count) (starts count pool))
    (reserved_start-in_pool pools intervals count start) refl (sym (reserved_start-cons pool pools intervals count) ∙ taken)

-- both of two steps give nothing where the first that gives something doesn't
both_none : {X : Type 0} (o p : Option X) → option_or o p ≡ None → (o ≡ None) × (p ≡ None)
both_none None p none = (refl, none)
both_none (Some x) p none = absurd (none-some x (sym none))

-- where no block is taken, none that lies within the pool at k is free
none_at : (pools : List Pool) (intervals : List (ℕ × ℕ)) (count start k : ℕ) (pool : Pool) → reserved_start pools intervals count ≡ None → k < length pools
    → get_or pools k pool ≡ pool → IsBlockWithin (start, count) pool → is_free intervals count start ≡ false
none_at [] intervals count start k pool none below here within = absurd (omega arith)
none_at (q ∷ pools) intervals count start zero pool none below here within =
    let nones =
    both_none (find (is_free intervals count) (starts count q)) (reserved_start pools intervals count)
    (sym (reserved_start-cons q pools intervals count) ∙ none) in
    let inside : IsBlockWithin (start, count) q = rw here within in
    fails-from_find (is_free intervals count) q.first (q.count + 1 - count) start nones.0 inside.0 (omega arith)
none_at (q ∷ pools) intervals count start (suc k) pool none below here within =
    let nones =
    both_none (find (is_free intervals count) (starts count q)) (reserved_start pools intervals count)
    (sym (reserved_start-cons q pools intervals count) ∙ none) in
    none_at pools intervals count start k pool nones.1 (omega arith) here within

-- where no block is taken, none that lies within a pool is free
pub reserved_start-none : (pools : List Pool) (intervals : List (ℕ × ℕ)) (count start : ℕ) → reserved_start pools intervals count ≡ None
    → Any (IsBlockWithin (start, count)) pools → is_free intervals count start ≡ false
reserved_start-none pools intervals count start none within =
    none_at pools intervals count start within.0 within.1 none within.2 within.3 within.4

-- the block that is taken has no address of an interval
pub reserved_start-apart : (pools : List Pool) (intervals : List (ℕ × ℕ)) (count start : ℕ) → reserved_start pools intervals count ≡ Some start
    → All (IsApart (start, count)) intervals
reserved_start-apart pools intervals count start taken =
    apart-from_free intervals start count (reserved_start-free pools intervals count start taken)

-- the search at the pool at i
reserved_start-drop : (pools : List Pool) (intervals : List (ℕ × ℕ)) (count i : ℕ) (pool : Pool) → i < length pools → pool ≡ get_or pools i pool
    → reserved_start (drop i pools) intervals count ≡ option_or (find (is_free intervals count) (starts count pool))
    (reserved_start (drop (i + 1) pools) intervals count)
reserved_start-drop pools intervals count i pool below here =
    rw (add-one i, drop-cons pools i pool below, ← here) (reserved_start-cons pool (drop (suc i) pools) intervals count)

-- the pool at i, where none before it has a free block, has one
pub taken_at : (pools : List Pool) (intervals : List (ℕ × ℕ)) (count i start : ℕ) (pool : Pool) → i < length pools → pool ≡ get_or pools i pool
    → reserved_start (drop i pools) intervals count ≡ reserved_start pools intervals count → find (is_free intervals count) (starts count pool) ≡ Some start
    → reserved_start pools intervals count ≡ Some start
taken_at pools intervals count i start pool below here before found =
    let step = reserved_start-drop pools intervals count i pool below here in
    sym before ∙ (rw found at step)

-- it has none either
pub passed_at : (pools : List Pool) (intervals : List (ℕ × ℕ)) (count i : ℕ) (pool : Pool) → i < length pools → pool ≡ get_or pools i pool
    → reserved_start (drop i pools) intervals count ≡ reserved_start pools intervals count → find (is_free intervals count) (starts count pool) ≡ None
    → reserved_start (drop (i + 1) pools) intervals count ≡ reserved_start pools intervals count
passed_at pools intervals count i pool below here before none =
    let step = reserved_start-drop pools intervals count i pool below here in
    sym (rw none at step) ∙ before

-- its block lies within a pool
pub taken_within : (pools : List Pool) (intervals : List (ℕ × ℕ)) (count i start : ℕ) (pool : Pool) → i < length pools → pool ≡ get_or pools i pool
    → reserved_start (drop i pools) intervals count ≡ reserved_start pools intervals count → find (is_free intervals count) (starts count pool) ≡ Some start
    → Any (IsBlockWithin (start, count)) pools
taken_within pools intervals count i start pool below here before found =
    reserved_start-in_pool pools intervals count start (taken_at pools intervals count i start pool below here before found)

-- its block is free
pub taken_free : (pools : List Pool) (intervals : List (ℕ × ℕ)) (count i start : ℕ) (pool : Pool) → i < length pools → pool ≡ get_or pools i pool
    → reserved_start (drop i pools) intervals count ≡ reserved_start pools intervals count → find (is_free intervals count) (starts count pool) ≡ Some start
    → is_free intervals count start ≡ true
taken_free pools intervals count i start pool below here before found =
    reserved_start-free pools intervals count start (taken_at pools intervals count i start pool below here before found)

-- after the last pool no block within a pool is free
pub none_left : (pools : List Pool) (intervals : List (ℕ × ℕ)) (count i start : ℕ) → length pools ≤ i
    → reserved_start (drop i pools) intervals count ≡ reserved_start pools intervals count → Any (IsBlockWithin (start, count)) pools
    → is_free intervals count start ≡ false
none_left pools intervals count i start past before within =
    reserved_start-none pools intervals count start (sym before ∙ at_drop_all (λ ps. reserved_start ps intervals count) pools i past) within

-- what the search over the pools uses
pub ruleset pool_steps = (taken_at, passed_at, taken_within, taken_free, none_left)

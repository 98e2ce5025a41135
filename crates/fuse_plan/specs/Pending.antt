-- What is still to be burnt on a chip, from the plan on, as read-backs come in.
use Rattle.std.specs.Prelude.{◌≡◌, ◌↔◌, ℕ, Bool, true, false, List, Ok, is_some}
use Rattle.std.specs.FinSet as set
use Rattle.std.specs.FinMap as map
use Rattle.fusemap_core.specs.declared.pos.Pos.{Pos}
use Rattle.fusemap_core.specs.Prelude.{Map, IsMap}
use Rattle.fuse_image.specs.Prelude.{KeyTable, is_hidden, Positions, IsPending, AreKeys}
use Rattle.fuse_image.specs.declared.image.Image.{Image}
use Rattle.fuse_image.specs.declared.pending.Pending.{Pending}
use Rattle.fuse_image.specs.declared.redaction.ReadBack.{ReadBack}
use Rattle.fuse_plan.specs.declared.verdict.Verdict.{Verdict}
use Rattle.fuse_plan.specs.declared.verdict.Verdict.TheVariants.{Short, Fault, Match}
use Rattle.fuse_plan.specs.declared.wish.Wish.{Wish}
use Rattle.fuse_plan.specs.Law.{StaysReadable, with_batch}
use Rattle.fuse_plan.specs.Outcome.{image_after, seen, short_bits, short_keys, verdict_of}
use Rattle.fuse_plan.specs.Plans.{lock_positions, plan_of}

-- what is to be burnt isn't yet, the second batch lies in the lock fields (WR_DIS and RD_DIS) and the first outside them, keys are those of key blocks, and the
-- first batch stays readable
pub record PendingFitsImage (m : Map) (a : Image) (w : Pending) : Type 0 where
  pub new_first : (q : Pos) → set.contains w.first q ≡ true → set.contains a.burnt q ≡ false
  pub new_second : (q : Pos) → set.contains w.second q ≡ true → set.contains a.burnt q ≡ false
  pub plain : (q : Pos) → set.contains w.first q ≡ true → set.contains (lock_positions m) q ≡ false
  pub locks : (q : Pos) → set.contains w.second q ≡ true → set.contains (lock_positions m) q ≡ true
  pub new_keys : (b : ℕ) → is_some (map.get w.keys b) ≡ true → is_some (map.get a.keys b) ≡ false
  pub keys : AreKeys m w.keys
  pub in_sight : StaysReadable m (set.union a.burnt w.first) w.first a.keys w.keys

-- a plan is pending on the chip that it was made for
abbrev pub PlanLaw : Type 0
PlanLaw = (m : Map) → IsMap m → (a : Image) (ws : List Wish) (w : Pending) → plan_of m a ws ≡ Ok w → PendingFitsImage m a w

-- no read lock hides a position of the lock fields
abbrev pub LocksShow : Type 0
LocksShow = (m : Map) → IsMap m → (burnt : Positions) (q : Pos) → set.contains (lock_positions m) q ≡ true → is_hidden m burnt q ≡ false

-- a read-back says nothing wrong: it matches, or falls short
abbrev pub is_no_fault : Verdict → Bool
is_no_fault (Fault fault) = false
is_no_fault _ = true

-- the rest that a read-back tells: nothing where it matches
abbrev pub rest_of : Verdict → Image
rest_of (Short rest) = rest
rest_of _ = record { burnt = set.empty; keys = map.empty }

-- where a read-back says nothing wrong, the rest that it tells is what falls short
abbrev pub RestLaw : Type 0
RestLaw = (m : Map) (a : Image) (batch : Positions) (asked : KeyTable) (r : ReadBack) → is_no_fault (verdict_of m a batch asked r) ≡ true
    → rest_of (verdict_of m a batch asked r) ≡ record { burnt = short_bits batch r.ones; keys = short_keys a.keys asked r.shown }

-- what is left to be burnt after a read-back of the first batch, and after one of the second
abbrev pub rest_of_first : Pending → Image → ReadBack → Pending
rest_of_first w a r = record { first = short_bits w.first r.ones; second = w.second; keys = short_keys a.keys w.keys r.shown }

abbrev pub rest_of_second : Pending → ReadBack → Pending
rest_of_second w r = record { first = set.empty; second = short_bits w.second r.ones; keys = map.empty }

-- what a read-back of the first batch leaves is pending on the chip as it is then, unless the read-back says that something is wrong
abbrev pub FirstRestLaw : Type 0
FirstRestLaw = (m : Map) (a : Image) (w : Pending) (r : ReadBack) → PendingFitsImage m a w
    → is_no_fault (verdict_of m a w.first w.keys r) ≡ true → PendingFitsImage m (image_after a r) (rest_of_first w a r)

-- what a read-back of the second batch leaves is pending too, whatever the read-back says
abbrev pub SecondRestLaw : Type 0
SecondRestLaw = (m : Map) (a : Image) (w : Pending) (r : ReadBack) → PendingFitsImage m a w → PendingFitsImage m (image_after a r) (rest_of_second w r)

-- what is left to be burnt lies in the map where the plan does
abbrev pub RestsInMap : Type 0
RestsInMap = (m : Map) (a : Image) (w : Pending) (r : ReadBack) → IsPending m w → IsPending m (rest_of_first w a r) × IsPending m (rest_of_second w r)

-- where keys are those of key blocks alone, a read-back of the first batch of what is pending
-- matches exactly where the chip shows what it would with all of that batch burnt
abbrev pub FirstBatchLaw : Type 0
FirstBatchLaw = (m : Map) (a : Image) (w : Pending) (r : ReadBack)
    → AreKeys m a.keys → AreKeys m r.shown → PendingFitsImage m a w
    → (verdict_of m a w.first w.keys r ≡ Match) ↔ (r ≡ seen m (with_batch a w.first w.keys))

-- where keys are those of key blocks alone, a read-back of the second batch, which has no keys,
-- matches exactly where the chip shows what it would with all of that batch burnt
abbrev pub SecondBatchLaw : Type 0
SecondBatchLaw = (m : Map) → IsMap m → (a : Image) (w : Pending) (r : ReadBack)
    → AreKeys m a.keys → AreKeys m r.shown → PendingFitsImage m a w
    → (verdict_of m a w.second map.empty r ≡ Match) ↔ (r ≡ seen m (with_batch a w.second map.empty))

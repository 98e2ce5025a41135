-- What lawful wishes ask to be burnt lies in the map, outside key fields.
use Rattle.std.proofs.Common.{◌≡◌, ◌+◌, ◌<◌, ◌∷◌, ◌==◌, ◌&&◌, if◌then◌else◌}
use Rattle.text_core.proofs.Kit.{ℕ, Bool, true, false, List, [], Option, Some, None, IfSome, IsSomeAnd, option_map, option_and_then, refl, subst, sym, ap, ap₂}
use Rattle.text_core.proofs.Kit.{◌∙◌, inl, inr, arith, nat_le, nat_lt, list_any, option_map_or, and_from, and_parts, eqb-true, false≢true, le-leb, lt-ltb}
use Rattle.text_core.proofs.Kit.{ltb-true, or_cases, or_parts}
use Rattle.std.specs.FinSet as set
use Rattle.text_core.specs.Prelude.{first_that_holds}
use Rattle.fuse_plan.proofs.Types.{Field, Pos, Image, Wants, Want, Bit, Value, WriteLock, ReadLock, Key, Wish}
use Rattle.fusemap_core.specs.Prelude.{HasBit, HasItsLocks, IsInBlock, IsMap, IsPosition, Map, NamesLockField, bit_of, field_named, holds, is_lock}
use Rattle.fusemap_core.specs.Prelude.{is_field_named, lock_at, word_count}
use Rattle.fusemap_core.proofs.Bounds.{found}
use Rattle.fuse_image.specs.Prelude.{is_key_position, Positions, contains-places_where, is_place, pos_total, HoldsDigests, KeyTable, keys_without, AreBits}
use Rattle.fuse_image.specs.Prelude.{AreKeysOf, IsPending, AreKeys}
use Rattle.fuse_image.proofs.InMap.{sets_stay, tables_stay}
use Rattle.fuse_plan.specs.Prelude.{short_bits, short_keys, RestsInMap, batches, faults_with, wish_passes, is_wrong, lock_positions, asks_one, is_to_be_one}
use Rattle.fuse_plan.specs.Prelude.{missing, wanted_ones, wants_of}
use Rattle.fuse_plan.proofs.Pending.{missing_keys, none_at}
use Rattle.fuse_plan.proofs.Shown.{found_alone}

-- the position is one of the map's, and lies in no key field
abbrev pub IsPlain : Map → Pos → Type 0
IsPlain m q = IsPosition m.blocks q × (is_key_position m q ≡ false)

-- a bit of a field is a position of it
has_bit : (f : Field) (i : ℕ) (q : Pos) → i < f.count → is_lock (Some (bit_of f i)) q ≡ true → holds f q ≡ true
has_bit f i q low h =
    let parts = and_parts (f.block == q.block) (f.bit + i == q.bit) h in
    let bit : f.bit + i ≡ q.bit = eqb-true (f.bit + i) q.bit parts.1 in
    and_from _ _ parts.0 (and_from _ _ (le-leb f.bit q.bit (omega (arith, bit))) (lt-ltb q.bit (f.bit + f.count) (omega (arith, bit, low))))

module _ (m : Map) (is : IsMap m) (q : Pos) where
  -- a position of a plain field that is found by its name
  plain : (name : List ℕ) (g : Field) → field_named name m.fields ≡ Some g → g.key ≡ false → holds g q ≡ true → IsPlain m q
  unfolding is_key_position
  plain name g e not_key h =
      let within : IfSome (Some g) (IsInBlock m.blocks) =
      subst (λ (o : Option Field). IfSome o (IsInBlock m.blocks)) e (found (is_field_named name) (IsInBlock m.blocks) m.fields is.in_block) in
      let parts = and_parts (g.block == q.block) (nat_le g.bit q.bit && nat_lt q.bit (g.bit + g.count)) h in
      let bits = and_parts (nat_le g.bit q.bit) (nat_lt q.bit (g.bit + g.count)) parts.1 in
      let block : g.block ≡ q.block = eqb-true g.block q.block parts.0 in
      let low = ltb-true q.bit (g.bit + g.count) bits.1 in (
        record {
          block = omega (arith, block, within.block);
          bit = omega (arith, low, within.end, ap (word_count m.blocks) block);
        },
        found_alone m.fields (is_field_named name) (λ f. f.key) q is.apart g e h not_key,
      )

  -- a lock is a bit of its lock field
  lock : (name : List ℕ) → NamesLockField m.fields name → (i : Option ℕ) → IfSome i (HasBit m.fields name)
      → is_lock (option_and_then (lock_at m.fields name) i) q ≡ true → IsPlain m q
  lock name names None has h = absurd (false≢true h)
  lock name names (Some i) has h = at (field_named name m.fields) refl names has h
    where
      at : (o : Option Field) → field_named name m.fields ≡ o → IsSomeAnd o (λ f. (f.key ≡ false) × (f.read ≡ None)) → IsSomeAnd o (λ f.
          i < f.count) → is_lock (option_map (λ f. bit_of f i) o) q ≡ true → IsPlain m q
      at None e n b l = absurd n
      at (Some g) e n b l = plain name g e n.0 (has_bit g i q b l)

  -- what a wish asks of a field of its kind
  of_field : (name : List ℕ) (f : Field) → field_named name m.fields ≡ Some f → (want : Want) → is_wrong want f ≡ false → is_to_be_one m q want f ≡ true
      → IsPlain m q
  of_field name f e (Bit i) right asks = in_it (nat_lt i f.count) refl asks
    where
      in_it : (low : Bool) → nat_lt i f.count ≡ low → is_lock (if low then Some (bit_of f i) else None) q ≡ true → IsPlain m q
      in_it true low h = plain name f e right (has_bit f i q (ltb-true i f.count low) h)
      in_it false low h = absurd (false≢true h)
  of_field name f e (Value v) right asks = plain name f e right (and_parts (holds f q) _ asks).0
  of_field name f e (Key digest) right asks = absurd (false≢true asks)
  of_field name f e WriteLock right asks =
      let has : IfSome (Some f) (HasItsLocks m) =
      subst (λ (o : Option Field). IfSome o (HasItsLocks m)) e (found (is_field_named name) (HasItsLocks m) m.fields is.locks) in
      lock m.wr is.lock_fields.wr f.write has.write asks
  of_field name f e ReadLock right asks =
      let has : IfSome (Some f) (HasItsLocks m) =
      subst (λ (o : Option Field). IfSome o (HasItsLocks m)) e (found (is_field_named name) (HasItsLocks m) m.fields is.locks) in
      lock m.rd is.lock_fields.rd f.read has.read asks

  of_wish : (w : Wish) → wish_passes m is_wrong w ≡ false → asks_one m q w ≡ true → IsPlain m q
  of_wish w right asks = at (field_named w.field m.fields) refl right asks
    where
      at : (o : Option Field) → field_named w.field m.fields ≡ o → option_map_or (is_wrong w.want) o false ≡ false
          → option_map_or (is_to_be_one m q w.want) o false ≡ true → IsPlain m q
      at None e r a = absurd (false≢true a)
      at (Some f) e r a = of_field w.field f e w.want r a

  of_wishes : (ws : List Wish) → list_any (wish_passes m is_wrong) ws ≡ false → list_any (asks_one m q) ws ≡ true → IsPlain m q
  of_wishes [] right asks = absurd (false≢true asks)
  of_wishes (w ∷ ws) right asks =
      let parts = or_parts (wish_passes m is_wrong w) (list_any (wish_passes m is_wrong) ws) right in
      elim (or_cases (asks_one m q w) (list_any (asks_one m q) ws) asks) as (λ _. IsPlain m q) [
        | inl here ↦ of_wish w parts.0 here
        | inr later ↦ of_wishes ws parts.1 later
      ]

-- what wishes of right kinds ask to be burnt
wanted_in_map : (m : Map) → IsMap m → (ws : List Wish) → list_any (wish_passes m is_wrong) ws ≡ false → AreBits m (wanted_ones m ws)
unfolding wanted_ones
wanted_in_map m is ws right q has =
    of_wishes m is q ws right (and_parts (is_place q) _ (sym (contains-places_where (λ p. list_any (asks_one m p) ws) q) ∙ has)).1

-- the batches of lawful wishes
pub batches_in_map : (m : Map) → IsMap m → (a : Image) (ws : List Wish)
    → first_that_holds (faults_with m a ws (wants_of m ws) (missing a (wants_of m ws))) ≡ None
    → AreBits m (batches m (missing a (wants_of m ws))).first × AreBits m (batches m (missing a (wants_of m ws))).second
batches_in_map m is a ws lawful =
    let w = wants_of m ws in
    let lacking = missing a w in
    let right = or_parts (list_any (wish_passes m is_wrong) ws) _ (none_at (faults_with m a ws w lacking) 5 lawful) in
    let wanted = wanted_in_map m is ws right.0 in
    let all : AreBits m lacking.burnt = λ q has. wanted q (and_parts _ _ (sym (set.contains-difference pos_total (wanted_ones m ws) a.burnt q) ∙ has)).0 in (
      λ q has. all q (and_parts _ _ (sym (set.contains-difference pos_total lacking.burnt (lock_positions m) q) ∙ has)).0,
      λ q has. all q (and_parts _ _ (sym (set.contains-intersection pos_total lacking.burnt (lock_positions m) q) ∙ has)).0,
    )

-- the whole plan
pub plan_in_map : (m : Map) → IsMap m → (a : Image) (ws : List Wish) (w : Wants) (lacking : Image) → w ≡ wants_of m ws → lacking ≡ missing a w
    → first_that_holds (faults_with m a ws w lacking) ≡ None → HoldsDigests lacking.keys → IsPending m (batches m lacking)
plan_in_map m is a ws w lacking wanted left lawful digests =
    let same : lacking ≡ missing a (wants_of m ws) = left ∙ ap (missing a) wanted in
    let bits = batches_in_map m is a ws (sym (ap₂ (λ (v : Wants) (x : Image). first_that_holds (faults_with m a ws v x)) wanted same) ∙ lawful) in
    let keys : AreKeys m lacking.keys = subst (λ (x : Image). AreKeys m x.keys) (sym same) (missing_keys m a ws) in
    record {
      first = subst (λ (x : Image). AreBits m (batches m x).first) (sym same) bits.0;
      second = subst (λ (x : Image). AreBits m (batches m x).second) (sym same) bits.1;
      keys = record { keys = keys; digests = digests };
    }

-- what is left of a plan
rest_bits : (m : Map) (batch ones : Positions) → AreBits m batch → AreBits m (short_bits batch ones)
unfolding short_bits
rest_bits m batch ones lies = (sets_stay m).difference batch ones lies

rest_keys : (m : Map) (known asked shown : KeyTable) → AreKeysOf m asked → AreKeysOf m (short_keys known asked shown)
unfolding short_keys
rest_keys m known asked shown lies = (tables_stay m).without (keys_without asked known) shown ((tables_stay m).without asked known lies)

pub rests_in_map : RestsInMap
rests_in_map m a w r lies = (
  record {
    first = rest_bits m w.first r.ones lies.first;
    second = lies.second;
    keys = rest_keys m a.keys w.keys r.shown lies.keys;
  },
  record { first = (sets_stay m).none; second = rest_bits m w.second r.ones lies.second; keys = (tables_stay m).none },
)

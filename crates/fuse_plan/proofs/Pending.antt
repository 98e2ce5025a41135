-- A plan is pending on its chip, and so is what a read-back leaves of it.
use Rattle.std.proofs.Common.{◌≡◌, get_or, ◌&&◌, ◌||◌, ◌∷◌, ◌==◌, if◌then◌else◌}
use Rattle.text_core.proofs.Kit.{ℕ, zero, suc, Bool, true, false, not, List, [], Option, Some, None, option_and_then, find, refl, sym, ap, ap₂, subst, ◌∙◌}
use Rattle.text_core.proofs.Kit.{nat_cmp, inl, inr, nat_lt, is_some, Ok, cond, list_any, option_map_or, option_or, and_parts, cases_Bool, eqb-true, false≢true}
use Rattle.text_core.proofs.Kit.{ltb-true, not-false, not-true, or_left, or_parts, or_right, true≢false, same_Some}
use Rattle.std.specs.FinSet as set
use Rattle.std.specs.FinMap as map
use Rattle.text_core.specs.Prelude.{first_that_holds}
use Rattle.fuse_plan.proofs.Types.{Field, Pos, Image, Pending, ReadBack, PlanFault, UnknownField, Verdict, Fault, Match, Short, Want, Bit, Value, WriteLock}
use Rattle.fuse_plan.proofs.Types.{ReadLock, Key, Wish, Wants}
use Rattle.fusemap_core.specs.Prelude.{Map, IsMap, field_named, is_field_named}
use Rattle.fuse_image.specs.Prelude.{KeyTable, get-table_where, has_no_key, keys_union, keys_without, is_hidden, is_hidden_key, is_key_block, Positions}
use Rattle.fuse_image.specs.Prelude.{is_empty, is_place, sets_meet, pos_cmp, pos_total, pos_exact, places_where, contains-places_where, AreKeys, some_key}
use Rattle.fuse_image.proofs.Sets.{none_in}
use Rattle.fuse_plan.specs.Prelude.{image_after, is_bad_key, lost, short_bits, short_keys, short_or_match, stray, verdict_of, batches, faults_with}
use Rattle.fuse_plan.specs.Prelude.{has_key_where, is_hidden_in, lock_positions, pending_or_fault, FirstBatchLaw, FirstRestLaw, PendingFitsImage, PlanLaw}
use Rattle.fuse_plan.specs.Prelude.{RestLaw, SecondBatchLaw}
use Rattle.fuse_plan.specs.Prelude.{SecondRestLaw, is_no_fault, rest_of, rest_of_first, asks_one, key_of_want, key_of_wish, missing, wanted_key, wanted_keys}
use Rattle.fuse_plan.specs.Prelude.{wanted_ones, wants_of}
use Rattle.fuse_plan.specs.declared.verdict.ChipFault.TheVariants as chip
use Rattle.fuse_plan.proofs.Law.{match_law, test_of_key}
use Rattle.fuse_plan.proofs.Compared.{in_retain}
use Rattle.fuse_plan.proofs.Shown.{IsPlain, locks_show, same_hidden, same_hidden_key}

-- ---- a plan
not_then : (c : Bool) (fault : PlanFault) (rest : Option PlanFault) → (if c then Some fault else rest) ≡ None → (c ≡ false) × (rest ≡ None)
not_then true fault rest h = absurd (cc)
not_then false fault rest h = (refl, h)

is_planned : (o : Option PlanFault) (x w : Pending) → pending_or_fault o x ≡ Ok w → (o ≡ None) × (x ≡ w)
is_planned None x w h = (refl, cc)
is_planned (Some fault) x w h = absurd (cc)

pub none_at : (cs : List (Bool × PlanFault)) (i : ℕ) → first_that_holds cs ≡ None → (get_or cs i (false, UnknownField)).0 ≡ false
none_at [] i h = refl
none_at (c ∷ cs) zero h = (not_then c.0 c.1 (first_that_holds cs) h).0
none_at (c ∷ cs) (suc i) h = none_at cs i (not_then c.0 c.1 (first_that_holds cs) h).1

none_hidden : (m : Map) (a : Image) (ws : List Wish) (w : Wants) (lacking : Image) → first_that_holds (faults_with m a ws w lacking) ≡ None
    → is_hidden_in m a.burnt lacking ≡ false
none_hidden m a ws w lacking h = none_at (faults_with m a ws w lacking) 8 h

-- a key that is wished for is one of a key field
is_of_block : (b : ℕ) (want : Want) (f : Field) → is_some (key_of_want b want f) ≡ true → (f.key && f.block == b) ≡ true
is_of_block b (Bit i) f h = absurd (false≢true h)
is_of_block b (Value v) f h = absurd (false≢true h)
is_of_block b (Key digest) f h = there (f.key && f.block == b) digest h
  where
    there : (c : Bool) (d : List ℕ) → is_some (if c then Some d else None) ≡ true → c ≡ true
    there true d h = refl
    there false d h = h
is_of_block b WriteLock f h = absurd (false≢true h)
is_of_block b ReadLock f h = absurd (false≢true h)

any_found : (fs : List Field) (named test : Field → Bool) (x : Option Field) → find named fs ≡ x → option_map_or test x false ≡ true → list_any test fs ≡ true
any_found fs named test None e h = absurd (false≢true h)
any_found [] named test (Some g) e h = absurd (cc)
any_found (f ∷ fs) named test (Some g) e h = elim (cases_Bool (named f)) as (λ _. list_any test (f ∷ fs) ≡ true) [
  | inl is ↦
      let same : f ≡ g = same_Some f g (ap (λ b. cond b (Some f) (find named fs)) (sym is) ∙ e) in
      or_left (test f) (list_any test fs) (ap test same ∙ h)
  | inr is_not ↦
      or_right (test f) (list_any test fs) (any_found fs named test (Some g) (ap (λ b. cond b (Some f) (find named fs)) (sym is_not) ∙ e) h)
]

key_field : (b : ℕ) (want : Want) (o : Option Field) → is_some (option_and_then (key_of_want b want) o) ≡ true → option_map_or (λ f.
    f.key && f.block == b) o false ≡ true
key_field b want None h = absurd (false≢true h)
key_field b want (Some f) h = is_of_block b want f h

is_key_of : (m : Map) (b : ℕ) (w : Wish) → is_some (key_of_wish m b w) ≡ true → is_key_block m b ≡ true
is_key_of m b w h =
    any_found m.fields (is_field_named w.field) (λ f. f.key
    && f.block == b) (field_named w.field m.fields)
    refl (key_field b w.want (field_named w.field m.fields) h)

one_of_both : (x y : Option (List ℕ)) → is_some (option_or x y) ≡ true → is_some x ≡ false → is_some y ≡ true
one_of_both None y h none = h
one_of_both (Some d) y h none = absurd (true≢false none)

is_wanted_key : (m : Map) (b : ℕ) (ws : List Wish) → is_some (wanted_key m b ws) ≡ true → is_key_block m b ≡ true
is_wanted_key m b [] h = absurd (false≢true h)
is_wanted_key m b (w ∷ ws) h = elim (cases_Bool (is_some (key_of_wish m b w))) as (λ _. is_key_block m b ≡ true) [
  | inl here ↦ is_key_of m b w here
  | inr none ↦ is_wanted_key m b ws (one_of_both (key_of_wish m b w) (wanted_key m b ws) h none)
]

-- a key that is asked for at one of the 4 blocks, and isn't known
pub record IsNew (in_blocks is_known : Bool) (x : Option (List ℕ)) : Type 0 where
  pub low : in_blocks ≡ true
  pub known : is_known ≡ false
  pub asked : is_some x ≡ true

is_new : (low known : Bool) (x : Option (List ℕ)) → is_some (if low then (if known then None else x) else None) ≡ true → IsNew low known x
is_new true true x h = absurd (false≢true h)
is_new true false x h = record { low = refl; known = refl; asked = h }
is_new false known x h = absurd (false≢true h)

left_of : (asked known : KeyTable) (b : ℕ) → is_some (map.get (keys_without asked known) b) ≡ true
    → IsNew (nat_lt b 4) (is_some (map.get known b)) (map.get asked b)
unfolding keys_without
left_of asked known b h =
    is_new (nat_lt b 4) (is_some (map.get known b)) (map.get asked b)
    (ap is_some (sym (get-table_where (λ c. if is_some (map.get known c) then None else map.get asked c) b)) ∙ h)

are_wanted : (m : Map) (ws : List Wish) → AreKeys m (wanted_keys m ws)
unfolding wanted_keys
are_wanted m ws b h =
    let new = is_new (nat_lt b 4) false (wanted_key m b ws) (ap is_some (sym (get-table_where (λ c. wanted_key m c ws) b)) ∙ h) in
    (ltb-true b 4 new.low, is_wanted_key m b ws new.asked)

are_left : (m : Map) (asked known : KeyTable) → AreKeys m asked → AreKeys m (keys_without asked known)
are_left m asked known keys b h = keys b (left_of asked known b h).asked

pub missing_keys : (m : Map) (a : Image) (ws : List Wish) → AreKeys m (missing a (wants_of m ws)).keys
missing_keys m a ws = are_left m (wanted_keys m ws) a.keys (are_wanted m ws)

are_places : (m : Map) (ws : List Wish) (q : Pos) → set.contains (wanted_ones m ws) q ≡ true → is_place q ≡ true
unfolding wanted_ones
are_places m ws q h = (and_parts (is_place q) _ (sym (contains-places_where (λ p. list_any (asks_one m p) ws) q) ∙ h)).0

not_with : (place hid : Bool) → place ≡ true → (place && hid) ≡ false → hid ≡ false
not_with true hid p h = h
not_with false hid p h = absurd (false≢true p)

module _ (m : Map) (is : IsMap m) (a : Image) (ws : List Wish) (clear : is_hidden_in m a.burnt (missing a (wants_of m ws)) ≡ false) where
  abbrev lacking : Image
  lacking = missing a (wants_of m ws)

  abbrev locks : Positions
  locks = lock_positions m

  abbrev P : Positions
  P = set.difference lacking.burnt locks

  lacking_at : (q : Pos) → set.contains lacking.burnt q ≡ true → (set.contains (wanted_ones m ws) q ≡ true) × (set.contains a.burnt q ≡ false)
  lacking_at q h =
      let parts = and_parts _ _ (sym (set.contains-difference pos_total (wanted_ones m ws) a.burnt q) ∙ h) in
      (parts.0, not-true (set.contains a.burnt q) parts.1)

  first_at : (q : Pos) → set.contains P q ≡ true → (set.contains lacking.burnt q ≡ true) × (set.contains locks q ≡ false)
  first_at q h =
      let parts = and_parts _ _ (sym (set.contains-difference pos_total lacking.burnt locks q) ∙ h) in
      (parts.0, not-true (set.contains locks q) parts.1)

  second_at : (q : Pos) → set.contains (set.intersection lacking.burnt locks) q ≡ true → (set.contains lacking.burnt q ≡ true) × (set.contains locks q ≡ true)
  second_at q h = and_parts _ _ (sym (set.contains-intersection pos_total lacking.burnt locks q) ∙ h)

  outside : IsPlain m P
  outside = record {
    places = λ q h. are_places m ws q (lacking_at q (first_at q h).0).0;
    plain = λ q h. (first_at q h).1;
  }

  abbrev hidden : Positions
  hidden = places_where (is_hidden m a.burnt)

  parts_clear : (sets_meet lacking.burnt hidden ≡ false) × (has_key_where m lacking.keys (is_hidden_key m a.burnt) ≡ false)
  parts_clear = or_parts (sets_meet lacking.burnt hidden) (has_key_where m lacking.keys (is_hidden_key m a.burnt)) clear

  bit_in_sight : (q : Pos) → set.contains lacking.burnt q ≡ true → is_hidden m a.burnt q ≡ false
  bit_in_sight q h =
      let none : set.contains (set.intersection lacking.burnt hidden) q ≡ false =
      none_in (set.intersection lacking.burnt hidden) (not-false (is_empty (set.intersection lacking.burnt hidden)) parts_clear.0) q in
      let both : (set.contains lacking.burnt q && set.contains hidden q) ≡ false = sym (set.contains-intersection pos_total lacking.burnt hidden q) ∙ none in
      not_with (is_place q) (is_hidden m a.burnt q) (are_places m ws q (lacking_at q h).0) (
      sym (contains-places_where (is_hidden m a.burnt) q) ∙ not_with (set.contains lacking.burnt q) (set.contains hidden q) h both)

  key_in_sight : (b : ℕ) → is_some (map.get lacking.keys b) ≡ true → is_hidden_key m a.burnt b ≡ false
  key_in_sight b h =
      let there = missing_keys m a ws b h in
      not_with (is_some (map.get lacking.keys b)) (is_hidden_key m a.burnt b) h
      (test_of_key m.fields (λ c. is_some (map.get lacking.keys c) && is_hidden_key m a.burnt c) b parts_clear.1 there.1)

  pub batches_pending : PendingFitsImage m a (batches m lacking)
  batches_pending = record {
    new_first = λ q h. (lacking_at q (first_at q h).0).1;
    new_second = λ q h. (lacking_at q (second_at q h).0).1;
    plain = λ q h. (first_at q h).1;
    locks = λ q h. (second_at q h).1;
    new_keys = λ b h. (left_of (wanted_keys m ws) a.keys b h).known;
    keys = missing_keys m a ws;
    in_sight = record {
      bits = λ q h. same_hidden m is a.burnt P outside q ∙ bit_in_sight q (first_at q h).0;
      keys = λ b h new. same_hidden_key m is a.burnt P outside b ∙ key_in_sight b h;
    };
  }

pub plan_law : PlanLaw
plan_law m is a ws w h =
    let planned = is_planned (first_that_holds (faults_with m a ws (wants_of m ws) (missing a (wants_of m ws)))) (batches m (missing a (wants_of m ws))) w h in
    subst (PendingFitsImage m a) planned.1 (batches_pending m is a ws (none_hidden m a ws (wants_of m ws) (missing a (wants_of m ws)) planned.0))

-- ---- what a read-back leaves
no_stray : (c d e : Bool) (rest : Verdict) → is_no_fault (if not c then Fault chip.Lost else if not d then Fault chip.Stray else if e then Fault chip.Key
    else rest) ≡ true → d ≡ true
no_stray false d e rest h = absurd (false≢true h)
no_stray true true e rest h = refl
no_stray true false e rest h = absurd (false≢true h)

all_burnt : (b o q h : Bool) → (o && (not (b || q) || h)) ≡ false → ((b || o) || (q && not o)) ≡ (b || q)
all_burnt true o q h s = refl
all_burnt false true true h s = refl
all_burnt false true false h s = absurd (true≢false s)
all_burnt false false true h s = refl
all_burnt false false false h s = refl

not_burnt : (b o q h p : Bool) → (o && (not (b || q) || h)) ≡ false → b ≡ false → q ≡ false → (b || o) ≡ false
not_burnt true o q h p s x y = absurd (true≢false x)
not_burnt false true true h p s x y = absurd (true≢false y)
not_burnt false true false h p s x y = absurd (true≢false s)
not_burnt false false q h p s x y = refl

still_new : (b o q : Bool) → b ≡ false → (q && not o) ≡ true → (b || o) ≡ false
still_new true o q x h = absurd (true≢false x)
still_new false true true x h = absurd (false≢true h)
still_new false true false x h = absurd (false≢true h)
still_new false false q x h = refl

not_known : (x y : Option (List ℕ)) → is_some x ≡ false → is_some y ≡ false → is_some (option_or x y) ≡ false
not_known None y a b = b
not_known (Some d) y a b = absurd (true≢false a)

in_neither : (low : Bool) (x : Option (List ℕ)) → is_some x ≡ false → is_some (if low then x else None) ≡ false
in_neither true x h = h
in_neither false x h = refl

joined_at : (known shown : KeyTable) (b : ℕ) → is_some (map.get known b) ≡ false → is_some (map.get shown b) ≡ false
    → is_some (map.get (keys_union known shown) b) ≡ false
unfolding keys_union
joined_at known shown b x y =
    ap is_some (get-table_where (λ c. option_or (map.get known c) (map.get shown c)) b)
    ∙ in_neither (nat_lt b 4) _ (not_known (map.get known b) (map.get shown b) x y)

-- a key of the rest was asked for, and is neither known nor shown
pub record IsShortKey (K Q S : KeyTable) (b : ℕ) : Type 0 where
  pub asked : is_some (map.get Q b) ≡ true
  pub known : is_some (map.get K b) ≡ false
  pub shown : is_some (map.get S b) ≡ false

short_key : (known asked shown : KeyTable) (b : ℕ) → is_some (map.get (short_keys known asked shown) b) ≡ true → IsShortKey known asked shown b
unfolding short_keys
short_key known asked shown b h =
    let outer = left_of (keys_without asked known) shown b h in
    let inner = left_of asked known b outer.asked in
    record { asked = inner.asked; known = inner.known; shown = outer.known }

short_at : (P ones : Positions) (q : Pos) → set.contains (short_bits P ones) q ≡ (set.contains P q && not (set.contains ones q))
unfolding short_bits
short_at P ones q = set.contains-difference pos_total P ones q

module _ (m : Map) (a : Image) (w : Pending) (r : ReadBack) (pending : PendingFitsImage m a w)
    (right : is_no_fault (verdict_of m a w.first w.keys r) ≡ true) where
  abbrev L : Positions
  L = set.union a.burnt r.ones

  not_stray : (q : Pos) → (set.contains r.ones q && (not (set.contains a.burnt q || set.contains w.first q) || is_hidden m L q)) ≡ false
  unfolding stray
  not_stray q =
      ap (λ (x : Bool). set.contains r.ones q && (not x || is_hidden m L q)) (sym (set.contains-union pos_total a.burnt w.first q))
      ∙ (sym (in_retain r.ones (λ s. not (set.contains (set.union a.burnt w.first) s) || is_hidden m L s) q)
      ∙ none_in (stray m L a.burnt w.first r.ones) (no_stray (is_empty (lost m L a.burnt r.ones)) (is_empty (stray m L a.burnt w.first r.ones))
      (some_key m (is_bad_key m L a.keys w.keys r.shown))
      (short_or_match (record { burnt = short_bits w.first r.ones; keys = short_keys a.keys w.keys r.shown })) right) q)

  same_in_all : set.union L (short_bits w.first r.ones) ≡ set.union a.burnt w.first
  same_in_all = set.same_set pos_total pos_exact _ (set.union a.burnt w.first) (λ q.
      set.contains-union pos_total L (short_bits w.first r.ones) q
      ∙ (ap₂ (λ (x y : Bool). x || y) (set.contains-union pos_total a.burnt r.ones q) (short_at w.first r.ones q)
      ∙ (all_burnt (set.contains a.burnt q) (set.contains r.ones q) (set.contains w.first q) (is_hidden m L q) (not_stray q)
      ∙ sym (set.contains-union pos_total a.burnt w.first q))))

  in_first : (q : Pos) → set.contains (short_bits w.first r.ones) q ≡ true → (set.contains w.first q && not (set.contains r.ones q)) ≡ true
  in_first q h = sym (short_at w.first r.ones q) ∙ h

  second_apart : (q : Pos) → set.contains w.second q ≡ true → set.contains w.first q ≡ false
  second_apart q h = elim (cases_Bool (set.contains w.first q)) as (λ _. set.contains w.first q ≡ false) [
    | inl both ↦ absurd (true≢false (sym (pending.locks q h) ∙ pending.plain q both))
    | inr none ↦ none
  ]

  rest_pending : PendingFitsImage m (image_after a r) (rest_of_first w a r)
  rest_pending = record {
    new_first = λ q h.
        set.contains-union pos_total a.burnt r.ones q
        ∙ still_new (set.contains a.burnt q) (set.contains r.ones q) (set.contains w.first q) (pending.new_first q (and_parts _ _ (in_first q h)).0)
        (in_first q h);
    new_second = λ q h.
        set.contains-union pos_total a.burnt r.ones q
        ∙ not_burnt (set.contains a.burnt q) (set.contains r.ones q) (set.contains w.first q) (is_hidden m L q) true (not_stray q) (pending.new_second q h)
        (second_apart q h);
    plain = λ q h. pending.plain q (and_parts _ _ (in_first q h)).0;
    locks = pending.locks;
    new_keys = λ b h. let k = short_key a.keys w.keys r.shown b h in joined_at a.keys r.shown b k.known k.shown;
    keys = λ b h. pending.keys b (short_key a.keys w.keys r.shown b h).asked;
    in_sight = record {
      bits = λ q h. ap (λ (s : Positions). is_hidden m s q) same_in_all ∙ pending.in_sight.bits q (and_parts _ _ (in_first q h)).0;
      keys = λ b h new.
          let k = short_key a.keys w.keys r.shown b h in
          ap (λ (s : Positions). is_hidden_key m s b) same_in_all ∙ pending.in_sight.keys b k.asked k.known;
    };
  }

pub first_rest_law : FirstRestLaw
first_rest_law m a w r pending right = rest_pending m a w r pending right

no_position : (q : Pos) → set.contains (let s : Positions = set.empty in s) q ≡ true → ⊥
no_position q h = true≢false (sym h ∙ set.contains-empty pos_cmp q)

no_key : (b : ℕ) → is_some (map.get (let t : KeyTable = map.empty in t) b) ≡ true → ⊥
no_key b h = true≢false (sym h ∙ ap is_some (map.get-empty {X = List ℕ} nat_cmp b))

pub second_rest_law : SecondRestLaw
second_rest_law m a w r pending = record {
  new_first = λ q h. absurd (no_position q h);
  new_second = λ q h.
      let left = sym (short_at w.second r.ones q) ∙ h in
      set.contains-union pos_total a.burnt r.ones q
      ∙ still_new (set.contains a.burnt q) (set.contains r.ones q) (set.contains w.second q) (pending.new_second q (and_parts _ _ left).0) left;
  plain = λ q h. absurd (no_position q h);
  locks = λ q h. pending.locks q (and_parts _ _ (sym (short_at w.second r.ones q) ∙ h)).0;
  new_keys = λ b h. absurd (no_key b h);
  keys = λ b h. absurd (no_key b h);
  in_sight = record { bits = λ q h. absurd (no_position q h); keys = λ b h new. absurd (no_key b h) };
}

short_rest : (rest : Image) → rest_of (short_or_match rest) ≡ rest
short_rest rest = elim (cases_Bool (is_empty rest.burnt)) as (λ _. rest_of (short_or_match rest) ≡ rest) [
  | inl no_bits ↦ elim (cases_Bool (has_no_key rest.keys)) as (λ _. rest_of (short_or_match rest) ≡ rest) [
    | inl no_keys ↦
        ap₂ (λ (d e : Bool). rest_of (if not d || not e then Short rest else Match)) no_bits no_keys
        ∙ ap₂ (λ (s : Positions) (t : KeyTable). let x : Image = record { burnt = s; keys = t } in x)
        (sym (set.empty_of_len rest.burnt (eqb-true (set.len rest.burnt) 0 no_bits)))
        (sym (map.empty_of_len rest.keys (eqb-true (map.len rest.keys) 0 no_keys)))
    | inr keys ↦ ap₂ (λ (d e : Bool). rest_of (if not d || not e then Short rest else Match)) no_bits keys
  ]
  | inr bits ↦ ap (λ (d : Bool). rest_of (if not d || not (has_no_key rest.keys) then Short rest else Match)) bits
]

rest_told : (c d e : Bool) (rest : Image)
    → is_no_fault (if not c then Fault chip.Lost else if not d then Fault chip.Stray else if e then Fault chip.Key else short_or_match rest) ≡ true
    → rest_of (if not c then Fault chip.Lost else if not d then Fault chip.Stray else if e then Fault chip.Key else short_or_match rest) ≡ rest
rest_told false d e rest h = absurd (false≢true h)
rest_told true false e rest h = absurd (false≢true h)
rest_told true true true rest h = absurd (false≢true h)
rest_told true true false rest h = short_rest rest

pub rest_law : RestLaw
rest_law m a batch asked r h =
    let after = set.union a.burnt r.ones in
    rest_told (is_empty (lost m after a.burnt r.ones)) (is_empty (stray m after a.burnt batch r.ones)) (some_key m (is_bad_key m after a.keys asked r.shown))
    (record { burnt = short_bits batch r.ones; keys = short_keys a.keys asked r.shown }) h

-- ---- a read-back of what is pending
pub first_batch_law : FirstBatchLaw
first_batch_law m a w r known shown pending = match_law m a w.first w.keys r known pending.keys shown pending.in_sight

pub second_batch_law : SecondBatchLaw
second_batch_law m is a w r known shown pending =
    match_law m a w.second map.empty r known (λ b h. absurd (no_key b h)) shown
    (record {
      bits = λ q h. locks_show m is (set.union a.burnt w.second) q (pending.locks q h);
      keys = λ b h new. absurd (no_key b h);
    })

-- No lock hides the lock fields, and no batch outside them changes what is hidden.
use Rattle.std.proofs.Common.{◌≡◌, ◌+◌, ◌<◌, ◌&&◌, ◌||◌, ◌∷◌, get_or, ◌==◌}
use Rattle.text_core.proofs.Kit.{ℕ, suc, Bool, true, false, cond, List, [], All, AllPairs, Option, Some, None, IfSome, IsSomeAnd, option_map, option_and_then}
use Rattle.text_core.proofs.Kit.{find, refl, subst, sym, ap, ap₂, ◌∙◌, inl, inr, arith, list_any, option_map_or, and_parts, and_from, and_left, and_right}
use Rattle.text_core.proofs.Kit.{or_cases, or_from, or_right, cases_Bool, true≢false, le-leb, lt-ltb, eq-eqb, list_any_none, same_Some}
use Rattle.std.specs.FinSet as set
use Rattle.fuse_plan.proofs.Types.{Field, Pos}
use Rattle.fusemap_core.specs.Prelude.{Map, IsMap, FieldsDisjoint, NamesLockField, bit_of, field_named, holds, is_field_named, lock_at, read_lock}
use Rattle.fusemap_core.proofs.Bounds.{found}
use Rattle.fuse_image.specs.Prelude.{is_burnt, is_hidden, is_hidden_key, Positions, is_place, contains-places_where, pos_total}
use Rattle.fuse_plan.specs.Prelude.{at_field, lock_positions, positions_named, LocksShow}

-- the fields after the first are apart from it, and from one another
after_first : (f : Field) (fs : List Field) → AllPairs FieldsDisjoint (f ∷ fs) → All (FieldsDisjoint f) fs
after_first f fs pairs k d low = pairs 0 (suc k) d (omega arith) (omega (arith, low))

others : (f : Field) (fs : List Field) → AllPairs FieldsDisjoint (f ∷ fs) → AllPairs FieldsDisjoint fs
others f fs pairs i j d before low = pairs (suc i) (suc j) d (omega (arith, before)) (omega (arith, low))

not_there : (h t : Bool) → (h ≡ true → ⊥) → (h && t) ≡ false
not_there true t h = absurd (h refl)
not_there false t h = refl

apart_from : (fs : List Field) (named : Field → Bool) (f g : Field) (q : Pos) → All (FieldsDisjoint f) fs → find named fs ≡ Some g → holds f q ≡ true
    → holds g q ≡ false
apart_from fs named f g q all e here =
    let apart : IfSome (Some g) (FieldsDisjoint f) = subst (λ (o : Option Field). IfSome o (FieldsDisjoint f)) e (found named (FieldsDisjoint f) fs all) in
    apart q here

-- where fields are apart, and the one that is found has a position and fails a test, no other has the position and passes
pub found_alone : (fs : List Field) (named test : Field → Bool) (q : Pos) → AllPairs FieldsDisjoint fs → (g : Field) → find named fs ≡ Some g → holds g q ≡ true
    → test g ≡ false → list_any (λ f. holds f q && test f) fs ≡ false
found_alone [] named test q pairs g e has fails = refl
found_alone (f ∷ fs) named test q pairs g e has fails = elim (cases_Bool (named f)) as (λ _. list_any (λ x. holds x q && test x) (f ∷ fs) ≡ false) [
  | inl is ↦
      let same : f ≡ g = same_Some f g (ap (λ b. cond b (Some f) (find named fs)) (sym is) ∙ e) in
      or_from (holds f q && test f) (list_any (λ x. holds x q && test x) fs)
      (and_right (holds f q) (test f) (ap test same ∙ fails))
      (list_any_none (λ x. holds x q && test x) fs (λ k d low.
      and_left (holds (get_or fs k d) q) (test (get_or fs k d)) (after_first f fs pairs k d low q (ap (λ (x : Field). holds x q) same ∙ has))))
  | inr is_not ↦
      let later : find named fs ≡ Some g = ap (λ b. cond b (Some f) (find named fs)) (sym is_not) ∙ e in
      or_from (holds f q && test f) (list_any (λ x. holds x q && test x) fs)
      (not_there (holds f q) (test f) (λ here. true≢false (sym has ∙ apart_from fs named f g q (after_first f fs pairs) later here)))
      (found_alone fs named test q (others f fs pairs) g later has fails)
]

-- a field without read lock
no_read_lock : (m : Map) (burnt : Positions) (f : Field) → f.read ≡ None → is_burnt burnt (read_lock m f) ≡ false
no_read_lock m burnt f e = ap (λ (o : Option ℕ). is_burnt burnt (option_and_then (lock_at m.fields m.rd) o)) e

lock_field_shows : (m : Map) → IsMap m → (name : List ℕ) → NamesLockField m.fields name → (burnt : Positions) (q : Pos) → at_field m (λ f.
    holds f q) name ≡ true → is_hidden m burnt q ≡ false
unfolding is_hidden
lock_field_shows m is name names burnt q has = shows (field_named name m.fields) refl names has
  where
    shows : (o : Option Field) → field_named name m.fields ≡ o → IsSomeAnd o (λ f. (f.key ≡ false) × (f.read ≡ None)) → option_map_or (λ f.
        holds f q) o false ≡ true → list_any (λ f. holds f q && is_burnt burnt (read_lock m f)) m.fields ≡ false
    shows None e plain h = absurd plain
    shows (Some g) e plain h =
        found_alone m.fields (is_field_named name) (λ f. is_burnt burnt (read_lock m f)) q is.apart g e h (no_read_lock m burnt g plain.1)

in_positions : (m : Map) (name : List ℕ) (q : Pos) → set.contains (positions_named m name) q ≡ true → at_field m (λ f. holds f q) name ≡ true
in_positions m name q h =
    (and_parts (is_place q) _ (sym (contains-places_where (λ p. at_field m (λ f. holds f p) name) q) ∙ h)).1

pub locks_show : LocksShow
locks_show m is burnt q has =
    elim (or_cases (set.contains (positions_named m m.wr) q) (set.contains (positions_named m m.rd) q)
    (sym (set.contains-union pos_total (positions_named m m.wr) (positions_named m m.rd) q) ∙ has)) as (λ _. is_hidden m burnt q ≡ false) [
      | inl here ↦ lock_field_shows m is m.wr is.lock_fields.wr burnt q (in_positions m m.wr q here)
      | inr here ↦ lock_field_shows m is m.rd is.lock_fields.rd burnt q (in_positions m m.rd q here)
    ]

-- tests that agree on each element
any_same : (p q : Field → Bool) (fs : List Field) → All (λ f. p f ≡ q f) fs → list_any p fs ≡ list_any q fs
any_same p q [] all = refl
any_same p q (f ∷ fs) all =
    ap₂ (λ (a b : Bool). a || b) (all 0 f (omega arith)) (any_same p q fs (λ k d low. all (suc k) d (omega (arith, low))))

-- a read lock is a position of the read lock field
same_lock : (o : Option ℕ) (g : Option Field) (S T : Positions) → IfSome o (λ i. IsSomeAnd g (λ f. i < f.count))
    → ((l : Pos) → option_map_or (λ f. holds f l) g false ≡ true → set.contains S l ≡ set.contains T l)
    → is_burnt S (option_and_then (λ i. option_map (λ f. bit_of f i) g) o) ≡ is_burnt T (option_and_then (λ i. option_map (λ f. bit_of f i) g) o)
same_lock None g S T has agree = refl
same_lock (Some i) None S T has agree = absurd has
same_lock (Some i) (Some f) S T has agree =
    agree (bit_of f i) (and_from _ _ (eq-eqb f.block f.block refl)
    (and_from _ _ (le-leb f.bit (f.bit + i) (omega arith)) (lt-ltb (f.bit + i) (f.bit + f.count) (omega (arith, has)))))

-- positions outside the lock fields, joined to those that are burnt, change no lock
pub record IsPlain (m : Map) (P : Positions) : Type 0 where
  pub places : (q : Pos) → set.contains P q ≡ true → is_place q ≡ true
  pub plain : (q : Pos) → set.contains P q ≡ true → set.contains (lock_positions m) q ≡ false

or_not : (a b : Bool) → (b ≡ true → ⊥) → (a || b) ≡ a
or_not true b h = refl
or_not false true h = absurd (h refl)
or_not false false h = refl

same_read_lock : (m : Map) → IsMap m → (B P : Positions) → IsPlain m P → All (λ f.
    is_burnt (set.union B P) (read_lock m f) ≡ is_burnt B (read_lock m f)) m.fields
same_read_lock m is B P outside k d low =
    same_lock (get_or m.fields k d).read (field_named m.rd m.fields) (set.union B P) B (is.locks k d low).read (λ l here.
    set.contains-union pos_total B P l ∙ or_not (set.contains B l) (set.contains P l) (λ has.
    true≢false (sym (
    set.contains-union pos_total (positions_named m m.wr) (positions_named m m.rd) l
    ∙ or_right (set.contains (positions_named m m.wr) l) (set.contains (positions_named m m.rd) l)
    (contains-places_where (λ p. at_field m (λ f. holds f p) m.rd) l ∙ and_from (is_place l) _ (outside.places l has) here))
    ∙ outside.plain l has)))

pub same_hidden : (m : Map) → IsMap m → (B P : Positions) → IsPlain m P → (q : Pos) → is_hidden m (set.union B P) q ≡ is_hidden m B q
unfolding is_hidden
same_hidden m is B P outside q =
    any_same (λ f. holds f q && is_burnt (set.union B P) (read_lock m f)) (λ f. holds f q && is_burnt B (read_lock m f)) m.fields
    (λ k d low. ap (λ (b : Bool). holds (get_or m.fields k d) q && b) (same_read_lock m is B P outside k d low))

pub same_hidden_key : (m : Map) → IsMap m → (B P : Positions) → IsPlain m P → (b : ℕ) → is_hidden_key m (set.union B P) b ≡ is_hidden_key m B b
unfolding is_hidden_key
same_hidden_key m is B P outside b =
    any_same (λ f. f.key && (f.block == b && is_burnt (set.union B P) (read_lock m f))) (λ f. f.key && (f.block == b && is_burnt B (read_lock m f))) m.fields
    (λ k d low. ap (λ (x : Bool). (get_or m.fields k d).key && ((get_or m.fields k d).block == b && x)) (same_read_lock m is B P outside k d low))

-- The verdict is Match exactly where the chip shows what it had and all of the batch.
use Rattle.std.proofs.Common.{◌≡◌, ◌<◌, ◌&&◌, ◌||◌, ◌∷◌, ◌==◌, if◌then◌else◌}
use Rattle.text_core.proofs.Kit.{ℕ, Bool, true, false, not, List, [], refl, sym, ap, ap₂, ◌∙◌, inl, inr, Option, Some, None, is_some, cond, nat_lt, bytes_eq}
use Rattle.text_core.proofs.Kit.{list_any, option_or, nat_cmp-IsAntisymmetric, nat_cmp_total, and_parts, and_from, and_right, or_parts, or_from, or_cases}
use Rattle.text_core.proofs.Kit.{or_right, true≢false, false≢true, not-true, not-false, not_from_false, not_from_true, cases_Bool, eqb-true, false_from_ne_true}
use Rattle.text_core.proofs.Kit.{lt-ltb, ltb-true, cond-true, cond-false, same_text, text_itself, none_from_test}
use Rattle.std.specs.FinSet as set
use Rattle.std.specs.FinMap as map
use Rattle.fuse_plan.proofs.Types.{Image, ReadBack, ChipFault, Verdict, Match, Short, Fault, Lost, Stray, Field, Pos}
use Rattle.fuse_image.specs.Prelude.{Positions, is_empty, pos_total, pos_exact, KeyTable, has_no_key, keys_union, table_where, get-table_where, keys_without}
use Rattle.fuse_image.specs.Prelude.{is_hidden, is_hidden_key, is_key_block, AreKeys, some_key}
use Rattle.fuse_plan.specs.declared.verdict.ChipFault.TheVariants.{Key}
use Rattle.fuse_plan.specs.Prelude.{seen, verdict_under, lost, stray, is_other, is_bad_key, short_bits, short_keys, StaysReadable, MatchLaw, with_batch}
use Rattle.fusemap_core.specs.Prelude.{Map}
use Rattle.fuse_image.proofs.Sets.{none_in, is_empty-from_none}
use Rattle.fuse_image.proofs.Tables.{get_within, no_key_at, has_no_key-from_none}
use Rattle.fuse_plan.proofs.Compared.{in_retain}

-- ---- one position: b burnt, q in the batch, o reads 1, h hidden
same_after : (b o q h : Bool) → (o && (not (b || q) || h)) ≡ false → (q && not o) ≡ false → (b || o) ≡ (b || q)
same_after true o q h s t = refl
same_after false true true h s t = refl
same_after false true false h s t = absurd (true≢false s)
same_after false false true h s t = absurd (true≢false t)
same_after false false false h s t = refl

shows : (b o q h : Bool) → (b && (not h && not o)) ≡ false → (o && (not (b || q) || h)) ≡ false → (q && not o) ≡ false → o ≡ ((b || q) && not h)
shows true true q true l s t = absurd (true≢false s)
shows true true q false l s t = refl
shows true false q true l s t = refl
shows true false q false l s t = absurd (true≢false l)
shows false true true true l s t = absurd (true≢false s)
shows false true true false l s t = refl
shows false true false h l s t = absurd (true≢false s)
shows false false true h l s t = absurd (true≢false t)
shows false false false h l s t = refl

-- where a chip shows what it would with all of a batch, a bit is burnt or shown exactly where it is burnt or asked for
same_before : (b o q h : Bool) → o ≡ ((b || q) && not h) → (q ≡ true → h ≡ false) → (b || o) ≡ (b || q)
same_before true o q h e f = refl
same_before false o true h e f = e ∙ ap not (f refl)
same_before false o false h e f = e

none_lost : (b o q h : Bool) → o ≡ ((b || q) && not h) → (b && (not h && not o)) ≡ false
none_lost true o q true e = refl
none_lost true o q false e = ap not e
none_lost false o q h e = refl

none_stray : (b o q h : Bool) → o ≡ ((b || q) && not h) → (o && (not (b || q) || h)) ≡ false
none_stray b true q h e = let k = and_parts (b || q) (not h) (sym e) in ap₂ (λ (x y : Bool). not x || y) k.0 (not-true h k.1)
none_stray b false q h e = refl

none_short : (b o q h : Bool) → o ≡ ((b || q) && not h) → (q ≡ true → h ≡ false) → (q && not o) ≡ false
none_short b o true h e f = not_from_true o (e ∙ and_from (b || true) (not h) (or_right b true refl) (not_from_false h (f refl)))
none_short b o false h e f = refl

-- ---- one key field: k known, q in the batch, s shown, h hidden

same_cond : {A : Type 0} (b : Bool) (x : A) → cond b x x ≡ x
same_cond true x = refl
same_cond false x = refl

shows_key : (k q s : Option (List ℕ)) (h : Bool) → (if h then is_some s else is_other k q s) ≡ false → (if is_some k || is_some s then None else q) ≡ None
    → s ≡ (if h then None else option_or k q)
shows_key k q s true b t = none_from_test s b
shows_key (Some d) q None false b t = absurd (true≢false b)
shows_key (Some d) q (Some e) false b t = ap Some (sym (same_text d e (not-false (bytes_eq d e) b)))
shows_key None q None false b t = sym t
shows_key None None (Some e) false b t = absurd (true≢false b)
shows_key None (Some d) (Some e) false b t = ap Some (sym (same_text d e (not-false (bytes_eq d e) b)))

good_key : (k q : Option (List ℕ)) → is_other k q (option_or k q) ≡ false
good_key (Some d) q = ap not (text_itself d d refl)
good_key None None = refl
good_key None (Some d) = ap not (text_itself d d refl)

none_bad : (k q s : Option (List ℕ)) (h : Bool) → s ≡ (if h then None else option_or k q) → (if h then is_some s else is_other k q s) ≡ false
none_bad k q s true e = ap is_some e
none_bad k q s false e = ap (λ (x : Option (List ℕ)). is_other k q x) e ∙ good_key k q

no_short : (k q s : Option (List ℕ)) (h : Bool) → s ≡ (if h then None else option_or k q) → (is_some q ≡ true → is_some k ≡ false → h ≡ false)
    → (if is_some k || is_some s then None else q) ≡ None
no_short (Some d) q s h e f = refl
no_short None None s h e f = same_cond (is_some s) None
no_short None (Some d) s h e f =
    ap (λ (x : Option (List ℕ)). if is_some x then None else Some d) (e ∙ ap (λ (g : Bool). if g then None else Some d) (f refl refl))

neither_there : (low k s : Bool) (q : Option (List ℕ)) → (if low then (if s then None else (if low then (if k then None else q) else None)) else None)
    ≡ (if low then (if k || s then None else q) else None)
neither_there true true true q = refl
neither_there true true false q = refl
neither_there true false s q = refl
neither_there false k s q = refl

-- ---- all key fields
pub test_of_key : (fs : List Field) (test : ℕ → Bool) (b : ℕ) → list_any (λ f. f.key && test f.block) fs ≡ false → list_any (λ f.
    f.key && f.block == b) fs ≡ true → test b ≡ false
test_of_key [] test b h k = absurd (false≢true k)
test_of_key (f ∷ fs) test b h k =
    let parts = or_parts (f.key && test f.block) (list_any (λ f. f.key && test f.block) fs) h in
    elim (or_cases (f.key && f.block == b) (list_any (λ f. f.key && f.block == b) fs) k) as (λ _. test b ≡ false) [
      | inl e ↦
          let here = and_parts f.key (f.block == b) e in
          sym (ap₂ (λ (x : Bool) (y : ℕ). x && test y) here.0 (eqb-true f.block b here.1)) ∙ parts.0
      | inr e ↦ test_of_key fs test b parts.1 e
    ]

no_key_passes : (fs : List Field) (test : ℕ → Bool) → ((b : ℕ) → test b ≡ false) → list_any (λ f. f.key && test f.block) fs ≡ false
no_key_passes [] test h = refl
no_key_passes (f ∷ fs) test h =
    or_from (f.key && test f.block) (list_any (λ f. f.key && test f.block) fs) (and_right f.key (test f.block) (h f.block)) (no_key_passes fs test h)

no_key_here : (m : Map) (t : KeyTable) → AreKeys m t → (b : ℕ) → is_key_block m b ≡ false → map.get t b ≡ None
no_key_here m t h b k = none_from_test (map.get t b) (false_from_ne_true (is_some (map.get t b)) (λ e. true≢false (sym (h b e).1 ∙ k)))

no_key_above : (m : Map) (t : KeyTable) → AreKeys m t → (b : ℕ) → nat_lt b 4 ≡ false → map.get t b ≡ None
no_key_above m t h b k = none_from_test (map.get t b) (false_from_ne_true (is_some (map.get t b)) (λ e. true≢false (sym (lt-ltb b 4 (h b e).0) ∙ k)))

-- where no key field is bad, no block is
no_bad : (m : Map) (L : Positions) (K Q S : KeyTable) → AreKeys m K → AreKeys m Q → AreKeys m S → some_key m (is_bad_key m L K Q S) ≡ false → (b : ℕ)
    → is_bad_key m L K Q S b ≡ false
unfolding is_bad_key
no_bad m L K Q S hk hq hs h b = elim (cases_Bool (is_key_block m b)) as (λ _. is_bad_key m L K Q S b ≡ false) [
  | inl e ↦ test_of_key m.fields (is_bad_key m L K Q S) b h e
  | inr e ↦
      ap₂ (λ (x y : Option (List ℕ)). if is_hidden_key m L b then is_some y else is_other (map.get K b) x y) (no_key_here m Q hq b e) (no_key_here m S hs b e)
      ∙ ap (λ (x : Option (List ℕ)). if is_hidden_key m L b then false else is_other x None None) (no_key_here m K hk b e)
      ∙ same_cond (is_hidden_key m L b) false
]

-- ---- the verdict
is_match : Verdict → Bool
is_match Match = true
is_match (Short rest) = false
is_match (Fault f) = false

match_of : (v : Verdict) → is_match v ≡ true → v ≡ Match
unfolding is_match
match_of Match h = refl
match_of (Short rest) h = absurd (false≢true h)
match_of (Fault f) h = absurd (false≢true h)

matched : (a b c d e : Bool) (x y z : ChipFault) (w : Image)
    → is_match (if not a then Fault x else if not b then Fault y else if c then Fault z else if not d || not e then Short w else Match)
    ≡ (a && (b && (not c && (d && e))))
unfolding is_match
matched false b c d e x y z w = refl
matched true false c d e x y z w = refl
matched true true true d e x y z w = refl
matched true true false false e x y z w = refl
matched true true false true false x y z w = refl
matched true true false true true x y z w = refl

-- none of the four holds
pub record NoneOf (m : Map) (L : Positions) (image : Image) (P : Positions) (Q : KeyTable) (r : ReadBack) : Type 0 where
  pub lost : is_empty (lost m L image.burnt r.ones) ≡ true
  pub stray : is_empty (stray m L image.burnt P r.ones) ≡ true
  pub key : some_key m (is_bad_key m L image.keys Q r.shown) ≡ false
  pub bits : is_empty (short_bits P r.ones) ≡ true
  pub keys : has_no_key (short_keys image.keys Q r.shown) ≡ true

match_parts : (m : Map) (L : Positions) (image : Image) (P : Positions) (Q : KeyTable) (r : ReadBack) → verdict_under m L image P Q r ≡ Match
    → NoneOf m L image P Q r
unfolding is_match
match_parts m L image P Q r h =
    let a = is_empty (lost m L image.burnt r.ones) in
    let b = is_empty (stray m L image.burnt P r.ones) in
    let c = some_key m (is_bad_key m L image.keys Q r.shown) in
    let d = is_empty (short_bits P r.ones) in
    let e = has_no_key (short_keys image.keys Q r.shown) in
    let all = sym (matched a b c d e Lost Stray Key (record { burnt = short_bits P r.ones; keys = short_keys image.keys Q r.shown })) ∙ ap is_match h in
    let p = and_parts a (b && (not c && (d && e))) all in
    let q = and_parts b (not c && (d && e)) p.1 in
    let s = and_parts (not c) (d && e) q.1 in
    let t = and_parts d e s.1 in
    record { lost = p.0; stray = q.0; key = not-true c s.0; bits = t.0; keys = t.1 }

match_from : (m : Map) (L : Positions) (image : Image) (P : Positions) (Q : KeyTable) (r : ReadBack) → NoneOf m L image P Q r
    → verdict_under m L image P Q r ≡ Match
match_from m L image P Q r n =
    let a = is_empty (lost m L image.burnt r.ones) in
    let b = is_empty (stray m L image.burnt P r.ones) in
    let c = some_key m (is_bad_key m L image.keys Q r.shown) in
    let d = is_empty (short_bits P r.ones) in
    let e = has_no_key (short_keys image.keys Q r.shown) in
    match_of _ (matched a b c d e Lost Stray Key (record { burnt = short_bits P r.ones; keys = short_keys image.keys Q r.shown })
    ∙ and_from a (b && (not c && (d && e))) n.lost (and_from b (not c && (d && e)) n.stray
    (and_from (not c) (d && e) (not_from_false c n.key) (and_from d e n.bits n.keys))))

module _ (m : Map) (image : Image) (P : Positions) (Q : KeyTable) (r : ReadBack) (hk : AreKeys m image.keys) (hq : AreKeys m Q) (hs : AreKeys m r.shown) where
  abbrev B : Positions
  B = image.burnt

  abbrev L : Positions
  L = set.union image.burnt r.ones

  abbrev BP : Positions
  BP = set.union image.burnt P

  at_lost : (p : Pos) → set.contains (lost m L B r.ones) p ≡ (set.contains B p && (not (is_hidden m L p) && not (set.contains r.ones p)))
  unfolding lost
  at_lost p = in_retain B (λ p. not (is_hidden m L p) && not (set.contains r.ones p)) p

  at_stray : (p : Pos) → set.contains (stray m L B P r.ones) p ≡ (set.contains r.ones p && (not (set.contains B p || set.contains P p) || is_hidden m L p))
  unfolding stray
  at_stray p =
      in_retain r.ones (λ p. not (set.contains (set.union B P) p) || is_hidden m L p) p
      ∙ ap (λ (x : Bool). set.contains r.ones p && (not x || is_hidden m L p)) (set.contains-union pos_total B P p)

  at_short : (p : Pos) → set.contains (short_bits P r.ones) p ≡ (set.contains P p && not (set.contains r.ones p))
  unfolding short_bits
  at_short p = set.contains-difference pos_total P r.ones p

  at_short_key : (b : ℕ) → map.get (short_keys image.keys Q r.shown) b
      ≡ (if nat_lt b 4 then (if is_some (map.get image.keys b) || is_some (map.get r.shown b) then None else map.get Q b) else None)
  unfolding short_keys keys_without
  at_short_key b =
      get-table_where (λ b. if is_some (map.get r.shown b) then None else map.get (keys_without Q image.keys) b) b
      ∙ ap (λ (x : Option (List ℕ)). if nat_lt b 4 then (if is_some (map.get r.shown b) then None else x) else None)
      (get-table_where (λ b. if is_some (map.get image.keys b) then None else map.get Q b) b)
      ∙ neither_there (nat_lt b 4) (is_some (map.get image.keys b)) (is_some (map.get r.shown b)) (map.get Q b)

  at_joined : (b : ℕ) → b < 4 → map.get (keys_union image.keys Q) b ≡ option_or (map.get image.keys b) (map.get Q b)
  unfolding keys_union
  at_joined b h = get_within (λ b. option_or (map.get image.keys b) (map.get Q b)) b h

  module _ (n : NoneOf m L image P Q r) where
    not_lost : (p : Pos) → (set.contains B p && (not (is_hidden m L p) && not (set.contains r.ones p))) ≡ false
    not_lost p = sym (at_lost p) ∙ none_in (lost m L B r.ones) n.lost p

    not_stray : (p : Pos) → (set.contains r.ones p && (not (set.contains B p || set.contains P p) || is_hidden m L p)) ≡ false
    not_stray p = sym (at_stray p) ∙ none_in (stray m L B P r.ones) n.stray p

    not_short : (p : Pos) → (set.contains P p && not (set.contains r.ones p)) ≡ false
    not_short p = sym (at_short p) ∙ none_in (short_bits P r.ones) n.bits p

    after_is : L ≡ BP
    after_is = set.same_set pos_total pos_exact L BP (λ p.
        set.contains-union pos_total B r.ones p
        ∙ same_after (set.contains B p) (set.contains r.ones p) (set.contains P p) (is_hidden m L p) (not_stray p) (not_short p)
        ∙ sym (set.contains-union pos_total B P p))

    ones_are : r.ones ≡ set.retain BP (λ p. not (is_hidden m BP p))
    ones_are = set.same_set pos_total pos_exact r.ones (set.retain BP (λ p. not (is_hidden m BP p))) (λ p.
        shows (set.contains B p) (set.contains r.ones p) (set.contains P p) (is_hidden m L p) (not_lost p) (not_stray p) (not_short p)
        ∙ ap₂ (λ (x : Bool) (S : Positions). x && not (is_hidden m S p)) (sym (set.contains-union pos_total B P p)) after_is
        ∙ sym (in_retain BP (λ p. not (is_hidden m BP p)) p))

    abbrev to_show : Positions → ℕ → Option (List ℕ)
    to_show S b = if is_hidden_key m S b then None else map.get (keys_union image.keys Q) b

    key_at : (b : ℕ) → b < 4 → map.get r.shown b ≡ to_show BP b
    unfolding is_bad_key
    key_at b l =
        shows_key (map.get image.keys b) (map.get Q b) (map.get r.shown b) (is_hidden_key m L b)
        (no_bad m L image.keys Q r.shown hk hq hs n.key b)
        (sym (at_short_key b ∙ cond-true (nat_lt b 4) _ None (lt-ltb b 4 l)) ∙ no_key_at (short_keys image.keys Q r.shown) n.keys b)
        ∙ ap₂ (λ (S : Positions) (x : Option (List ℕ)). if is_hidden_key m S b then None else x) after_is (sym (at_joined b l))

    shown_is : r.shown ≡ table_where (to_show BP)
    shown_is = map.same_map nat_cmp_total nat_cmp-IsAntisymmetric r.shown (table_where (to_show BP)) (λ b.
        elim (cases_Bool (nat_lt b 4)) as (λ _. map.get r.shown b ≡ map.get (table_where (to_show BP)) b) [
          | inl e ↦ key_at b (ltb-true b 4 e) ∙ sym (get_within (to_show BP) b (ltb-true b 4 e))
          | inr e ↦ no_key_above m r.shown hs b e ∙ sym (get-table_where (to_show BP) b ∙ cond-false (nat_lt b 4) (to_show BP b) None e)
        ])

    forth : r ≡ seen m (with_batch image P Q)
    forth = ap₂ (λ (o : Positions) (s : KeyTable). let x : ReadBack = record { ones = o; shown = s } in x) ones_are shown_is

  module _ (sight : StaysReadable m BP P image.keys Q) (e : r ≡ seen m (with_batch image P Q)) where
    one_at : (p : Pos) → set.contains r.ones p ≡ ((set.contains B p || set.contains P p) && not (is_hidden m BP p))
    one_at p =
        ap (λ (x : ReadBack). set.contains x.ones p) e ∙ in_retain BP (λ p. not (is_hidden m BP p)) p
        ∙ ap (λ (x : Bool). x && not (is_hidden m BP p)) (set.contains-union pos_total B P p)

    before_is : L ≡ BP
    before_is = set.same_set pos_total pos_exact L BP (λ p.
        set.contains-union pos_total B r.ones p
        ∙ same_before (set.contains B p) (set.contains r.ones p) (set.contains P p) (is_hidden m BP p) (one_at p) (sight.bits p)
        ∙ sym (set.contains-union pos_total B P p))

    abbrev shown_at : ℕ → Option (List ℕ)
    shown_at b = if is_hidden_key m BP b then None else map.get (keys_union image.keys Q) b

    key_shown : (b : ℕ) → b < 4 → map.get r.shown b ≡ (if is_hidden_key m BP b then None else option_or (map.get image.keys b) (map.get Q b))
    key_shown b l =
        ap (λ (x : ReadBack). map.get x.shown b) e ∙ get_within shown_at b l
        ∙ ap (λ (x : Option (List ℕ)). if is_hidden_key m BP b then None else x) (at_joined b l)

    -- in a block without a number below 4 nothing is known, asked for or shown
    key_anywhere : (b : ℕ) → map.get r.shown b ≡ (if is_hidden_key m BP b then None else option_or (map.get image.keys b) (map.get Q b))
    key_anywhere b =
        elim (cases_Bool (nat_lt b 4)) as (λ _. map.get r.shown b ≡ (if is_hidden_key m BP b then None else option_or (map.get image.keys b) (map.get Q b))) [
          | inl l ↦ key_shown b (ltb-true b 4 l)
          | inr l ↦
              no_key_above m r.shown hs b l ∙ sym (same_cond (is_hidden_key m BP b) None)
              ∙ ap₂ (λ (x y : Option (List ℕ)). if is_hidden_key m BP b then None else option_or x y) (sym (no_key_above m image.keys hk b l))
              (sym (no_key_above m Q hq b l))
        ]

    back : NoneOf m L image P Q r
    unfolding is_bad_key
    back = record {
      lost = is_empty-from_none (lost m L B r.ones) (λ p.
          at_lost p ∙ ap (λ (S : Positions). set.contains B p && (not (is_hidden m S p) && not (set.contains r.ones p))) before_is
          ∙ none_lost (set.contains B p) (set.contains r.ones p) (set.contains P p) (is_hidden m BP p) (one_at p));
      stray = is_empty-from_none (stray m L B P r.ones) (λ p.
          at_stray p ∙ ap (λ (S : Positions). set.contains r.ones p && (not (set.contains B p || set.contains P p) || is_hidden m S p)) before_is
          ∙ none_stray (set.contains B p) (set.contains r.ones p) (set.contains P p) (is_hidden m BP p) (one_at p));
      key = no_key_passes m.fields (is_bad_key m L image.keys Q r.shown) (λ b.
          ap (λ (S : Positions). if is_hidden_key m S b then is_some (map.get r.shown b) else is_other (map.get image.keys b) (map.get Q b) (map.get r.shown b))
          before_is
          ∙ none_bad (map.get image.keys b) (map.get Q b) (map.get r.shown b) (is_hidden_key m BP b) (key_anywhere b));
      bits = is_empty-from_none (short_bits P r.ones) (λ p.
          at_short p ∙ none_short (set.contains B p) (set.contains r.ones p) (set.contains P p) (is_hidden m BP p) (one_at p) (sight.bits p));
      keys = has_no_key-from_none (short_keys image.keys Q r.shown) (λ b.
          at_short_key b
          ∙ ap (λ (x : Option (List ℕ)). if nat_lt b 4 then x else None)
          (no_short (map.get image.keys b) (map.get Q b) (map.get r.shown b) (is_hidden_key m BP b) (key_anywhere b) (sight.keys b))
          ∙ same_cond (nat_lt b 4) None);
    }

pub match_law : MatchLaw
match_law m image P Q r hk hq hs sight = (
  λ h. forth m image P Q r hk hq hs (match_parts m (set.union image.burnt r.ones) image P Q r h),
  λ e. match_from m (set.union image.burnt r.ones) image P Q r (back m image P Q r hk hq hs sight e),
)

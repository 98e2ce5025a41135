-- Sets of positions, by their positions.
use Rattle.std.proofs.Common.{◌≡◌, ◌+◌, ◌<◌, ◌&&◌, ◌||◌, get_or}
use Rattle.text_core.proofs.Kit.{ℕ, Bool, true, false, not, List, length, take, refl, sym, ap, ◌∙◌, inl, inr, eq_by_cmp, take_more, or-false, eqb-true, eq-eqb}
use Rattle.text_core.proofs.Kit.{and_parts, and_from, ltb-true, lt-ltb, cases_Bool, true≢false, false≢true, one_truth}
use Rattle.std.specs.FinSet as set
use Rattle.fusemap_core.specs.declared.pos.Pos.{Pos}
use Rattle.fuse_image.specs.Prelude.{is_empty, Positions, pos_cmp, pos_total, pos_exact, is_place, IsPlace, places_where, contains-places_where}

-- a set is empty exactly where it has no position
pub none_in : (s : Positions) → is_empty s ≡ true → (p : Pos) → set.contains s p ≡ false
none_in s h p = ap (λ (t : Positions). set.contains t p) (set.empty_of_len s (eqb-true (set.len s) 0 h)) ∙ set.contains-empty pos_cmp p

pub is_empty-from_none : (s : Positions) → ((p : Pos) → set.contains s p ≡ false) → is_empty s ≡ true
is_empty-from_none s h =
    eq-eqb (set.len s) 0 (ap set.len (set.same_set pos_total pos_exact s set.empty (λ p. h p ∙ sym (set.contains-empty pos_cmp p))) ∙ set.len-empty pos_cmp)

-- a set is within another where nothing is left of it without the other
neither : (a b : Bool) → (a && not b) ≡ false → a ≡ true → b ≡ true
neither true true e h = refl
neither true false e h = absurd (true≢false e)
neither false b e h = absurd (false≢true h)

nothing_left : (a b : Bool) → (a ≡ true → b ≡ true) → (a && not b) ≡ false
nothing_left true b h = ap not (h refl)
nothing_left false b h = refl

pub is_empty-difference : (s t : Positions) → is_empty (set.difference s t) ≡ set.is_subset s t
is_empty-difference s t = one_truth (is_empty (set.difference s t)) (set.is_subset s t)
    (λ h. set.contains-is_subset pos_total s t (λ p e. neither (set.contains s p) (set.contains t p)
    (sym (set.contains-difference pos_total s t p) ∙ none_in (set.difference s t) h p) e))
    (λ h. is_empty-from_none (set.difference s t) (λ p. set.contains-difference pos_total s t p
    ∙ nothing_left (set.contains s p) (set.contains t p) (set.is_subset-contains pos_total s t h p)))

-- a position of the blocks, as a test and as a fact
pub is_place-from_IsPlace : (p : Pos) → IsPlace p → is_place p ≡ true
is_place-from_IsPlace p h = and_from _ _ (lt-ltb p.block 4 h.0) (lt-ltb p.bit 256 h.1)

pub IsPlace-from_is_place : (p : Pos) → is_place p ≡ true → IsPlace p
IsPlace-from_is_place p h =
    let parts = and_parts _ _ h in (ltb-true p.block 4 parts.0, ltb-true p.bit 256 parts.1)

-- the set of a test, at a position of the blocks
pub places_where-at : (test : Pos → Bool) (p : Pos) → IsPlace p → set.contains (places_where test) p ≡ test p
places_where-at test p h = contains-places_where test p ∙ ap (λ b. b && test p) (is_place-from_IsPlace p h)

-- a set by a test that agrees with it on the blocks, where it has no other position
pub same_places : (test : Pos → Bool) (s : Positions) → ((p : Pos) → IsPlace p → test p ≡ set.contains s p)
    → ((p : Pos) → is_place p ≡ false → set.contains s p ≡ false) → places_where test ≡ s
same_places test s agree none = set.same_set pos_total pos_exact (places_where test) s (λ p.
    elim (cases_Bool (is_place p)) as (λ _. set.contains (places_where test) p ≡ set.contains s p) [
      | inl is ↦ places_where-at test p (IsPlace-from_is_place p is) ∙ agree p (IsPlace-from_is_place p is)
      | inr not_one ↦ contains-places_where test p ∙ (ap (λ b. b && test p) not_one ∙ sym (none p not_one))
    ])

-- the set of a test has positions of the blocks alone
pub none_outside : (test : Pos → Bool) (p : Pos) → is_place p ≡ false → set.contains (places_where test) p ≡ false
none_outside test p h = contains-places_where test p ∙ ap (λ b. b && test p) h

-- what is left of a set of positions of the blocks without those of a test
kept_where : (has is passes : Bool) → (has ≡ true → is ≡ true) → (has && not (is && passes)) ≡ (has && not passes)
kept_where false is passes inside = refl
kept_where true true passes inside = refl
kept_where true false passes inside = absurd (true≢false (sym (inside refl)))

pub difference-places_where : (s : Positions) (test : Pos → Bool) → ((p : Pos) → set.contains s p ≡ true → is_place p ≡ true)
    → set.difference s (places_where test) ≡ set.retain s (λ p. not (test p))
difference-places_where s test inside = set.same_set pos_total pos_exact (set.difference s (places_where test)) (set.retain s (λ p. not (test p))) (λ p.
    set.contains-difference pos_total s (places_where test) p
    ∙ (ap (λ (b : Bool). set.contains s p && not b) (contains-places_where test p)
    ∙ (kept_where (set.contains s p) (is_place p) (test p) (inside p)
    ∙ sym (set.contains-retain s (λ q. not (test q)) p (λ q e. ap (λ (r : Pos). not (test r)) (sym (pos_exact p q e)))))))

-- a set with a list of positions, one after another
or_swap : (a b c : Bool) → (a || (b || c)) ≡ (b || (a || c))
or_swap true true c = refl
or_swap true false c = refl
or_swap false b c = refl

pub union-none : (s : Positions) → s ≡ set.union s set.empty
union-none s = set.same_set pos_total pos_exact s (set.union s set.empty) (λ q.
    sym (or-false (set.contains s q))
    ∙ (ap (λ (b : Bool). set.contains s q || b) (sym (set.contains-empty pos_cmp q)) ∙ sym (set.contains-union pos_total s set.empty q)))

pub union-empty : (s : Positions) → set.union set.empty s ≡ s
union-empty s = set.same_set pos_total pos_exact (set.union set.empty s) s (λ p.
    set.contains-union pos_total set.empty s p ∙ ap (λ (b : Bool). b || set.contains s p) (set.contains-empty pos_cmp p))

insert-union : (s t : Positions) (p : Pos) → set.insert (set.union s t) p ≡ set.union s (set.insert t p)
insert-union s t p = set.same_set pos_total pos_exact (set.insert (set.union s t) p) (set.union s (set.insert t p)) (λ q.
    set.contains-insert pos_total (set.union s t) p q
    ∙ (ap (λ (b : Bool). eq_by_cmp pos_cmp q p || b) (set.contains-union pos_total s t q)
    ∙ (or_swap (eq_by_cmp pos_cmp q p) (set.contains s q) (set.contains t q)
    ∙ (ap (λ (b : Bool). set.contains s q || b) (sym (set.contains-insert pos_total t p q))
    ∙ sym (set.contains-union pos_total s (set.insert t p) q)))))

pub union-more : (s : Positions) (positions : List Pos) (i : ℕ) (d : Pos) → i < length positions
    → set.insert (set.union s (set.from_list (take i positions))) (get_or positions i d) ≡ set.union s (set.from_list (take (i + 1) positions))
union-more s positions i d low =
    insert-union s (set.from_list (take i positions)) (get_or positions i d)
    ∙ (ap (set.union s) (sym (set.from_list_push pos_total pos_exact (take i positions) (get_or positions i d)))
    ∙ ap (λ (ps : List Pos). set.union s (set.from_list ps)) (sym (take_more positions i d low)))

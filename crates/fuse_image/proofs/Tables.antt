-- Tables of four digests.
use Rattle.std.proofs.Common.{◌≡◌, ◌<◌, ◌∷◌, get_or, if◌then◌else◌, ◌==◌}
use Rattle.text_core.proofs.Kit.{ℕ, Bool, true, List, [], length, refl, sym, ap, ◌∙◌, arith, zero, suc, nat_cmp, inl, inr, subst, Option, Some, None, IfSome}
use Rattle.text_core.proofs.Kit.{is_none, nat_lt, nat_cmp-IsAntisymmetric, list_all, nat_cmp_total, unsigned_tied, cases_lt, lt-ltb, le-ltb, eqb-true, eq-eqb}
use Rattle.text_core.proofs.Kit.{ne_eqb, cond-true, cond-false, false≢true, and_parts, and_from, get_or_default, one_truth}
use Rattle.std.specs.FinMap as map
use Rattle.fuse_image.specs.Prelude.{KeyTable, table, table_where, get-table_where, has_no_key, AreAmong, AreDigests, AreEachAmong, HoldsDigests}

-- a table at one of the 4 blocks, and past them
pub get_within : (f : ℕ → Option (List ℕ)) → (b : ℕ) → b < 4 → map.get (table_where f) b ≡ f b
get_within f b low = get-table_where f b ∙ cond-true (nat_lt b 4) (f b) None (lt-ltb b 4 low)

pub get_past : (f : ℕ → Option (List ℕ)) → (b : ℕ) → (b < 4 → ⊥) → map.get (table_where f) b ≡ None
get_past f b past =
    get-table_where f b ∙ cond-false (nat_lt b 4) (f b) None (le-ltb b 4 (elim (cases_lt b 4) [ inl low ↦ absurd (past low) | inr high ↦ high ]))

-- a table is empty exactly where it has a key at no block
pub no_key_at : (t : KeyTable) → has_no_key t ≡ true → (b : ℕ) → map.get t b ≡ None
no_key_at t h b = ap (λ (u : KeyTable). map.get u b) (map.empty_of_len t (eqb-true (map.len t) 0 h)) ∙ map.get-empty {X = List ℕ} nat_cmp b

pub has_no_key-from_none : (t : KeyTable) → ((b : ℕ) → map.get t b ≡ None) → has_no_key t ≡ true
has_no_key-from_none t h =
    eq-eqb (map.len t) 0 (ap map.len (map.same_map nat_cmp_total nat_cmp-IsAntisymmetric t map.empty (λ b. h b ∙ sym (map.get-empty {X = List ℕ} nat_cmp b)))
    ∙ map.len-empty nat_cmp (List ℕ))

-- a table by a function that agrees with it
pub table_where-same : (f : ℕ → Option (List ℕ)) (t : KeyTable) → ((b : ℕ) → b < 4 → f b ≡ map.get t b) → ((b : ℕ) → (b < 4 → ⊥) → map.get t b ≡ None)
    → table_where f ≡ t
table_where-same f t agree none = map.same_map nat_cmp_total nat_cmp-IsAntisymmetric (table_where f) t (λ b.
    elim (cases_lt b 4) as (λ _. map.get (table_where f) b ≡ map.get t b) [
      | inl low ↦ get_within f b low ∙ agree b low
      | inr high ↦ get_past f b (λ low. omega (arith, low, high)) ∙ sym (none b (λ low. omega (arith, low, high)))
    ])

pub same_table : (f g : ℕ → Option (List ℕ)) → ((b : ℕ) → b < 4 → f b ≡ g b) → table_where f ≡ table_where g
same_table f g agree = table_where-same f (table_where g) (λ b low. agree b low ∙ sym (get_within g b low)) (get_past g)

-- a fact of the four blocks
pub at_four : (f g : ℕ → Option (List ℕ)) → f 0 ≡ g 0 → f 1 ≡ g 1 → f 2 ≡ g 2 → f 3 ≡ g 3 → (b : ℕ) → b < 4 → f b ≡ g b
at_four f g a b c d zero low = a
at_four f g a b c d (suc zero) low = b
at_four f g a b c d (suc (suc zero)) low = c
at_four f g a b c d (suc (suc (suc zero))) low = d
at_four f g a b c d (suc (suc (suc (suc n)))) low = absurd (omega (arith, low))

-- the table of four digests that are those of g
pub table_is : {x0 x1 x2 x3 : Option (List ℕ)} (g : ℕ → Option (List ℕ)) → x0 ≡ g 0 → x1 ≡ g 1 → x2 ≡ g 2 → x3 ≡ g 3
    → table (x0 ∷ x1 ∷ x2 ∷ x3 ∷ []) ≡ table_where g
table_is {x0} {x1} {x2} {x3} g a b c d =
    same_table (λ n. get_or (x0 ∷ x1 ∷ x2 ∷ x3 ∷ []) n None) g (at_four (λ n. get_or (x0 ∷ x1 ∷ x2 ∷ x3 ∷ []) n None) g a b c d)

pub get_table : (digests : List (Option (List ℕ))) (b : ℕ) → b < 4 → get_or digests b None ≡ map.get (table digests) b
get_table digests b low = sym (get_within (λ n. get_or digests n None) b low)

-- four times none
pub table-none : table (None ∷ None ∷ None ∷ None ∷ []) ≡ map.empty
table-none =
    table_where-same (λ n. get_or (None ∷ None ∷ None ∷ None ∷ []) n None) map.empty
    (λ b low. at_four (λ n. get_or (None ∷ None ∷ None ∷ None ∷ []) n None) (λ _. None) refl refl refl refl b low ∙ sym (map.get-empty {X = List ℕ} nat_cmp b))
    (λ b past. map.get-empty {X = List ℕ} nat_cmp b)

-- a digest put at a block
pub insert-at : (digests : List (Option (List ℕ))) (block : ℕ) (d : List ℕ) (b : ℕ) → b < 4
    → (if block == b then Some d else get_or digests b None) ≡ map.get (map.insert (table digests) block d) b
insert-at digests block d b low = sym (
    map.get-insert nat_cmp_total (table digests) block d b
    ∙ (λ i. if (unsigned_tied b block ∙ turned b block) i then Some d else sym (get_table digests b low) i))
  where
    turned : (a b : ℕ) → (a == b) ≡ (b == a)
    turned a b = one_truth (a == b) (b == a) (λ e. eq-eqb b a (sym (eqb-true a b e))) (λ e. eq-eqb a b (sym (eqb-true b a e)))

pub table-insert : (digests : List (Option (List ℕ))) (block : ℕ) (d : List ℕ) → block < 4
    → table ((if block == 0 then Some d else get_or digests 0 None) ∷ (if block == 1 then Some d else get_or digests 1 None)
    ∷ (if block == 2 then Some d else get_or digests 2 None) ∷ (if block == 3 then Some d else get_or digests 3 None) ∷ [])
    ≡ map.insert (table digests) block d
table-insert digests block d small =
    table_is (λ b. if block == b then Some d else get_or digests b None) refl refl refl refl
    ∙ table_where-same (λ b. if block == b then Some d else get_or digests b None) (map.insert (table digests) block d) (insert-at digests block d)
    (λ b past.
    map.get-insert nat_cmp_total (table digests) block d b
    ∙ (ap (λ e. if e then Some d else map.get (table digests) b) (unsigned_tied b block ∙ ne_eqb b block (λ e. past (omega (arith, e, small))))
    ∙ get_past (λ n. get_or digests n None) b past))

-- a table without digests is empty
none_is : {A : Type 0} (o : Option A) → is_none o ≡ true → o ≡ None
none_is None h = refl
none_is (Some x) h = absurd (false≢true h)

list_all_each : {A : Type 0} (p : A → Bool) (xs : List A) → list_all p xs ≡ true → (k : ℕ) (d : A) → k < length xs → p (get_or xs k d) ≡ true
list_all_each p [] h k d low = absurd (omega (arith, low))
list_all_each p (x ∷ xs) h zero d low = (and_parts (p x) (list_all p xs) h).0
list_all_each p (x ∷ xs) h (suc k) d low = list_all_each p xs (and_parts (p x) (list_all p xs) h).1 k d (omega (arith, low))

list_all_from : {A : Type 0} (p : A → Bool) (xs : List A) → ((k : ℕ) (d : A) → k < length xs → p (get_or xs k d) ≡ true) → list_all p xs ≡ true
list_all_from p [] h = refl
list_all_from p (x ∷ xs) h = and_from (p x) (list_all p xs) (h 0 x (omega arith)) (list_all_from p xs (λ k d low. h (suc k) d (omega (arith, low))))

pub no_digest : (digests : List (Option (List ℕ))) → AreDigests digests → list_all is_none digests ≡ has_no_key (table digests)
no_digest digests four = one_truth (list_all is_none digests) (has_no_key (table digests))
    (λ h. has_no_key-from_none (table digests) (λ b.
    elim (cases_lt b 4) as (λ _. map.get (table digests) b ≡ None) [
      | inl low ↦
          get_within (λ k. get_or digests k None) b low ∙ none_is (get_or digests b None) (list_all_each is_none digests h b None (omega (arith, four, low)))
      | inr high ↦ get_past (λ k. get_or digests k None) b (λ low. omega (arith, low, high))
    ]))
    (λ h. list_all_from is_none digests (λ k d low.
    ap is_none (get_or_default digests k d None low ∙ (get_table digests k (omega (arith, low, four)) ∙ no_key_at (table digests) h k))))

-- the digests of a table are among those of another where its keys are
pub AreAmong-from_each : (digests others : List (Option (List ℕ))) → AreEachAmong digests others 4 → AreAmong (table digests) (table others)
AreAmong-from_each digests others each b = elim (cases_lt b 4) as (λ _. IfSome (map.get (table digests) b) (λ d. map.get (table others) b ≡ Some d)) [
  | inl low ↦ rw (← get_table digests b low, ← get_table others b low) (each b low)
  | inr high ↦ rw (get_past (λ n. get_or digests n None) b (λ low. omega (arith, low, high))) tt
]

pub each_among-from_tables : (digests others : List (Option (List ℕ))) → AreAmong (table digests) (table others) → AreEachAmong digests others 4
each_among-from_tables digests others among b low = rw (get_table digests b low, get_table others b low) (among b)

-- a table of four digests holds digests where each of them has 32 bytes
abbrev IsDigest : Option (List ℕ) → Type 0
IsDigest d = IfSome d (λ digest. length digest ≡ 32)

at_block : (digests : List (Option (List ℕ))) (b : ℕ) (x : Option (List ℕ)) → b < 4 → AreDigests digests → IsDigest (get_or digests b x)
    → IsDigest (map.get (table digests) b)
at_block digests b x low four is =
    rw (get_within (λ k. get_or digests k None) b low) (subst IsDigest (get_or_default digests b x None (omega (arith, low, four))) is)

pub HoldsDigests-from_four : (digests : List (Option (List ℕ))) (x0 x1 x2 x3 : Option (List ℕ)) → AreDigests digests
    → IsDigest (get_or digests 0 x0) → IsDigest (get_or digests 1 x1) → IsDigest (get_or digests 2 x2) → IsDigest (get_or digests 3 x3)
    → HoldsDigests (table digests)
HoldsDigests-from_four digests x0 x1 x2 x3 four d0 d1 d2 d3 zero = at_block digests 0 x0 (omega arith) four d0
HoldsDigests-from_four digests x0 x1 x2 x3 four d0 d1 d2 d3 (suc zero) = at_block digests 1 x1 (omega arith) four d1
HoldsDigests-from_four digests x0 x1 x2 x3 four d0 d1 d2 d3 (suc (suc zero)) = at_block digests 2 x2 (omega arith) four d2
HoldsDigests-from_four digests x0 x1 x2 x3 four d0 d1 d2 d3 (suc (suc (suc zero))) = at_block digests 3 x3 (omega arith) four d3
HoldsDigests-from_four digests x0 x1 x2 x3 four d0 d1 d2 d3 (suc (suc (suc (suc b)))) =
    rw (get_past (λ k. get_or digests k None) (suc (suc (suc (suc b)))) (λ low. omega (arith, low))) tt

-- a table that takes its keys from digests holds digests
pub HoldsDigests-table_where : (f : ℕ → Option (List ℕ)) → ((block : ℕ) → IfSome (f block) (λ digest. length digest ≡ 32)) → HoldsDigests (table_where f)
HoldsDigests-table_where f are block = elim (cases_lt block 4) as (λ _. IfSome (map.get (table_where f) block) (λ digest. length digest ≡ 32)) [
  | inl low ↦ rw (get_within f block low) (are block)
  | inr high ↦ rw (get_past f block (λ low. omega (arith, low, high))) tt
]

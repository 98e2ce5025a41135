-- Tables from key blocks to digests.
use Rattle.std.specs.Prelude.{◌≡◌, ℕ, zero, suc, ◌<◌, Bool, true, false, ◌==◌, nat_lt, List, [], ◌∷◌, length, slice_index_or, Option, Some, None, IfSome}
use Rattle.std.specs.Prelude.{is_some, if◌then◌else◌, refl}
use Rattle.std.proofs.Common.{sym, ap, ◌∙◌, arith, nat_cmp, inl, inr, zero-le}
use Rattle.std.proofs.lemmas.Bool.{cases_order, cond-true, cond-false, le-ltb, lt-ltb, eq-eqb, ne_eqb}
use Rattle.std.specs.Option.{option_or}
use Rattle.std.specs.FinMap as map
use Rattle.std.specs.FinMap.{FinMap}
use Rattle.std.specs.Cmp.{nat_cmp_total, unsigned_tied}

-- the digests of keys, each under the number of its key block
abbrev pub KeyTable : Type 0
KeyTable = FinMap nat_cmp (List ℕ)

-- the table with a digest at a block, if there is one
put_some : KeyTable → ℕ → Option (List ℕ) → KeyTable
put_some t b None = t
put_some t b (Some d) = map.insert t b d

-- the table with f at each block below n
table_below : (ℕ → Option (List ℕ)) → ℕ → KeyTable
table_below f zero = map.empty
table_below f (suc n) = put_some (table_below f n) n (f n)

-- the table with f at each of 4 blocks
pub table_where : (ℕ → Option (List ℕ)) → KeyTable
table_where f = table_below f 4

-- the table has no key
abbrev pub has_no_key : KeyTable → Bool
has_no_key t = map.len t == 0

-- the keys of both tables: where both have one, the first table's
unfoldable pub keys_union : KeyTable → KeyTable → KeyTable
keys_union keys others = table_where (λ b. option_or (map.get keys b) (map.get others b))

-- the keys of the blocks that have none in the second table
unfoldable pub keys_without : KeyTable → KeyTable → KeyTable
keys_without keys others = table_where (λ b. if is_some (map.get others b) then None else map.get keys b)

-- each key of the first table is in the second, with the same digest
abbrev pub AreAmong : KeyTable → KeyTable → Type 0
AreAmong keys others = (b : ℕ) → IfSome (map.get keys b) (λ d. map.get others b ≡ Some d)

-- each key of the table is a digest of 32 bytes
abbrev pub HoldsDigests : KeyTable → Type 0
HoldsDigests t = (b : ℕ) → IfSome (map.get t b) (λ digest. length digest ≡ 32)

-- the table of four digests, and the four digests of a table
abbrev pub table : List (Option (List ℕ)) → KeyTable
table digests = table_where (λ b. slice_index_or digests b None)

abbrev pub digests_of : KeyTable → List (Option (List ℕ))
digests_of t = map.get t 0 ∷ map.get t 1 ∷ map.get t 2 ∷ map.get t 3 ∷ []

-- there is a place for the digest of each of the four key blocks
abbrev pub AreDigests : List (Option (List ℕ)) → Type 0
AreDigests digests = length digests ≡ 4

-- each of the first n digests is also at its place among the others
abbrev pub AreEachAmong : List (Option (List ℕ)) → List (Option (List ℕ)) → ℕ → Type 0
AreEachAmong digests others n = (b : ℕ) → b < n → IfSome (slice_index_or digests b None) (λ d. slice_index_or others b None ≡ Some d)

same_cond : {A : Type 0} (b : Bool) (x : A) → (if b then x else x) ≡ x
same_cond true x = refl
same_cond false x = refl

get-put_some : (t : KeyTable) (b q : ℕ) (d : Option (List ℕ)) → map.get (put_some t b d) q ≡ (if q == b then option_or d (map.get t q) else map.get t q)
unfolding put_some
get-put_some t b q None = sym (same_cond (q == b) (map.get t q))
get-put_some t b q (Some d) = map.get-insert nat_cmp_total t b d q ∙ ap (λ e. if e then Some d else map.get t q) (unsigned_tied q b)

or_none : (d : Option (List ℕ)) → option_or d None ≡ d
or_none None = refl
or_none (Some d) = refl

at_next_block : (f : ℕ → Option (List ℕ)) (n q : ℕ) (x : Option (List ℕ)) → x ≡ (if nat_lt q n then f q else None)
    → (if q == n then option_or (f n) x else x) ≡ (if nat_lt q (suc n) then f q else None)
at_next_block f n q x h = elim (cases_order q n) as (λ _. (if q == n then option_or (f n) x else x) ≡ (if nat_lt q (suc n) then f q else None)) [
  | inl e ↦ cond-true (q == n) (option_or (f n) x) x (eq-eqb q n e)
      ∙ ap (λ y. option_or (f n) y) (h ∙ cond-false (nat_lt q n) (f q) None (le-ltb q n (omega (arith, e))))
      ∙ or_none (f n) ∙ sym (ap f e) ∙ sym (cond-true (nat_lt q (suc n)) (f q) None (lt-ltb q (suc n) (omega (arith, e))))
  | inr (inl low) ↦ cond-false (q == n) (option_or (f n) x) x (ne_eqb q n (λ e. omega (arith, e, low)))
      ∙ h ∙ cond-true (nat_lt q n) (f q) None (lt-ltb q n low)
      ∙ sym (cond-true (nat_lt q (suc n)) (f q) None (lt-ltb q (suc n) (omega (arith, low))))
  | inr (inr high) ↦ cond-false (q == n) (option_or (f n) x) x (ne_eqb q n (λ e. omega (arith, e, high)))
      ∙ h ∙ cond-false (nat_lt q n) (f q) None (le-ltb q n (omega (arith, high)))
      ∙ sym (cond-false (nat_lt q (suc n)) (f q) None (le-ltb q (suc n) (omega (arith, high))))
]

get-table_below : (f : ℕ → Option (List ℕ)) (n q : ℕ) → map.get (table_below f n) q ≡ (if nat_lt q n then f q else None)
unfolding table_below
get-table_below f zero q = map.get-empty {X = List ℕ} nat_cmp q ∙ sym (cond-false (nat_lt q 0) (f q) None (le-ltb q 0 zero-le))
get-table_below f (suc n) q = get-put_some (table_below f n) n q (f n) ∙ at_next_block f n q (map.get (table_below f n) q) (get-table_below f n q)

-- what the table has at a block
pub get-table_where : (f : ℕ → Option (List ℕ)) (q : ℕ) → map.get (table_where f) q ≡ (if nat_lt q 4 then f q else None)
unfolding table_where
get-table_where f q = get-table_below f 4 q

four : (digests : List (Option (List ℕ))) → length digests ≡ 4
    → digests ≡ slice_index_or digests 0 None ∷ slice_index_or digests 1 None ∷ slice_index_or digests 2 None ∷ slice_index_or digests 3 None ∷ []
four (a ∷ b ∷ c ∷ d ∷ []) h = refl
four [] h = absurd (omega (arith, h))
four (a ∷ []) h = absurd (omega (arith, h))
four (a ∷ b ∷ []) h = absurd (omega (arith, h))
four (a ∷ b ∷ c ∷ []) h = absurd (omega (arith, h))
four (a ∷ b ∷ c ∷ d ∷ e ∷ digests) h = absurd (omega (arith, h))

-- the digests of the table of four digests
pub digests_again : (digests : List (Option (List ℕ))) → AreDigests digests → digests_of (table digests) ≡ digests
digests_again digests h =
    (λ i. get-table_where (λ b. slice_index_or digests b None) 0 i ∷ get-table_where (λ b. slice_index_or digests b None) 1 i ∷ get-table_where (λ b.
    slice_index_or digests b None) 2 i ∷ get-table_where (λ b. slice_index_or digests b None) 3 i ∷ [])
    ∙ sym (four digests h)

-- The records that a reader has given, as the first of its text.
use Rattle.std.proofs.Common.{◌≡◌, ◌≤◌, ◌<◌, ◌+◌, ◌∷◌, ◌++◌}
use Rattle.text_core.proofs.Kit.{ℕ, zero, suc, true, false, List, [], length, take, take_all, Some, None, inl, inr, refl, sym, ap, subst, ◌∙◌, arith}
use Rattle.text_core.proofs.Kit.{cases_Bool, nat_tests, append-nil, take-append_seam}
use Rattle.csv.specs.Machine.{Read, ends_at_end, field_after, fields_after, is_end, next_record, step}
use Rattle.csv.specs.Reading.{Reached, default_config, records, records_from}
use Rattle.csv.specs.declared.parser.State.{State}
use Rattle.csv.specs.declared.parser.State.TheVariants as st

-- after the byte that ends a record the end of the text ends no further one
end_is_clear : (s : State) (c : ℕ) → is_end (step default_config s c).1 ≡ true → ends_at_end (step default_config s c).0 ≡ false
end_is_clear st.StartRecord c h = grind (arith, nat_tests)
end_is_clear st.StartField c h = grind (arith, nat_tests)
end_is_clear st.InField c h = grind (arith, nat_tests)
end_is_clear st.InQuoted c h = grind (arith, nat_tests)
end_is_clear st.AfterQuote c h = grind (arith, nat_tests)
end_is_clear st.InEscape c h = grind (arith, nat_tests)
end_is_clear st.InComment c h = grind (arith, nat_tests)
end_is_clear st.AfterCr c h = grind (arith, nat_tests)

-- what is left after a record, and that the end of the text would end no further one
abbrev Leaves : ℕ → Read → Type 0
Leaves most p = (length p.2 ≤ most) × (ends_at_end p.1 ≡ false)

leaves_same : (most : ℕ) (q p : Read) → Some q ≡ Some p → Leaves most q → Leaves most p
leaves_same most q p same h = let e : q ≡ p = cc in subst (Leaves most) e h

record_leaves : (xs : List ℕ) (s : State) (fields : List (List ℕ)) (field : List ℕ) (p : Read)
    → next_record default_config s fields field xs ≡ Some p → Leaves (length xs) p
unfolding next_record
record_leaves [] s fields field p h =
    elim (cases_Bool (ends_at_end s)) [
      | inl ends ↦ leaves_same 0 (fields ++ field ∷ [], st.StartRecord, []) p (rw ends at h) (omega arith, refl)
      | inr clear ↦ absurd (let none : None ≡ Some p = rw clear at h in cc)
    ]
record_leaves (c ∷ rest) s fields field p h =
    elim (cases_Bool (is_end (step default_config s c).1)) [
      | inl ends ↦
          leaves_same (suc (length rest)) (fields_after (step default_config s c).1 fields field, (step default_config s c).0, rest) p (rw ends at h)
          (omega arith, end_is_clear s c ends)
      | inr on ↦
          let left =
          record_leaves rest (step default_config s c).0 (fields_after (step default_config s c).1 fields field)
          (field_after (step default_config s c).1 c field) p (rw on at h) in
          (omega (arith, left.0), left.1)
    ]

-- a record takes a byte at least
record_shrinks : (xs : List ℕ) (s : State) (p : Read) → ends_at_end s ≡ false → next_record default_config s [] [] xs ≡ Some p
    → (length p.2 < length xs) × (ends_at_end p.1 ≡ false)
unfolding next_record
record_shrinks [] s p clear h = absurd (let none : None ≡ Some p = rw clear at h in cc)
record_shrinks (c ∷ rest) s p clear h =
    elim (cases_Bool (is_end (step default_config s c).1)) [
      | inl ends ↦
          let left =
          leaves_same (length rest) (fields_after (step default_config s c).1 [] [], (step default_config s c).0, rest) p (rw ends at h)
          (omega arith, end_is_clear s c ends) in
          (omega (arith, left.0), left.1)
      | inr on ↦
          let left =
          record_leaves rest (step default_config s c).0 (fields_after (step default_config s c).1 [] []) (field_after (step default_config s c).1 c []) p
          (rw on at h) in
          (omega (arith, left.0), left.1)
    ]

-- the records reached are the first of those of the text
reached_first : (rows : List (List (List ℕ))) (most : ℕ) (s s2 : State) (xs ys : List ℕ)
    → length xs < most → ends_at_end s ≡ false → Reached default_config s xs rows s2 ys
    → (left : ℕ) × (records_from default_config most s xs ≡ rows ++ records_from default_config left s2 ys)
unfolding Reached records_from
reached_first [] most s s2 xs ys room clear h = (most, rw (h.0, h.1) refl)
reached_first (row ∷ rows) zero s s2 xs ys room clear h = absurd (omega arith)
reached_first (row ∷ rows) (suc most) s s2 xs ys room clear h =
    let shrinks = record_shrinks xs s h.0 clear h.1 in
    let rest = reached_first rows most h.0.1 s2 h.0.2 ys (omega (arith, shrinks.0)) shrinks.1 h.3 in
    (rest.0, rw h.1 (rw h.2 (ap (λ (more : List (List (List ℕ))). h.0.0 ∷ more) rest.1)))

-- where as many as were asked for were reached
pub first_reached : (rows : List (List (List ℕ))) (most : ℕ) (s2 : State) (xs ys : List ℕ)
    → Reached default_config st.StartRecord xs rows s2 ys → length rows ≡ most → rows ≡ take most (records default_config xs)
first_reached rows most s2 xs ys h count =
    let found = reached_first rows (length xs + 1) st.StartRecord s2 xs ys (omega arith) refl h in
    sym (ap (λ n. take n (records default_config xs)) (sym count) ∙ ap (take (length rows)) found.1 ∙ take-append_seam rows _)

none_left : (most : ℕ) (s : State) (ys : List ℕ) → next_record default_config s [] [] ys ≡ None → records_from default_config most s ys ≡ []
unfolding records_from
none_left zero s ys h = refl
none_left (suc most) s ys h = rw h refl

-- where the text ended before
pub all_reached : (rows : List (List (List ℕ))) (most : ℕ) (s2 : State) (xs ys : List ℕ)
    → Reached default_config st.StartRecord xs rows s2 ys → next_record default_config s2 [] [] ys ≡ None → length rows ≤ most
    → rows ≡ take most (records default_config xs)
all_reached rows most s2 xs ys h ended count =
    let found = reached_first rows (length xs + 1) st.StartRecord s2 xs ys (omega arith) refl h in
    let all : records default_config xs ≡ rows =
    found.1 ∙ ap (λ (more : List (List (List ℕ))). rows ++ more) (none_left found.0 s2 ys ended) ∙ append-nil rows in
    sym (ap (take most) all ∙ take_all most rows count)

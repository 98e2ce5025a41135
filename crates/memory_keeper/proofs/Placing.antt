-- A map from keys to rows, read as the list of its rows.
use mathlib.Core.Path.{fun_ext}
use Rattle.std.proofs.Common.{◌≡◌, ◌∷◌, ◌++◌, ◌+◌, ◌-◌, get_or, Ordering}
use Rattle.text_core.proofs.Kit.{suc, arith, Bool, true, false, cond, List, [], length, subst, Option, Some, None, Less, Equal, Greater, refl, sym, ap, ◌∙◌}
use Rattle.text_core.proofs.Kit.{find, filter, slice_get, lookup, remove_entry, set_value, values_of, keys_of, insert_entry, is_at, entries_between, All}
use Rattle.text_core.proofs.Kit.{AllByRecursion, is_eq, is_lt, match_ordering, IsTotalOrder, Included, alike_right, tied_itself, tied_back, get_or-append_seam}
use Rattle.text_core.proofs.Kit.{length-append, map-append, slice_get_read, lookup-none, none_below_head, sorted_head, sorted_tail}
use Rattle.std.specs.List.Sorted.{IsStrictlySortedBy}
use Rattle.std.specs.declared.ops.Bound.TheVariants.{Excluded}
use Rattle.office_tables.specs.Prelude.{with_row, IsAscending}
use Rattle.memory_keeper.specs.Prelude.{by_key, has_key, is_behind, is_between, AreKeyed, without, with_other, unplaced}

-- the last of a list of entries has the last value
last_of : {K R : Type 0} (es : List (K × R)) (e : K × R) → Some e.1 ≡ slice_get (values_of (es ++ e ∷ [])) (length (values_of (es ++ e ∷ [])) - 1)
last_of es e =
    let vs = values_of es in
    let n : length (vs ++ e.1 ∷ []) ≡ length vs + 1 = length-append vs (e.1 ∷ []) in
    let at : length (vs ++ e.1 ∷ []) - 1 ≡ length vs = omega (arith, n) in
    rw (map-append (λ x. x.1) es (e ∷ [])) (sym (slice_get_read (vs ++ e.1 ∷ []) (length vs + 1) (length (vs ++ e.1 ∷ []) - 1) e.1 (sym n) (omega (arith, at))
    (sym (ap (λ i. get_or (vs ++ e.1 ∷ []) i e.1) at ∙ get_or-append_seam vs e.1 [] e.1))))

module _ {K R : Type 0} (cmp : K → K → Ordering) (total : IsTotalOrder cmp) (key_of : R → K) where
  -- a query compares to a row's key as to the key at which the row stands
  same_key : (k : K) (e : K × R) → cmp e.0 (key_of e.1) ≡ Equal → cmp k e.0 ≡ cmp k (key_of e.1)
  same_key k e keyed = alike_right total e.0 (key_of e.1) k keyed

  -- a look-up by a key is a search among the rows
  pub find-values : (k : K) (es : List (K × R)) → AreKeyed cmp key_of es → lookup (is_at (cmp k)) es ≡ find (has_key cmp key_of k) (values_of es)
  find-values k [] keyed = refl
  find-values k (e ∷ es) keyed = rw (same_key k e keyed.0, find-values k es keyed.1) refl

  -- rows at equal keys compare as these keys do
  below-values : (k : K) (row : R) (es : List (K × R)) → cmp k (key_of row) ≡ Equal → AreKeyed cmp key_of es
      → AllByRecursion (λ l. cmp k l ≡ Less) (keys_of es) → AllByRecursion (λ y. by_key cmp key_of row y ≡ Less) (values_of es)
  below-values k row [] same keyed below = tt
  below-values k row (e ∷ es) same keyed below = (
    sym (total.congr k (key_of row) (key_of e.1) same) ∙ (sym (same_key k e keyed.0) ∙ below.0),
    below-values k row es same keyed.1 below.1,
  )

  -- the rows are in the order of their keys
  pub ascending-values : (es : List (K × R)) → AreKeyed cmp key_of es → IsStrictlySortedBy cmp (keys_of es) → IsAscending (by_key cmp key_of) (values_of es)
  ascending-values [] keyed sorted = tt
  ascending-values (e ∷ es) keyed sorted = (
    below-values e.0 e.1 es keyed.0 keyed.1 (sorted_head cmp e.0 (keys_of es) sorted),
    ascending-values es keyed.1 (sorted_tail cmp e.0 (keys_of es) sorted),
  )

  -- an insertion places the row
  pub placed-values : (row : R) (es : List (K × R)) → AreKeyed cmp key_of es
      → values_of (insert_entry cmp es (key_of row) row) ≡ with_row (by_key cmp key_of) row (values_of es)
  placed-values row [] keyed = refl
  placed-values row (e ∷ es) keyed =
      let same = same_key (key_of row) e keyed.0 in
      rw same (elim (cmp (key_of row) (key_of e.1)) as (λ o.
      values_of (match_ordering o ((key_of row, row) ∷ e ∷ es) ((e.0, row) ∷ es) (e ∷ insert_entry cmp es (key_of row) row))
      ≡ match_ordering o (row ∷ e.1 ∷ values_of es) (row ∷ values_of es) (e.1 ∷ with_row (by_key cmp key_of) row (values_of es))) [
        | Less ↦ refl
        | Equal ↦ refl
        | Greater ↦ ap (λ rows. e.1 ∷ rows) (placed-values row es keyed.1)
      ])

  -- a removal takes out the first row with the key
  pub without-values : (k : K) (es : List (K × R)) → AreKeyed cmp key_of es
      → values_of (remove_entry (is_at (cmp k)) es) ≡ without (has_key cmp key_of k) (values_of es)
  without-values k [] keyed = refl
  without-values k (e ∷ es) keyed =
      rw (same_key k e keyed.0) (elim (is_eq (cmp k (key_of e.1))) as (λ b.
      values_of (cond b es (e ∷ remove_entry (is_at (cmp k)) es)) ≡ cond b (values_of es) (e.1 ∷ without (has_key cmp key_of k) (values_of es))) [
        | true ↦ refl
        | false ↦ ap (λ rows. e.1 ∷ rows) (without-values k es keyed.1)
      ])

  -- a write at a key replaces the first row with it
  pub with_other-values : (k : K) (other : R) (es : List (K × R)) → AreKeyed cmp key_of es
      → values_of (set_value (is_at (cmp k)) es other) ≡ with_other (has_key cmp key_of k) other (values_of es)
  with_other-values k other [] keyed = refl
  with_other-values k other (e ∷ es) keyed =
      rw (same_key k e keyed.0) (elim (is_eq (cmp k (key_of e.1))) as (λ b.
      values_of (cond b ((e.0, other) ∷ es) (e ∷ set_value (is_at (cmp k)) es other))
      ≡ cond b (other ∷ values_of es) (e.1 ∷ with_other (has_key cmp key_of k) other (values_of es))) [
        | true ↦ refl
        | false ↦ ap (λ rows. e.1 ∷ rows) (with_other-values k other es keyed.1)
      ])

  -- nothing is put in the place of a row that isn't there
  pub with_other-free : (k : K) (other : R) (es : List (K × R)) → AreKeyed cmp key_of es → lookup (is_at (cmp k)) es ≡ None
      → with_other (has_key cmp key_of k) other (values_of es) ≡ values_of es
  with_other-free k other [] keyed free = refl
  with_other-free k other (e ∷ es) keyed free =
      elim (cmp k e.0) as (λ o. cmp k e.0 ≡ o → cond (is_eq o) (Some e.1) (lookup (is_at (cmp k)) es) ≡ None
      → cond (is_eq (cmp k (key_of e.1))) (other ∷ values_of es) (e.1 ∷ with_other (has_key cmp key_of k) other (values_of es)) ≡ e.1 ∷ values_of es) [
        | Less ↦ λ is none. rw (← (same_key k e keyed.0), is) (ap (λ rows. e.1 ∷ rows) (with_other-free k other es keyed.1 none))
        | Equal ↦ λ is none. cc
        | Greater ↦ λ is none. rw (← (same_key k e keyed.0), is) (ap (λ rows. e.1 ∷ rows) (with_other-free k other es keyed.1 none))
      ] refl free

  -- a range of keys is a filter of the rows
  pub filter-values : (first last : K) (es : List (K × R)) → AreKeyed cmp key_of es
      → values_of (entries_between cmp (Included first) (Included last) es) ≡ filter (is_between cmp key_of first last) (values_of es)
  filter-values first last [] keyed = refl
  filter-values first last (e ∷ es) keyed =
      rw (same_key first e keyed.0, same_key last e keyed.0)
      (elim (is_between cmp key_of first last e.1) as (λ b.
      values_of (cond b (e ∷ entries_between cmp (Included first) (Included last) es) (entries_between cmp (Included first) (Included last) es))
      ≡ cond b (e.1 ∷ filter (is_between cmp key_of first last) (values_of es)) (filter (is_between cmp key_of first last) (values_of es))) [
        | true ↦ ap (λ rows. e.1 ∷ rows) (filter-values first last es keyed.1)
        | false ↦ filter-values first last es keyed.1
      ])

  -- a range of keys that leaves its first key out is a filter of the rows
  pub filter-values-behind : (first last : K) (es : List (K × R)) → AreKeyed cmp key_of es
      → values_of (entries_between cmp (Excluded first) (Included last) es) ≡ filter (is_behind cmp key_of first last) (values_of es)
  filter-values-behind first last [] keyed = refl
  filter-values-behind first last (e ∷ es) keyed =
      rw (same_key first e keyed.0, same_key last e keyed.0)
      (elim (is_behind cmp key_of first last e.1) as (λ b.
      values_of (cond b (e ∷ entries_between cmp (Excluded first) (Included last) es) (entries_between cmp (Excluded first) (Included last) es))
      ≡ cond b (e.1 ∷ filter (is_behind cmp key_of first last) (values_of es)) (filter (is_behind cmp key_of first last) (values_of es))) [
        | true ↦ ap (λ rows. e.1 ∷ rows) (filter-values-behind first last es keyed.1)
        | false ↦ filter-values-behind first last es keyed.1
      ])

  -- the rows stand at their keys after each of these
  pub AreKeyed-insert : (row : R) (es : List (K × R)) → AreKeyed cmp key_of es → AreKeyed cmp key_of (insert_entry cmp es (key_of row) row)
  AreKeyed-insert row [] keyed = (tied_itself total (key_of row), tt)
  AreKeyed-insert row (e ∷ es) keyed =
      elim (cmp (key_of row) e.0) as (λ o. cmp (key_of row) e.0 ≡ o
      → AreKeyed cmp key_of (match_ordering o ((key_of row, row) ∷ e ∷ es) ((e.0, row) ∷ es) (e ∷ insert_entry cmp es (key_of row) row))) [
        | Less ↦ λ is. (tied_itself total (key_of row), keyed)
        | Equal ↦ λ is. (tied_back total (key_of row) e.0 is, keyed.1)
        | Greater ↦ λ is. (keyed.0, AreKeyed-insert row es keyed.1)
      ] refl

  pub AreKeyed-remove : (test : K → Bool) (es : List (K × R)) → AreKeyed cmp key_of es → AreKeyed cmp key_of (remove_entry test es)
  AreKeyed-remove test [] keyed = tt
  AreKeyed-remove test (e ∷ es) keyed =
      elim (test e.0) as (λ b. AreKeyed cmp key_of (cond b es (e ∷ remove_entry test es))) [
        | true ↦ keyed.1
        | false ↦ (keyed.0, AreKeyed-remove test es keyed.1)
      ]

  pub AreKeyed-set_value : (row : R) (es : List (K × R)) → AreKeyed cmp key_of es → AreKeyed cmp key_of (set_value (is_at (cmp (key_of row))) es row)
  AreKeyed-set_value row [] keyed = tt
  AreKeyed-set_value row (e ∷ es) keyed =
      elim (cmp (key_of row) e.0) as (λ o. cmp (key_of row) e.0 ≡ o
      → AreKeyed cmp key_of (cond (is_eq o) ((e.0, row) ∷ es) (e ∷ set_value (is_at (cmp (key_of row))) es row))) [
        | Less ↦ λ is. (keyed.0, AreKeyed-set_value row es keyed.1)
        | Equal ↦ λ is. (tied_back total (key_of row) e.0 is, keyed.1)
        | Greater ↦ λ is. (keyed.0, AreKeyed-set_value row es keyed.1)
      ] refl

  -- a new row is taken out again
  pub remove-insert : (k : K) (row : R) (es : List (K × R)) → lookup (is_at (cmp k)) es ≡ None → remove_entry (is_at (cmp k)) (insert_entry cmp es k row) ≡ es
  remove-insert k row [] free = rw (tied_itself total k) refl
  remove-insert k row (e ∷ es) free =
      elim (cmp k e.0) as (λ o. cmp k e.0 ≡ o → cond (is_eq o) (Some e.1) (lookup (is_at (cmp k)) es) ≡ None
      → remove_entry (is_at (cmp k)) (match_ordering o ((k, row) ∷ e ∷ es) ((e.0, row) ∷ es) (e ∷ insert_entry cmp es k row)) ≡ e ∷ es) [
        | Less ↦ λ is none. rw (tied_itself total k) refl
        | Equal ↦ λ is none. cc
        | Greater ↦ λ is none. rw is (ap (λ rest. e ∷ rest) (remove-insert k row es none))
      ] refl free

  -- a row that another replaced is put back
  pub set_value-insert : (k : K) (row old : R) (es : List (K × R)) → IsStrictlySortedBy cmp (keys_of es) → lookup (is_at (cmp k)) es ≡ Some old
      → set_value (is_at (cmp k)) (insert_entry cmp es k row) old ≡ es
  set_value-insert k row old [] sorted had = cc
  set_value-insert k row old (e ∷ es) sorted had =
      elim (cmp k e.0) as (λ o. cmp k e.0 ≡ o → cond (is_eq o) (Some e.1) (lookup (is_at (cmp k)) es) ≡ Some old
      → set_value (is_at (cmp k)) (match_ordering o ((k, row) ∷ e ∷ es) ((e.0, row) ∷ es) (e ∷ insert_entry cmp es k row)) old ≡ e ∷ es) [
        | Less ↦ λ is found. let none =
            lookup-none (is_at (cmp k)) (e ∷ es) (none_below_head total k e es sorted is) in absurd (let both : None ≡ Some old = sym none ∙ had in cc)
        | Equal ↦ λ is found. let same : old ≡ e.1 = cc in rw is (ap (λ v. (e.0, v) ∷ es) same)
        | Greater ↦ λ is found. rw is (ap (λ rest. e ∷ rest) (set_value-insert k row old es (sorted_tail cmp e.0 (keys_of es) sorted) found))
      ] refl had

  -- what a look-up finds has the key
  pub key_found : (k : K) (old : R) (es : List (K × R)) → AreKeyed cmp key_of es → lookup (is_at (cmp k)) es ≡ Some old → cmp k (key_of old) ≡ Equal
  key_found k old [] keyed had = cc
  key_found k old (e ∷ es) keyed had =
      elim (cmp k e.0) as (λ o. cmp k e.0 ≡ o → cond (is_eq o) (Some e.1) (lookup (is_at (cmp k)) es) ≡ Some old → cmp k (key_of old) ≡ Equal) [
        | Less ↦ λ is found. key_found k old es keyed.1 found
        | Equal ↦ λ is found. let same : old ≡ e.1 = cc in rw same (sym (same_key k e keyed.0) ∙ is)
        | Greater ↦ λ is found. key_found k old es keyed.1 found
      ] refl had

  -- no row has a key above the greatest of the keys, at which a row with an equal key stands
  pub greatest-values : (greatest k : K) (es : List (K × R)) → cmp greatest k ≡ Equal → AreKeyed cmp key_of es → All (λ other.
      is_lt (cmp greatest other) ≡ false) (keys_of es) → AllByRecursion (λ row. is_lt (cmp k (key_of row)) ≡ false) (values_of es)
  greatest-values greatest k [] same keyed all = tt
  greatest-values greatest k (e ∷ es) same keyed all =
      let here : is_lt (cmp greatest e.0) ≡ false = all 0 e.0 (omega arith) in (
        rw (← (total.congr greatest k (key_of e.1) same), ← (same_key greatest e keyed.0)) here,
        greatest-values greatest k es same keyed.1 (λ i d within. all (suc i) d (omega arith)),
      )

  -- a new row is placed and taken out again
  without-placed : (row : R) (es : List (K × R)) → AreKeyed cmp key_of es → lookup (is_at (cmp (key_of row))) es ≡ None
      → without (has_key cmp key_of (key_of row)) (values_of (insert_entry cmp es (key_of row) row)) ≡ values_of es
  without-placed row es keyed free =
      sym (without-values (key_of row) (insert_entry cmp es (key_of row) row) (AreKeyed-insert row es keyed))
      ∙ ap values_of (remove-insert (key_of row) row es free)

  -- a row is replaced and put back
  with_other-placed : (row old : R) (es : List (K × R)) → AreKeyed cmp key_of es → IsStrictlySortedBy cmp (keys_of es)
      → lookup (is_at (cmp (key_of row))) es ≡ Some old → with_other (has_key cmp key_of (key_of old)) old (values_of (insert_entry cmp es (key_of row) row))
      ≡ values_of es
  with_other-placed row old es keyed sorted had =
      let same : cmp (key_of old) ≡ cmp (key_of row) = fun_ext (λ k. sym (total.congr (key_of row) (key_of old) k (key_found (key_of row) old es keyed had))) in
      ap (λ (compare : K → Ordering). with_other (λ r. is_eq (compare (key_of r))) old (values_of (insert_entry cmp es (key_of row) row))) same
      ∙ (sym (with_other-values (key_of row) old (insert_entry cmp es (key_of row) row) (AreKeyed-insert row es keyed))
      ∙ ap values_of (set_value-insert (key_of row) row old es sorted had))

  -- a placing is taken back
  pub unplaced-insert : (row : R) (old : Option R) (es : List (K × R)) → AreKeyed cmp key_of es → IsStrictlySortedBy cmp (keys_of es)
      → lookup (is_at (cmp (key_of row))) es ≡ old → unplaced (by_key cmp key_of) row old (values_of (insert_entry cmp es (key_of row) row)) ≡ values_of es
  unplaced-insert row None es keyed sorted was = without-placed row es keyed was
  unplaced-insert row (Some old) es keyed sorted was = with_other-placed row old es keyed sorted was

  -- a row in place of the one that has its key is placed
  pub set_value-placed : (k : K) (row old : R) (es : List (K × R)) → IsStrictlySortedBy cmp (keys_of es) → lookup (is_at (cmp k)) es ≡ Some old
      → set_value (is_at (cmp k)) es row ≡ insert_entry cmp es k row
  set_value-placed k row old [] sorted had = cc
  set_value-placed k row old (e ∷ es) sorted had =
      elim (cmp k e.0) as (λ o. cmp k e.0 ≡ o → cond (is_eq o) (Some e.1) (lookup (is_at (cmp k)) es) ≡ Some old
      → cond (is_eq o) ((e.0, row) ∷ es) (e ∷ set_value (is_at (cmp k)) es row)
      ≡ match_ordering o ((k, row) ∷ e ∷ es) ((e.0, row) ∷ es) (e ∷ insert_entry cmp es k row)) [
        | Less ↦ λ is found. let none =
            lookup-none (is_at (cmp k)) (e ∷ es) (none_below_head total k e es sorted is) in absurd (let both : None ≡ Some old = sym none ∙ had in cc)
        | Equal ↦ λ is found. refl
        | Greater ↦ λ is found. ap (λ rest. e ∷ rest) (set_value-placed k row old es (sorted_tail cmp e.0 (keys_of es) sorted) found)
      ] refl had

  AreKeyed-filter : (test : K × R → Bool) (es : List (K × R)) → AreKeyed cmp key_of es → AreKeyed cmp key_of (filter test es)
  AreKeyed-filter test [] keyed = tt
  AreKeyed-filter test (e ∷ es) keyed =
      elim (test e) as (λ b. AreKeyed cmp key_of (cond b (e ∷ filter test es) (filter test es))) [
        | true ↦ (keyed.0, AreKeyed-filter test es keyed.1)
        | false ↦ AreKeyed-filter test es keyed.1
      ]

  -- the last of the entries stands at its key
  keyed_last : (es : List (K × R)) (e : K × R) → AreKeyed cmp key_of (es ++ e ∷ []) → cmp e.0 (key_of e.1) ≡ Equal
  keyed_last [] e keyed = keyed.0
  keyed_last (y ∷ ys) e keyed = keyed_last ys e keyed.1

  below_last : (k k2 : K) (es : List (K × R)) → cmp k k2 ≡ Equal → AreKeyed cmp key_of es → All (λ e. is_lt (cmp k e.0) ≡ false) es → AllByRecursion (λ row.
      is_lt (cmp k2 (key_of row)) ≡ false) (values_of es)
  below_last k k2 [] same keyed all = tt
  below_last k k2 (e ∷ es) same keyed all =
      let here : is_lt (cmp k e.0) ≡ false = all 0 e (omega arith) in (
        rw (← (total.congr k k2 (key_of e.1) same), ← (same_key k e keyed.0)) here,
        below_last k k2 es same keyed.1 (λ i d within. all (suc i) d (omega arith)),
      )

  module _ (first last : K) (es t : List (K × R)) (e : K × R) (keyed : AreKeyed cmp key_of es) where
    -- the last of the entries of a range has the last row of the range
    pub last-values : entries_between cmp (Included first) (Included last) es ≡ t ++ e ∷ []
        → Some e.1 ≡ slice_get (filter (is_between cmp key_of first last) (values_of es))
        (length (filter (is_between cmp key_of first last) (values_of es)) - 1)
    last-values is = rw (← (filter-values first last es keyed), is) (last_of t e)

    -- no row of the range has a greater key
    pub greatest-between : entries_between cmp (Included first) (Included last) es ≡ t ++ e ∷ []
        → All (λ other. is_lt (cmp e.0 other.0) ≡ false) (entries_between cmp (Included first) (Included last) es)
        → AllByRecursion (λ row. is_lt (cmp (key_of e.1) (key_of row)) ≡ false) (filter (is_between cmp key_of first last) (values_of es))
    greatest-between is all =
        let between = AreKeyed-filter _ es keyed in
        rw (← (filter-values first last es keyed)) (below_last e.0 (key_of e.1) (entries_between cmp (Included first) (Included last) es)
        (keyed_last t e (subst (AreKeyed cmp key_of) is between)) between all)

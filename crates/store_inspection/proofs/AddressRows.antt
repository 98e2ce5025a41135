-- That no two records have one address, by the texts that a walk shows in their order.
use Rattle.std.proofs.Common.{◌≡◌, ◌↔◌, ◌∷◌, Ordering}
use Rattle.text_core.proofs.Kit.{ℕ, Bool, true, false, cond, List, [], Some, None, map, filter, refl, sym, ap, ap₂, subst, ◌∙◌, IsPermutation}
use Rattle.text_core.proofs.Kit.{is_ge, is_gt, bytes_eq, IsSorted, nat_cmp, on, IsTotalOrder, slice_cmp, AllByRecursion, cons_option, dedup_from, filter_map}
use Rattle.text_core.proofs.Kit.{on_total, then_total, nat_list_cmp_total, nat_list_eq_equiv, IsStrictlySortedBy-dedup, IsPermutation-map, IsPermutation-sym}
use Rattle.text_core.proofs.Kit.{IsDistinct-from_sorted, IsDistinct-IsPermutation, is_eq-slice_cmp, and-true}
use Rattle.std.specs.List.{IsDistinct}
use Rattle.std.specs.List.Sorted.{IsStrictlySortedBy}
use Rattle.office_sql.proofs.Kit.{Value, Null, Int, Real, Binary, Row, column, bytes, is_true, overlay, key_cmp, output, output_cmp, end, IsAnswer, Term, col}
use Rattle.office_sql.proofs.Kit.{op2, lit, Trees, ascending_from_sorted, sorted_from_ascending, IsSorted-from_map, Compare, Ge, all-permutation, ascending-map}
use Rattle.office_sql.proofs.Kit.{Key, ascending, value_cmp_total, value_cmp-Text, then-Equal}
use Rattle.sqlite.specs.declared.types.Value.TheVariants.{Text as Words, Blob as Bytes}
use Rattle.sqlite.specs.Ops.{binary}
use Rattle.sqlite.specs.Query.{Query}
use Rattle.sqlite.specs.Listing.{understood}
use Rattle.sqlite_keyed.proofs.ListLemmas.{map-map}
use Rattle.sqlite_tied.specs.Compute.{everything}
use Rattle.office_sql.specs.Prelude.{rows_in, tree_of, given, over, env, passes, scan, IsTextIf, text_if, text_value}
use Rattle.office_sql.proofs.Kept.{narrowed}
use Rattle.office_sql.proofs.LedgerAsked.{IsReadAs}
use Rattle.office_sql.proofs.Scan.{Scanned, scanned}
use Rattle.office_sql.proofs.Values.{texts_cmp, level_total, told}
use Rattle.store_inspection.proofs.Types.{Version, V1a}
use Rattle.store_inspection.specs.Prelude.{address_texts, HasApartAddresses, HasNoRepeat, schema_of}
use Rattle.store_inspection.specs.declared.addresses.TheConstants.{SELECT_ADDRESSES}

-- ---- the text

-- from the empty text on there is each text, and no NULL
abbrev pub is_there : Term
is_there = op2 (Compare Ge Binary) (col 1 6) (lit (Words []))

abbrev pub by_address : List (Term × Key)
by_address = (col 1 6, ascending Binary) ∷ []

abbrev pub addresses_body : Query
addresses_body = scan (tree_of given) (is_there ∷ []) (col 1 6 ∷ []) by_address

pub addresses_read : (version : Version) → IsReadAs (schema_of version) SELECT_ADDRESSES.now addresses_body
unfolding understood everything
addresses_read V1a = record { names = _; is = refl; plain = (refl, refl); unlisted = refl; bare = λ schema base. refl }
addresses_read _ = record { names = _; is = refl; plain = (refl, refl); unlisted = refl; bare = λ schema base. refl }

-- ---- the rows that pass have a text

abbrev text : Row → List ℕ
text r = bytes (column r 6)

abbrev IsWords : Row → Type 0
IsWords r = column r 6 ≡ Words (text r)

reaches : (t : List ℕ) → is_ge (slice_cmp nat_cmp t []) ≡ true
reaches [] = refl
reaches (x ∷ t) = refl

words_are : (t : List ℕ) → is_true (binary (Compare Ge Binary) (Words t) (Words [])) ≡ true
unfolding binary
words_are t = told _ ∙ ap is_ge (value_cmp-Text t []) ∙ reaches t

null_is_not : is_true (binary (Compare Ge Binary) Null (Words [])) ≡ false
unfolding binary
null_is_not = refl

abbrev found : Value → Bool
found v = is_true (binary (Compare Ge Binary) v (Words []))

abbrev passed : Row → Bool
passed r = passes (is_there ∷ []) [] r

is_passed : (r : Row) (t : List ℕ) → Words t ≡ column r 6 → passed r ≡ true
is_passed r t is = and-true _ ∙ ap found (sym is) ∙ words_are t

is_left : (r : Row) → Null ≡ column r 6 → passed r ≡ false
is_left r is = and-true _ ∙ ap found (sym is) ∙ null_is_not

-- a row that has a text, or none
module _ (r : Row) (texts : List (List ℕ)) (rows : List Row) (later : texts ≡ map text rows) where
  one_shown : (v : Value) → v ≡ column r 6 → v ≡ text_value (text_if v)
      → cons_option (text_if (column r 6)) texts ≡ map text (cond (passed r) (r ∷ rows) rows)
  one_shown Null is typed =
      ap (λ v. cons_option (text_if v) texts) (sym is) ∙ later ∙ sym (ap (λ b. map text (cond b (r ∷ rows) rows)) (is_left r is))
  one_shown (Words t) is typed =
      ap (λ v. cons_option (text_if v) texts) (sym is) ∙ ap₂ ◌∷◌ (ap bytes is) later
      ∙ sym (ap (λ b. map text (cond b (r ∷ rows) rows)) (is_passed r t is))
  one_shown _ is typed = absurd (let e = typed in cc)

-- the texts of the rows that pass are those of the rows that have one
shown_texts : (rows : List Row) → AllByRecursion (IsTextIf 6) rows
    → filter_map (λ r. text_if (column r 6)) rows ≡ map text (filter (passes (is_there ∷ []) []) rows)
shown_texts [] typed = refl
shown_texts (r ∷ rows) typed = one_shown r _ (filter passed rows) (shown_texts rows typed.1) (column r 6) refl typed.0

one_typed : (r : Row) (rows : List Row) → AllByRecursion IsWords rows → (v : Value) → v ≡ column r 6 → v ≡ text_value (text_if v)
    → AllByRecursion IsWords (cond (passed r) (r ∷ rows) rows)
one_typed r rows later Null is typed = subst (λ b. AllByRecursion IsWords (cond b (r ∷ rows) rows)) (sym (is_left r is)) later
one_typed r rows later (Words t) is typed =
    subst (λ b. AllByRecursion IsWords (cond b (r ∷ rows) rows)) (sym (is_passed r t is)) (sym is ∙ ap (λ v. Words (bytes v)) is, later)
one_typed r rows later _ is typed = absurd (let e = typed in cc)

typed_texts : (rows : List Row) → AllByRecursion (IsTextIf 6) rows → AllByRecursion IsWords (filter (passes (is_there ∷ []) []) rows)
typed_texts [] typed = tt
typed_texts (r ∷ rows) typed = one_typed r (filter passed rows) (typed_texts rows typed.1) (column r 6) refl typed.0

-- ---- rows that ascend have no repeat where their texts are distinct

abbrev head_text : Row → List ℕ
head_text r = bytes (column r 0)

kept_whole : (last : Row) (rows : List Row) → HasNoRepeat (Some last) rows
    → dedup_from bytes_eq (head_text last) (map head_text rows) ≡ head_text last ∷ map head_text rows
kept_whole last [] h = refl
kept_whole last (r ∷ rows) h =
    ap (λ b. cond b (dedup_from bytes_eq (head_text last) (map head_text rows)) (head_text last ∷ dedup_from bytes_eq (head_text r) (map head_text rows))) h.0
    ∙ ap (λ l. head_text last ∷ l) (kept_whole r rows h.1)

distinct_after : (texts : List (List ℕ)) → IsStrictlySortedBy (slice_cmp nat_cmp) texts → IsDistinct bytes_eq texts
distinct_after texts rises =
    subst (λ (e : List ℕ → List ℕ → Bool). IsDistinct e texts) (λ i x y. is_eq-slice_cmp x y i)
    (IsDistinct-from_sorted (slice_cmp nat_cmp) texts rises)

distinct_of : (rows : List Row) → IsSorted (slice_cmp nat_cmp) (map head_text rows) → HasNoRepeat None rows → IsDistinct bytes_eq (map head_text rows)
unfolding IsDistinct
distinct_of [] sorted h = tt
distinct_of (r ∷ rows) sorted h =
    distinct_after _ (subst (IsStrictlySortedBy (slice_cmp nat_cmp)) (kept_whole r rows h.1)
    (IsStrictlySortedBy-dedup nat_list_cmp_total (λ x y. sym (is_eq-slice_cmp x y)) (map head_text (r ∷ rows)) sorted))

unrepeated : (last : Row) (rows : List Row) → IsDistinct bytes_eq (head_text last ∷ map head_text rows) → HasNoRepeat (Some last) rows
unfolding IsDistinct
unrepeated last [] h = tt
unrepeated last (r ∷ rows) h = (nat_list_eq_equiv.symm (head_text r) (head_text last) ∙ h.0.0, unrepeated r rows h.1)

never_repeated : (rows : List Row) → IsDistinct bytes_eq (map head_text rows) → HasNoRepeat None rows
never_repeated [] h = tt
never_repeated (r ∷ rows) h = (refl, unrepeated r rows h)

-- ---- an answer ascends

abbrev by_text : Row → Row → Ordering
by_text = on (λ r. column r 6 ∷ []) (key_cmp 0 (ascending Binary ∷ []))

by_text_total : IsTotalOrder by_text
by_text_total = on_total (λ r. column r 6 ∷ []) (then_total (on_total (λ r. column r 0) value_cmp_total) level_total)

texts_rise : (kept : List Row) → AllByRecursion IsWords kept → IsSorted by_text kept → IsSorted (slice_cmp nat_cmp) (map text kept)
texts_rise kept typed sorted =
    let up = narrowed IsWords _ (λ a b. is_gt (slice_cmp nat_cmp (text a) (text b)) ≡ false)
    (λ a b s t up. sym (ap is_gt (then-Equal _ ∙ texts_cmp (column a 6) (column b 6) s t)) ∙ up) kept typed
    (ascending_from_sorted by_text by_text_total kept sorted) in
    sorted_from_ascending (slice_cmp nat_cmp) nat_list_cmp_total _ (ascending-map (λ a b. is_gt (slice_cmp nat_cmp a b) ≡ false) text kept up)

-- the rows that are shown have no repeat where the addresses are apart, and only then
pub shows_apart : (db : Trees) (rows : List Row) → AllByRecursion (IsTextIf 6) (rows_in db given) → IsAnswer addresses_body (overlay db []) [] rows
    → HasNoRepeat None rows ↔ HasApartAddresses db
shows_apart db rows typed a =
    let s : Scanned (is_there ∷ []) (col 1 6 ∷ []) by_address [] (rows_in db given) rows =
    scanned (overlay db []) [] 11 (is_there ∷ []) (col 1 6 ∷ []) by_address [] rows a in
    let q = over end [] (col 1 6 ∷ []) by_address in
    let words = all-permutation IsWords _ s.kept s.same (typed_texts (rows_in db given) typed) in
    let sorted : IsSorted by_text s.kept = IsSorted-from_map (output_cmp q) (λ r. output q (env [] r)) s.kept s.sorted in
    let heads : map head_text rows ≡ map text s.kept = ap (map head_text) s.shows ∙ map-map head_text (λ r. column r 6 ∷ []) s.kept in
    let rises = subst (IsSorted (slice_cmp nat_cmp)) (sym heads) (texts_rise s.kept words sorted) in
    let mixed : IsPermutation (address_texts db) (map head_text rows) =
    subst (IsPermutation (address_texts db)) (sym heads)
    (subst (λ l. IsPermutation l (map text s.kept)) (sym (shown_texts (rows_in db given) typed)) (IsPermutation-map text _ _ s.same)) in (
      λ none. IsDistinct-IsPermutation bytes_eq nat_list_eq_equiv.symm _ _ (IsPermutation-sym _ _ mixed) (distinct_of rows rises none),
      λ apart. never_repeated rows (IsDistinct-IsPermutation bytes_eq nat_list_eq_equiv.symm _ _ mixed apart),
    )

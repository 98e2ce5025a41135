-- What the text that reads the text of the site means, and shows.
use Rattle.std.proofs.Common.{◌≡◌, ◌↔◌, ℕ, Bool, true, false, true≢false, IsTrue, List, [], ◌∷◌, map, refl, sym, ap, subst, ◌∙◌, IsPermutation, bytes_eq}
use Rattle.std.proofs.lemmas.Slice.Eq.{bytes_eq-Decides}
use Rattle.std.proofs.lemmas.List.Sorted.{IsPermutation-map, IsPermutation-sym}
use Rattle.sqlite.specs.declared.types.Value.TheVariants.{Text as Words}
use Rattle.office_sql.proofs.Kit.{Row, column, Trees, Term, col, Binary, overlay, IsAnswer, one_permutation, Key, ascending, all_of, filter_all}
use Rattle.sqlite.specs.Listing.{understood}
use Rattle.sqlite_tied.specs.Compute.{everything}
use Rattle.office_sql.specs.Prelude.{site_texts, passes, scan, office_schema, rows_in, tree_of}
use Rattle.office_sql.proofs.LedgerAsked.{IsReadAs}
use Rattle.office_sql.proofs.Scan.{Scanned, scanned}
use Rattle.store_inspection.specs.Prelude.{HoldsSiteText, IsOnlyText, ShowSiteTexts}
use Rattle.store_inspection.specs.declared.site_text.TheConstants.{SELECT_SITE_TEXT}

abbrev pub body_shown : List Term
body_shown = col 1 0 ∷ col 1 2 ∷ []

abbrev pub by_row_id : List (Term × Key)
by_row_id = (col 1 0, ascending Binary) ∷ []

pub body_read : IsReadAs office_schema SELECT_SITE_TEXT.now (scan (tree_of site_texts) [] body_shown by_row_id)
unfolding understood everything
body_read = record { names = _; is = refl; plain = (refl, refl); unlisted = refl; bare = λ schema base. refl }

-- what is shown of a row
abbrev shown : Row → Row
shown r = column r 0 ∷ column r 2 ∷ []

-- each row, in some order
shows_rows : (all rows : List Row) → Scanned [] body_shown by_row_id [] all rows → IsPermutation (map shown all) rows
shows_rows all rows s =
    let every = filter_all (passes [] []) all (all_of (λ r. passes [] [] r ≡ true) (λ r. refl) all) in
    let same = subst (λ l. IsPermutation l s.kept) every s.same in
    subst (IsPermutation (map shown all)) (sym s.shows) (IsPermutation-map shown _ _ same)

-- what is read of the text is what the store has
pub shows_site_texts : (db : Trees) (rows : List Row) → IsAnswer (scan (tree_of site_texts) [] body_shown by_row_id) (overlay db []) [] rows
    → ShowSiteTexts db rows
shows_site_texts db rows a = shows_rows (rows_in db site_texts) rows (scanned (overlay db []) [] (tree_of site_texts) [] body_shown by_row_id [] rows a)

-- ---- the text that is held is the one that is shown

-- the rows are one, of which this is shown
abbrev IsOf : List Row → Row → Type 0
IsOf all row = (r : Row) × (all ≡ r ∷ []) × (shown r ≡ row)

one_shown : (all : List Row) (row : Row) → map shown all ≡ row ∷ [] → IsOf all row
one_shown [] row is = absurd (let none = is in cc)
one_shown (r ∷ []) row is = (r, refl, cc)
one_shown (r ∷ s ∷ all) row is = absurd (let two = is in cc)

pub shown_text : (text : List ℕ) (db : Trees) (rows : List Row) → ShowSiteTexts db rows → IsOnlyText 1 text rows ↔ HoldsSiteText text db
shown_text text db rows shows = (
  λ only.
      let one = subst (IsPermutation (map shown (rows_in db site_texts))) only.1 shows in
      let it = one_shown (rows_in db site_texts) only.0 (one_permutation only.0 (map shown (rows_in db site_texts)) (IsPermutation-sym _ _ one)) in
      (it.0, it.1, record { id = ap (λ r. column r 0) it.2 ∙ only.2.id; body = ap (λ r. column r 1) it.2 ∙ only.2.body }),
  λ held.
      let one = subst (λ l. IsPermutation (map shown l) rows) held.1 shows in
      (shown held.0, one_permutation (shown held.0) rows one, record { id = held.2.id; body = held.2.body }),
)

-- a store holds one text alone
pub one_text : (text other : List ℕ) (db : Trees) → HoldsSiteText text db → HoldsSiteText other db → text ≡ other
one_text text other db held also =
    let rows = sym held.1 ∙ also.1 in
    let row : held.0 ≡ also.0 = cc in
    let words : Words text ≡ Words other = sym held.2.body ∙ ap (λ r. column r 2) row ∙ also.2.body in
    cc

-- where rows show one text, another is held exactly where it is the same
pub held_if_same : (text other : List ℕ) (db : Trees) (rows : List Row) (same : Bool) → ShowSiteTexts db rows → IsOnlyText 1 text rows
    → same ≡ bytes_eq text other
    → IsTrue same ↔ HoldsSiteText other db
held_if_same text other db rows same shows only is =
    let held = (shown_text text db rows shows).0 only in (
      λ yes. subst (λ t. HoldsSiteText t db) ((bytes_eq-Decides text other).0 (sym is ∙ yes)) held,
      λ also. is ∙ (bytes_eq-Decides text other).1 (one_text text other db held also),
    )

-- where rows don't show a text alone, it isn't held
pub not_held : (text : List ℕ) (db : Trees) (rows : List Row) → ShowSiteTexts db rows → ¬ IsOnlyText 1 text rows → IsTrue false ↔ HoldsSiteText text db
not_held text db rows shows none = (
  λ no. absurd (true≢false (sym no)),
  λ held. absurd (none ((shown_text text db rows shows).1 held)),
)

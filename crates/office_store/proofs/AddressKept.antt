-- Addresses that are apart stay so where the table of records does.
use Rattle.std.proofs.Common.{◌≡◌, ◌∷◌}
use Rattle.text_core.proofs.Kit.{ℕ, List, [], map, length, refl, sym, ap, subst, ◌∙◌, arith, bytes_eq, filter_map, nil_from_length, length_permutation}
use Rattle.std.specs.List.{IsDistinct}
use Rattle.office_sql.proofs.Kit.{Database, column, Trees, sort_by, IsPermutation-sort_by}
use Rattle.office_tables.specs.Prelude.{given_cmp, no_rows, Tables}
use Rattle.office_tables.proofs.TotalOrders.{given_total}
use Rattle.office_sql.specs.Prelude.{rows_in, given, given_in_row, tables_in, text_if}
use Rattle.store_inspection.specs.declared.version.Version.{Version}
use Rattle.office_store.specs.Prelude.{IsGrown, IsUpgrade}
use Rattle.store_inspection.specs.Prelude.{HasApartAddresses}
use Rattle.office_store.proofs.Counts.{first_eight}

-- the table is as it was
pub apart_still : (old new : Trees) → rows_in new given ≡ rows_in old given → HasApartAddresses old → HasApartAddresses new
apart_still old new same apart = subst (λ rows. IsDistinct bytes_eq (filter_map (λ r. text_if (column r 6)) rows)) (sym same) apart

-- an upgrade keeps it
pub apart_upgraded : (version : Version) (text : List ℕ) (old : Trees) (new : Database) → IsUpgrade version text old new
    → HasApartAddresses old → HasApartAddresses new.trees
apart_upgraded version text old new it = apart_still old new.trees (it.rows given (omega (arith, first_eight version)) (λ e. cc))

-- a growth keeps the addresses of records apart
pub apart_grown : (text : List ℕ) (old : Trees) (new : Database) → IsGrown text old new → HasApartAddresses old → HasApartAddresses new.trees
apart_grown text old new it = apart_still old new.trees (it.rows given (λ e. cc) (λ e. cc))

none_made : {A B : Type 0} (f : A → B) (xs : List A) → map f xs ≡ [] → xs ≡ []
none_made f [] is = refl
none_made f (x ∷ xs) is = absurd (let e = is in cc)

-- tables without a record have no address
pub apart_if_none : (db : Trees) → tables_in db ≡ no_rows → HasApartAddresses db
unfolding IsDistinct
apart_if_none db none =
    let sorted = none_made _ (sort_by given_cmp (map given_in_row (rows_in db given))) (ap (λ (t : Tables). t.given) none) in
    let count = length_permutation _ _ (IsPermutation-sort_by given_cmp given_total (map given_in_row (rows_in db given))) in
    let rows = none_made given_in_row (rows_in db given) (nil_from_length _ (count ∙ ap length sorted)) in
    subst (λ rows. IsDistinct bytes_eq (filter_map (λ r. text_if (column r 6)) rows)) (sym rows) tt

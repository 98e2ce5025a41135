-- That no two records have one address, and a walk over the rows of a query that asks for such.
use Rattle.std.specs.Prelude.{◌≡◌, ◌⊎◌, ⊤, ℕ, Bool, false, List, [], ◌∷◌, ◌++◌, Option, Some, None, bytes_eq, IsTrue, filter_map}
use Rattle.std.specs.List.{IsDistinct}
use Rattle.sqlite.specs.Order.{Row, column, bytes}
use Rattle.sqlite.specs.State.{State, Shown, Begins}
use Rattle.sqlite.specs.Tree.{Trees}
use Rattle.office_sql.specs.Prelude.{rows_in, given, text_if}

-- the texts of addresses, of the records that have one
abbrev pub address_texts : Trees → List (List ℕ)
address_texts db = filter_map (λ r. text_if (column r 6)) (rows_in db given)

-- no address stands in two records. What is compared are the texts, as SQL's UNIQUE compares them
abbrev pub HasApartAddresses : Trees → Type 0
HasApartAddresses db = IsDistinct bytes_eq (address_texts db)

-- the row's first column shows what the last row's did
abbrev pub shows_again : Option Row → Row → Bool
shows_again None r = false
shows_again (Some last) r = bytes_eq (bytes (column r 0)) (bytes (column last 0))

-- no row shows again what the one before it showed, the first of them after this last one
abbrev pub HasNoRepeat : Option Row → List Row → Type 0
HasNoRepeat last [] = ⊤
HasNoRepeat last (r ∷ rows) = (shows_again last r ≡ false) × HasNoRepeat (Some r) rows

-- the rows of the answer have no repeat, or rows with which an answer begins have one
abbrev pub HasWalked : List ℕ → State → State → Bool → Type 0
HasWalked sql old new apart =
    (rows : List Row)
    × ((IsTrue apart × Shown sql [] old new rows × HasNoRepeat None rows)
    ⊎ ((apart ≡ false) × Begins sql [] new rows
    × ((more : List Row) → ¬ HasNoRepeat None (rows ++ more))))

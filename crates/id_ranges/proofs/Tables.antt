-- Tables of rows, by their first rows and by how the rows were found.
use Rattle.std.proofs.Common.{◌≡◌, ◌≤◌, ◌<◌, ◌∷◌, ◌&&◌, if◌then◌else◌}
use Rattle.text_core.proofs.Kit.{ℕ, zero, suc, List, [], length, map, take, take_all, length-take, nat_le, Bool, true, false, Option, Some, None, option_map}
use Rattle.text_core.proofs.Kit.{option_and_then, inl, inr, refl, ap, ◌∙◌, arith, cases_Bool, le-leb, leb-true, nat_tests, IsUtf8}
use Rattle.csv.specs.Records.{field_at}
use Rattle.id_ranges.proofs.Texts.{serial_is_text}
use Rattle.text_core.specs.Prelude.{all_of, is_serial, serial_of_text}
use Rattle.text_core.proofs.Lists.{all_of-map}
use Rattle.id_ranges.specs.Prelude.{found_row, with_serial, fields_of_row, is_header, row_with_serial, import_table, two_fields, row_limit}
use Rattle.id_ranges.specs.declared.read.FoundRow.{FoundRow}

-- where the second test fails
both_none : {A : Type 0} (p q r : Bool) (x y : Option A) → q ≡ false → r ≡ false → (if p && q then x else None) ≡ (if p && r then y else None)
both_none true q r x y first second = rw (first, second) refl
both_none false q r x y first second = refl

-- a table that is too long is so by its first rows
pub table_of_first : (rs : List (List (List ℕ))) (most : ℕ) → 501 < most → import_table (take most rs) ≡ import_table rs
table_of_first [] zero h = absurd (omega arith)
table_of_first [] (suc most) h = refl
table_of_first (first ∷ rows) zero h = absurd (omega arith)
table_of_first (first ∷ rows) (suc most) h =
    elim (cases_Bool (nat_le (length rows) row_limit)) [
      | inl fits ↦
          let few : length rows ≤ row_limit = leb-true (length rows) row_limit fits in
          ap (λ front. import_table (first ∷ front)) (take_all most rows (omega arith))
      | inr long ↦
          let cut : nat_le (length (take most rows)) row_limit ≡ false = grind (arith, nat_tests, length-take most rows) in
          both_none (is_header first) _ _ _ _ cut long
    ]

-- a field that is no text is no serial number
pub none-from_not_text : (field : List ℕ) → ¬ (IsUtf8 field) → serial_of_text field ≡ None
none-from_not_text field h =
    elim (cases_Bool (is_serial field)) [
      | inl is ↦ absurd (h (serial_is_text field is))
      | inr not ↦ rw not refl
    ]

-- the two fields, by their places
pub two_fields_at : (fields : List (List ℕ)) → length fields ≡ 2
    → two_fields fields ≡ option_and_then (λ first. option_map (λ second. (first, second)) (field_at fields 1)) (field_at fields 0)
unfolding field_at
two_fields_at [] h = absurd (omega arith)
two_fields_at (only ∷ []) h = absurd (omega arith)
two_fields_at (first ∷ second ∷ []) h = refl
two_fields_at (first ∷ second ∷ third ∷ rest) h = absurd (omega arith)

first_found : (row : Option (List ℕ × List ℕ)) (more : Option (List (List ℕ × List ℕ)))
    → option_and_then (λ y. option_map (λ ys. y ∷ ys) (option_map (map found_row) more)) (option_map found_row row)
    ≡ option_map (map found_row) (option_and_then (λ y. option_map (λ ys. y ∷ ys) more) row)
first_found None more = refl
first_found (Some row) None = refl
first_found (Some row) (Some more) = refl

-- the rows as they are found
pub found_table : (rows : List (List (List ℕ)))
    → all_of (λ row. option_map found_row (fields_of_row row)) rows ≡ option_map (map found_row) (all_of fields_of_row rows)
found_table [] = refl
found_table (row ∷ rows) =
    ap (λ (more : Option (List FoundRow)). option_and_then (λ y. option_map (λ ys. y ∷ ys) more) (option_map found_row (fields_of_row row))) (found_table rows)
    ∙ first_found (fields_of_row row) (all_of fields_of_row rows)

-- their serial numbers
pub found_serials : (table : List (List ℕ × List ℕ)) → all_of with_serial (map found_row table) ≡ all_of row_with_serial table
found_serials table = all_of-map with_serial found_row table

-- the table under a header
pub table_under : (first : List (List ℕ)) (rows : List (List (List ℕ))) → is_header first ≡ true → length rows ≤ row_limit
    → import_table (first ∷ rows) ≡ all_of fields_of_row rows
table_under first rows is few =
    let fits : nat_le (length rows) row_limit ≡ true = le-leb (length rows) row_limit few in
    rw (is, fits) refl

-- what the rows that were found say of a table
pub rows_read : (table : Option (List (List ℕ × List ℕ))) (found : List FoundRow) → Some found ≡ option_map (map found_row) table
    → Some (all_of with_serial found) ≡ option_map (all_of row_with_serial) table
rows_read None found h = cc
rows_read (Some table) found h = let same : found ≡ map found_row table = cc in ap Some (ap (all_of with_serial) same ∙ found_serials table)

-- Whether a text is a serial number of a range, and serial numbers in the order of their bytes.
use Rattle.std.specs.Prelude.{◌≡◌, ℕ, Bool, true, List, [], ◌∷◌, Option, Some, None, bytes_eq, filter, map}
use Rattle.std.specs.List.{list_any}
use Rattle.std.specs.Ordering.{is_lt}
use Rattle.id_ranges.specs.Prelude.{Range, numbers, serial_text}
use Rattle.office_tables.specs.declared.rows.Given.{Given}
use Rattle.office_tables.specs.declared.rows.OfCustomer.{OfCustomer}
use Rattle.office_tables.specs.Prelude.{Tables, is_of_issuer, text_cmp}

-- the text is the serial number of a number of the range
abbrev pub has_serial : Range → List ℕ → Bool
has_serial range serial = list_any (λ n. bytes_eq serial (serial_text range n)) (numbers range)

-- the serial number is greater than the last one, if there was one
abbrev pub follows : Option (List ℕ) → List ℕ → Bool
follows None serial = true
follows (Some last) serial = is_lt (text_cmp last serial)

-- each serial number is greater than the one before, and the first of them than the last one
abbrev pub AreRising : Option (List ℕ) → List (List ℕ) → Type 0
AreRising last [] = Unit {0}
AreRising last (serial ∷ serials) = (follows last serial ≡ true) × AreRising (Some serial) serials

-- the serial numbers of records
abbrev pub serials_in : List (OfCustomer Given) → List (List ℕ)
serials_in rows = map (λ g. g.row.serial) rows

-- the serial numbers that are given in an issuer
abbrev pub serials_of : List ℕ → Tables → List (List ℕ)
serials_of issuer t = serials_in (filter (is_of_issuer issuer) t.given)

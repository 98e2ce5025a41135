-- The indexes by which records of serial numbers and maps are found.
use Rattle.std.specs.Prelude.{◌≡◌, ◌≤◌, ℕ, Bool, true, false, List, length, filter, find, is_some, Option, Some, None, option_map}
use Rattle.std.specs.List.{AllByRecursion}
use Rattle.std.specs.BTreeMap.{BTreeMap, get, get_by_text}
use Rattle.std.specs.BTreeSet.{contains}
use Rattle.std.specs.Ordering.{nat_cmp}
use Rattle.std.specs.declared.string.String.{String}
use Rattle.text_core.specs.Prelude.{is_serial}
use Rattle.office_tables.specs.declared.rows.OfCustomer.{OfCustomer}
use Rattle.office_tables.specs.declared.rows.Given.{Given}
use Rattle.office_tables.specs.declared.rows.MapRow.{MapRow}
use Rattle.office_tables.specs.Prelude.{has_address, has_body, is_bound, is_serial_of, text_pair_cmp}
use Rattle.memory_keeper.specs.declared.given.GivenIndex.{GivenIndex}

-- the serial number that stands for a key of an issuer
abbrev pub serial_of : List ℕ → List ℕ → GivenIndex → Option (List ℕ)
serial_of issuer key i = get text_pair_cmp i.serials (issuer, key)

-- whether the address, if there is one, stands among those that are given
abbrev pub has_mac : Option ℕ → GivenIndex → Bool
has_mac None i = false
has_mac (Some mac) i = contains nat_cmp i.macs mac

-- at most one row passes the test
abbrev pub IsAtMostOne : {A : Type 0} → (A → Bool) → List A → Type 0
IsAtMostOne test rows = length (filter test rows) ≤ 1

-- the indexes are those of the rows, no two of which have a serial number, a key or an address in common
pub record AreIndexed (rows : List (OfCustomer Given)) (i : GivenIndex) : Type 0 where
  pub serials : (issuer key : List ℕ) → serial_of issuer key i ≡ option_map (λ o. o.row.serial) (find (is_bound issuer key) rows)
  pub macs : (mac : ℕ) → has_mac (Some mac) i ≡ is_some (find (has_address mac) rows)
  pub one_serial : (issuer serial : List ℕ) → IsAtMostOne (is_serial_of issuer serial) rows
  pub one_key : (issuer key : List ℕ) → IsAtMostOne (is_bound issuer key) rows
  pub one_mac : (mac : ℕ) → IsAtMostOne (has_address mac) rows
  pub are_serials : AllByRecursion (λ o. is_serial o.row.serial ≡ true) rows

-- each text has the number of its map, and no two maps have a text in common
pub record AreFoundByText {Y : Type 0} (maps : List MapRow) (ids : BTreeMap (String Y) ℕ) : Type 0 where
  pub numbers : (body : List ℕ) → get_by_text ids body ≡ option_map (λ m. m.id) (find (has_body body) maps)
  pub one_text : (body : List ℕ) → IsAtMostOne (has_body body) maps

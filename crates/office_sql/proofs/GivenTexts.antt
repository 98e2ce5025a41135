-- What the texts that read and write given serial numbers mean, show, and do.
use Rattle.std.proofs.Common.{◌≡◌, ◌&&◌, ◌∷◌}
use Rattle.text_core.proofs.Kit.{ℕ, ℤ, Bool, true, false, List, [], map, filter, length, arith, Option, Some, None, refl, sym, ap, ap₂, subst, subst₂, ◌∙◌}
use Rattle.text_core.proofs.Kit.{is_eq, true≢false, list_all, option_map, option_and_then, ordering_then, bytes_eq, eqb-true, eq-eqb, bytes_eq-Decides}
use Rattle.text_core.proofs.Kit.{text_itself, one_truth, and-true}
use Rattle.office_sql.proofs.Kit.{Value, Null, Int, Row, column, bytes, is_true, cast_row, put_row, Binary, Term, lit, col, holds, Database, Trees, Eq, Compare}
use Rattle.office_sql.proofs.Kit.{all_unmap, IsPermutation-sort_by, next_rowid, all-permutation, then-Equal, IsAnswer, overlay}
use Rattle.sqlite.specs.declared.types.Value.TheVariants.{Text as Words, Blob as Bytes}
use Rattle.sqlite.specs.Ops.{binary}
use Rattle.sqlite.specs.Listing.{understood}
use Rattle.sqlite_tied.specs.Compute.{everything}
use Rattle.sqlite_trees.proofs.ListLemmas.{all_weaker}
use Rattle.id_ranges.specs.Prelude.{mac_text, mac_of_text}
use Rattle.id_ranges.proofs.MacTexts.{mac_text_only}
use Rattle.office_sql.proofs.Types.{OfCustomer, Given, AddGiven}
use Rattle.office_tables.specs.Prelude.{is_given_behind}
use Rattle.office_tables.specs.Prelude.{IsFree, IsAddressFree, is_address, has_address, given_cmp, is_serial_of, is_bound, is_of_issuer, with_row}
use Rattle.office_tables.proofs.Finding.{none_passes}
use Rattle.office_tables.proofs.TotalOrders.{given_total}
use Rattle.office_sql.specs.Prelude.{given, given_starts, SqlAdds, SameBut, Wrote, given_in_row, given_columns, is_validity_of_given, given_start_columns, pair}
use Rattle.office_sql.specs.Prelude.{with_given_not_before, joined_given, is_above_parameter, is_parameter}
use Rattle.office_sql.specs.Prelude.{passes, given_table, given_start_table, office_schema, rows_in}
use Rattle.office_sql.specs.Prelude.{HaveOneValidityRow, IsGivenRow, IsOffice, tables_in, told_in, text_if, text_value, mac_if}
use Rattle.office_sql.proofs.Finding.{texts_same, keys_alike}
use Rattle.office_sql.proofs.Inserting.{IsInsert}
use Rattle.office_sql.proofs.Kept.{found, parts_kept, shows_joined, shows_parts}
use Rattle.office_sql.proofs.Keyed.{Apart}
use Rattle.office_sql.proofs.LedgerAsked.{IsReadAs}
use Rattle.office_sql.proofs.Missing.{text_cast, text_back}
use Rattle.office_sql.proofs.Offices.{both_changed, both_validity_rows, told_stays}
use Rattle.office_sql.proofs.Reading.{IsRead}
use Rattle.office_sql.proofs.RowsWithValidity.{more_with_validity}
use Rattle.office_sql.proofs.Scan.{Scanned}
use Rattle.office_sql.proofs.Stepping.{cast_null}
use Rattle.office_sql.proofs.TableOf.{TableOf, HasValidity, AreRowsAs, by_key, in_order, joined_query, key_fits}
use Rattle.office_sql.proofs.Values.{text_above, text_is, blob_is, texts_cmp}
use Rattle.office_sql.specs.declared.given.TheConstants.{SELECT_GIVEN, SELECT_GIVEN_BY_KEY}
use Rattle.office_sql.specs.declared.given.TheConstants.{SELECT_GIVEN_OF_ISSUER, SELECT_GIVEN_WITH_ADDRESS, SELECT_SERIALS_BEHIND}
use Rattle.office_sql.specs.declared.given.TheConstants.{INSERT_INTO_GIVEN, INSERT_INTO_GIVEN_START}

abbrev pub as_given : TableOf (OfCustomer Given)
as_given = record {
  name = given;
  Typed = IsGivenRow;
  cmp = given_cmp;
  total = given_total;
  value = given_in_row;
  key = 1 ∷ 2 ∷ [];
  compared = λ a b e f. ap₂ ordering_then (texts_cmp (column a 1) (column b 1) e.0 f.0) (then-Equal _ ∙ texts_cmp (column a 2) (column b 2) e.1 f.1);
  from_office = λ rows are. are;
  for_office = λ rows are. are;
}

abbrev pub records_validity : HasValidity as_given
records_validity = record {
  side = given_starts;
  is_for = is_validity_of_given;
  with_text = λ t g. record g { row = record g.row { not_before = t } };
  columns = given_start_columns;
  own = λ g id. ap₂ ◌&&◌ (text_itself g.row.issuer g.row.issuer refl) (text_itself g.row.serial g.row.serial refl);
  unread = λ t u a b. refl;
  ties = λ a b s e f. keys_alike a.row.issuer a.row.serial b.row.issuer b.row.serial (bytes (column s 1)) (bytes (column s 2)) e f;
  fits = λ params r s e f. key_fits params r s e.0 e.1 f;
}

-- ---- what is read

abbrev pub shown : List Term
shown = col 1 1 ∷ col 1 2 ∷ col 1 3 ∷ col 1 4 ∷ col 1 5 ∷ col 1 6 ∷ col 1 7 ∷ col 2 3 ∷ []

abbrev pub at_tests : List Term
at_tests = is_parameter 1 0 ∷ is_parameter 2 1 ∷ []

abbrev pub key_tests : List Term
key_tests = is_parameter 1 0 ∷ is_parameter 4 1 ∷ []

abbrev pub all_test : List Term
all_test = is_parameter 1 0 ∷ []

abbrev pub address_test : List Term
address_test = is_parameter 6 0 ∷ []

pub at_read : IsReadAs office_schema SELECT_GIVEN.now (joined_query as_given records_validity at_tests shown)
unfolding understood everything
at_read = record { names = _; is = refl; plain = (refl, refl); unlisted = refl; bare = λ schema base. refl }

pub key_read : IsReadAs office_schema SELECT_GIVEN_BY_KEY.now (joined_query as_given records_validity key_tests shown)
unfolding understood everything
key_read = record { names = _; is = refl; plain = (refl, refl); unlisted = refl; bare = λ schema base. refl }

pub all_read : IsReadAs office_schema SELECT_GIVEN_OF_ISSUER.now (joined_query as_given records_validity all_test shown)
unfolding understood everything
all_read = record { names = _; is = refl; plain = (refl, refl); unlisted = refl; bare = λ schema base. refl }

pub address_read : IsReadAs office_schema SELECT_GIVEN_WITH_ADDRESS.now (joined_query as_given records_validity address_test shown)
unfolding understood everything
address_read = record { names = _; is = refl; plain = (refl, refl); unlisted = refl; bare = λ schema base. refl }

abbrev pub serial_shown : List Term
serial_shown = col 1 2 ∷ []

-- the issuer is the first parameter, and the serial number is greater than the second
abbrev pub behind_tests : List Term
behind_tests = is_parameter 1 0 ∷ is_above_parameter 2 1 ∷ []

pub serials_read : IsRead office_schema SELECT_SERIALS_BEHIND.now given behind_tests serial_shown (by_key (1 ∷ 2 ∷ []))
unfolding understood everything
serials_read = record { names = _; is = refl; plain = (refl, refl); unlisted = refl; bare = λ schema base. refl; there = λ db. refl }

-- what is read of the rows that it shows
pub serials_shown : (issuer serial : List ℕ) (db : Database) → IsOffice db → (rows : List Row)
    → Scanned behind_tests serial_shown (by_key (1 ∷ 2 ∷ [])) (Words issuer ∷ Words serial ∷ []) (rows_in db.trees given) rows
    → map (λ r. bytes (column r 0)) rows ≡ map (λ g. g.row.serial) (filter (is_given_behind issuer serial) (tables_in db.trees).given)
serials_shown issuer serial db office rows s =
    let p = is_given_behind issuer serial in
    let params : Row = Words issuer ∷ Words serial ∷ [] in
    let passed : (r : Row) → IsGivenRow r → passes behind_tests params r ≡ p (given_in_row r) =
    λ r e. ap₂ ◌&&◌ (text_is (column r 1) issuer e.0) (and-true _ ∙ text_above (column r 2) serial e.1) in
    shows_parts as_given p behind_tests params passed serial_shown (λ r. bytes (column r 0)) (λ g. g.row.serial) (λ r. refl) (λ a b. refl)
    (rows_in db.trees given) rows (office.rows given) s
    ∙ parts_kept as_given p behind_tests params passed (λ g. g.row.serial) (with_given_not_before (rows_in db.trees given_starts)) (λ g. refl) (λ g. refl)
    (in_order as_given (rows_in db.trees given))

-- records have one key where their issuers and their serial numbers are equal
pub given_tied : (x y : OfCustomer Given) → is_eq (given_cmp x y) ≡ is_serial_of x.row.issuer x.row.serial y
given_tied x y = texts_same x.row.issuer x.row.serial y.row.issuer y.row.serial

-- what is read of the rows that a query of whole records shows
abbrev ShowsGiven : List Term → Row → (OfCustomer Given → Bool) → Type 0
ShowsGiven tests params p =
    (db : Database) → IsOffice db → (rows : List Row) → IsAnswer (joined_query as_given records_validity tests shown) (overlay db.trees []) params rows
    → map joined_given rows ≡ filter p (tables_in db.trees).given

-- the tests read the first table alone
shows_given : (tests : List Term) (params : Row) (p : OfCustomer Given → Bool)
    → ((r : Row) → IsGivenRow r → passes tests params r ≡ p (given_in_row r))
    → ((u : Option (List ℕ)) (g : OfCustomer Given) → p (records_validity.with_text u g) ≡ p g)
    → ((r s : Row) → list_all (holds (pair params r s)) tests ≡ passes tests params r) → ShowsGiven tests params p
shows_given tests params p is same blind db office rows =
    shows_joined as_given p tests params is records_validity shown joined_given same blind (λ r s. refl) (λ a b s u. refl)
    (overlay db.trees []) rows (office.rows given) office.given_validity

pub at_shown : (issuer serial : List ℕ) → ShowsGiven at_tests (Words issuer ∷ Words serial ∷ []) (is_serial_of issuer serial)
at_shown issuer serial =
    shows_given at_tests _ (is_serial_of issuer serial) (λ r e. ap₂ ◌&&◌ (text_is (column r 1) issuer e.0) (and-true _ ∙ text_is (column r 2) serial e.1))
    (λ u g. refl) (λ r s. refl)

pub key_shown : (issuer key : List ℕ) → ShowsGiven key_tests (Words issuer ∷ Bytes key ∷ []) (is_bound issuer key)
key_shown issuer key =
    shows_given key_tests _ (is_bound issuer key) (λ r e. ap₂ ◌&&◌ (text_is (column r 1) issuer e.0) (and-true _ ∙ blob_is (column r 4) key e.2))
    (λ u g. refl) (λ r s. refl)

pub all_shown : (issuer : List ℕ) → ShowsGiven all_test (Words issuer ∷ []) (is_of_issuer issuer)
all_shown issuer = shows_given all_test _ (is_of_issuer issuer) (λ r e. and-true _ ∙ text_is (column r 1) issuer e.0) (λ u g. refl) (λ r s. refl)

-- ---- the rows with an address

-- a text is that of an address where it reads as the address
same_address : (mac : ℕ) (text t : List ℕ) → mac_of_text text ≡ Some mac → bytes_eq text t ≡ is_address mac (mac_of_text t)
same_address mac text t is = one_truth _ _ to from
  where
    to : bytes_eq text t ≡ true → is_address mac (mac_of_text t) ≡ true
    to e = ap (is_address mac) (sym (ap mac_of_text ((bytes_eq-Decides text t).0 e)) ∙ is) ∙ eq-eqb mac mac refl

    own_is : (o : Option ℕ) → is_address mac o ≡ true → o ≡ Some mac
    own_is None e = absurd (true≢false (sym e))
    own_is (Some own) e = ap Some (sym (eqb-true mac own e))

    from : is_address mac (mac_of_text t) ≡ true → bytes_eq text t ≡ true
    from e = (bytes_eq-Decides text t).1 (mac_text_only text mac is ∙ sym (mac_text_only t mac (own_is _ e)))

null_is : (t : List ℕ) → is_true (binary (Compare Eq Binary) Null (Words t)) ≡ false
unfolding binary
null_is t = refl

mac_is : (mac : ℕ) (text : List ℕ) (v : Value) → mac_of_text text ≡ Some mac
    → v ≡ text_value (text_if v)
    → is_true (binary (Compare Eq Binary) v (Words text)) ≡ is_address mac (mac_if v)
mac_is mac text v is e = go (text_if v) refl
  where
    go : (o : Option (List ℕ)) → text_if v ≡ o → is_true (binary (Compare Eq Binary) v (Words text)) ≡ is_address mac (option_and_then mac_of_text (text_if v))
    go None h = ap (λ w. is_true (binary (Compare Eq Binary) w (Words text))) (e ∙ ap text_value h)
        ∙ null_is text ∙ sym (ap (λ o. is_address mac (option_and_then mac_of_text o)) h)
    go (Some t) h =
        let words : v ≡ Words t = e ∙ ap text_value h in
        text_is v text (words ∙ sym (ap (λ w. Words (bytes w)) words))
        ∙ ap (λ w. bytes_eq text (bytes w)) words ∙ same_address mac text t is
        ∙ sym (ap (λ o. is_address mac (option_and_then mac_of_text o)) h)

pub address_shown : (mac : ℕ) (text : List ℕ) → mac_of_text text ≡ Some mac → ShowsGiven address_test (Words text ∷ []) (has_address mac)
address_shown mac text is =
    shows_given address_test _ (has_address mac) (λ r e. and-true _ ∙ mac_is mac text (column r 6) is e.3) (λ u g. refl) (λ r s. refl)

-- where no row is shown, no record has the address
pub none_shown : (address : Option ℕ) (rows : List Row) (l : List (OfCustomer Given))
    → length rows ≡ 0
    → ((mac : ℕ) → address ≡ Some mac → map joined_given rows ≡ filter (has_address mac) l)
    → IsAddressFree address l
none_shown None rows l empty is = tt
none_shown (Some mac) [] l empty is = sym (found joined_given (has_address mac) l [] (is mac refl))
none_shown (Some mac) (r ∷ rows) l empty is = absurd (omega arith)

-- ---- a new record, and its beginning of validity

abbrev pub add_terms : List Term
add_terms = lit Null ∷ col 0 0 ∷ col 0 1 ∷ col 0 2 ∷ col 0 3 ∷ col 0 4 ∷ col 0 5 ∷ col 0 6 ∷ []

pub add_insert : IsInsert office_schema INSERT_INTO_GIVEN.now given add_terms 8
unfolding understood everything
add_insert = record { means = record { is = refl; plain = (refl, refl); there = refl; uncounted = refl; unstamped = refl }; one = λ params. refl }

pub add_casts : (g : OfCustomer Given) → cast_row given_table (Null ∷ given_columns g) ≡ Null ∷ given_columns g
add_casts g = rw (cast_null, text_cast g.row.chip, text_cast (option_map mac_text g.row.mac)) refl

abbrev pub validity_terms : List Term
validity_terms = lit Null ∷ col 0 0 ∷ col 0 1 ∷ col 0 2 ∷ []

pub validity_insert : IsInsert office_schema INSERT_INTO_GIVEN_START.now given_starts validity_terms 4
unfolding understood everything
validity_insert = record { means = record { is = refl; plain = (refl, refl); there = refl; uncounted = refl; unstamped = refl }; one = λ params. refl }

pub validity_casts : (g : OfCustomer Given) → cast_row given_start_table (Null ∷ given_start_columns g) ≡ Null ∷ given_start_columns g
validity_casts g = rw (cast_null, text_cast g.row.not_before) refl

-- a record and its beginning leave what the database tells of itself
told_after : (old mid new : Trees) → SameBut given old mid → SameBut given_starts mid new → told_in new ≡ told_in old
told_after old mid new adds side = told_stays given_starts mid new (λ e. cc) (λ e. cc) side ∙ told_stays given old mid (λ e. cc) (λ e. cc) adds

module _ (g : OfCustomer Given) (address : option_and_then mac_of_text (option_map mac_text g.row.mac) ≡ g.row.mac) where
  given_back : (id own : ℤ)
      → records_validity.with_text (text_if (column (Int own ∷ given_start_columns g) 3)) (given_in_row (Int id ∷ given_columns g)) ≡ g
  given_back id own i =
      record g {
        row = record g.row {
          chip = text_back g.row.chip i;
          mac = (ap (option_and_then mac_of_text) (text_back (option_map mac_text g.row.mac)) ∙ address) i;
          not_before = text_back g.row.not_before i;
        };
      }

  -- a record that was added, with its validity row
  pub given_wrote : (old mid new : Database) → IsOffice old → IsFree (AddGiven g) (tables_in old.trees) → IsAddressFree g.row.mac (tables_in old.trees).given
      → SqlAdds given (given_columns g) old mid → SqlAdds given_starts (given_start_columns g) mid new → Wrote (AddGiven g) old new
  given_wrote old mid new office free alone adds side =
      let rows = rows_in old.trees given in
      let validities = rows_in old.trees given_starts in
      let id = next_rowid rows in
      let own = next_rowid validities in
      let others = all-permutation (λ y. is_serial_of g.row.issuer g.row.serial y ≡ false) _ _
      (IsPermutation-sort_by given_cmp given_total (map given_in_row rows))
      (all_unmap (λ y. is_serial_of g.row.issuer g.row.serial y ≡ false) (with_given_not_before validities) _ (none_passes _ _ free)) in
      let apart = all_weaker _ (Apart given_cmp given_total (given_in_row (Int id ∷ given_columns g))) (λ y e. given_tied g y ∙ e)
      (map given_in_row rows) others in
      let more = more_with_validity as_given records_validity (given_columns g) (given_start_columns g) rows validities (office.rows given)
      office.given_validity (refl, refl, refl, sym (ap text_value (text_back (option_map mac_text g.row.mac)))) (refl, refl)
      (records_validity.own g own) apart in
      let after : rows_in new.trees given_starts ≡ put_row (Int own ∷ given_start_columns g) validities =
      side.row ∙ ap (λ l. put_row (Int (next_rowid l) ∷ given_start_columns g) l) (adds.others given_starts (λ e. cc)) in
      let it = both_changed old new office side.schema side.sound given given_starts mid.trees adds.others
      side.others (subst (AreRowsAs as_given) (sym adds.row) more.are) tt
      ((both_validity_rows old office).0, subst₂ (HaveOneValidityRow is_validity_of_given given_in_row) (sym adds.row) (sym after) more.validity) in
      let all = ap₂ (λ l k. map (with_given_not_before k) (in_order as_given l)) adds.row after
      ∙ more.placed_is ∙ ap (λ x. with_row given_cmp x (tables_in old.trees).given) (given_back id own) in
      record {
        office = it.0;
        made = (alone, it.1 ∙ ap (λ l. record (tables_in old.trees) { given = l }) all);
        rows = (mid, adds, side);
        told = told_after old.trees mid.trees new.trees adds.others side.others;
      }

-- What the texts that read and write devices mean, show, and make of the tables.
use Rattle.std.proofs.Common.{◌≡◌, ◌<◌, ◌+◌, ◌++◌, get_or, ◌&&◌, ◌∷◌}
use Rattle.text_core.proofs.Kit.{inl, inr, ℕ, ℤ, true, List, [], map, take, filter, length, None, Some, Ok, refl, sym, ap, ap₂, ◌∙◌, arith, option_map}
use Rattle.text_core.proofs.Kit.{unwrap_or}
use Rattle.text_core.proofs.Kit.{Bool, ordering_then, take_more, map-append, and-true, and_parts, same_text, tied_itself}
use Rattle.office_sql.proofs.Kit.{Value, Null, Int, Row, column, bytes, Term, lit, col, eval_all, output, output_cmp, Database, cast, State, Executes, cast_row}
use Rattle.office_sql.proofs.Kit.{next_rowid, then-Equal}
use Rattle.sqlite.specs.declared.types.Value.TheVariants.{Text as Words, Blob as Bytes}
use Rattle.sqlite.specs.Kind.TheVariants.{Text as TextKind}
use Rattle.sqlite.specs.Listing.{understood}
use Rattle.sqlite_tied.specs.Compute.{everything}
use Rattle.sqlite_trees.proofs.ListLemmas.{map-map}
use Rattle.office_tables.specs.Prelude.{state_row, reason_text, state_of_texts, device_cmp, is_device, is_device_behind, is_of, IsFree}
use Rattle.office_sql.proofs.Types.{OfCustomer, Device, DeviceState, AddDevice, PutDevice}
use Rattle.office_tables.proofs.TotalOrders.{device_total}
use Rattle.office_sql.specs.Prelude.{devices, SqlAdds, Wrote, device_in_row, device_columns, device_table, office_schema, rows_in, is_parameter, passes}
use Rattle.office_sql.specs.Prelude.{is_above_parameter, env, order_state, order_state_in, IsDeviceRow, IsOffice, tables_in, state_in, text_if, text_value}
use Rattle.office_sql.proofs.Finding.{keys_tied, texts_same}
use Rattle.office_sql.proofs.Inserting.{IsInsert}
use Rattle.office_sql.proofs.Kept.{shows_kept, kept_is, Shows}
use Rattle.office_sql.proofs.Lists.{sorted_kept}
use Rattle.office_sql.proofs.Missing.{text_back, text_cast}
use Rattle.office_sql.proofs.Putting.{IsAlone, row_put, row_set, unfound_apart}
use Rattle.office_sql.proofs.Reading.{IsRead}
use Rattle.office_sql.proofs.Replacing.{IsUpdate, IsSet, remade, sets}
use Rattle.office_sql.proofs.Scan.{Scanned}
use Rattle.office_sql.proofs.Stepping.{cast_null, cast_int}
use Rattle.office_sql.proofs.TableOf.{TableOf, AreRowsAs, by_key, in_order, shown_by_key}
use Rattle.office_sql.proofs.Values.{text_above, text_is, texts_cmp}
use Rattle.office_sql.specs.declared.devices.TheConstants.{SELECT_DEVICE, SELECT_DEVICES, SELECT_DEVICES_BEHIND, SELECT_STATES, INSERT_INTO_DEVICE}
use Rattle.office_sql.specs.declared.devices.TheConstants.{UPDATE_OF_DEVICE}

abbrev pub as_devices : TableOf (OfCustomer Device)
as_devices = record {
  name = devices;
  Typed = IsDeviceRow;
  cmp = device_cmp;
  total = device_total;
  value = device_in_row;
  key = 1 ∷ 2 ∷ [];
  compared = λ a b e f. ap₂ ordering_then (texts_cmp (column a 1) (column b 1) e.0 f.0) (then-Equal _ ∙ texts_cmp (column a 2) (column b 2) e.1 f.1);
  from_office = λ rows are. are;
  for_office = λ rows are. are;
}

alone : IsAlone as_devices
alone = record { validity = λ rows all both. both; told = (λ e. cc, λ e. cc) }

-- ---- what is read

abbrev pub shown : List Term
shown = col 1 1 ∷ col 1 2 ∷ col 1 3 ∷ col 1 4 ∷ col 1 5 ∷ col 1 6 ∷ col 1 7 ∷ col 1 8 ∷ col 1 9 ∷ col 1 10 ∷ []

abbrev pub one_tests : List Term
one_tests = is_parameter 1 0 ∷ is_parameter 2 1 ∷ []

abbrev pub own_test : List Term
own_test = is_parameter 1 0 ∷ []

-- the customer is the first parameter, and the chip is greater than the second
abbrev pub behind_tests : List Term
behind_tests = is_parameter 1 0 ∷ is_above_parameter 2 1 ∷ []

abbrev pub states_shown : List Term
states_shown = col 1 3 ∷ col 1 5 ∷ col 1 6 ∷ []

pub one_read : IsRead office_schema SELECT_DEVICE.now devices one_tests shown (by_key (1 ∷ 2 ∷ []))
unfolding understood everything
one_read = record { names = _; is = refl; plain = (refl, refl); unlisted = refl; bare = λ schema base. refl; there = λ db. refl }

pub own_read : IsRead office_schema SELECT_DEVICES.now devices own_test shown (by_key (1 ∷ 2 ∷ []))
unfolding understood everything
own_read = record { names = _; is = refl; plain = (refl, refl); unlisted = refl; bare = λ schema base. refl; there = λ db. refl }

pub behind_read : IsRead office_schema SELECT_DEVICES_BEHIND.now devices behind_tests shown (by_key (1 ∷ 2 ∷ []))
unfolding understood everything
behind_read = record { names = _; is = refl; plain = (refl, refl); unlisted = refl; bare = λ schema base. refl; there = λ db. refl }

pub states_read : IsRead office_schema SELECT_STATES.now devices own_test states_shown (by_key (1 ∷ 2 ∷ []))
unfolding understood everything
states_read = record { names = _; is = refl; plain = (refl, refl); unlisted = refl; bare = λ schema base. refl; there = λ db. refl }

passes_device : (c n : List ℕ) (r : Row) → IsDeviceRow r → passes one_tests (Words c ∷ Words n ∷ []) r ≡ is_device c n (device_in_row r)
passes_device c n r e = ap₂ ◌&&◌ (text_is (column r 1) c e.0) (and-true _ ∙ text_is (column r 2) n e.1)

passes_own : (c : List ℕ) (r : Row) → IsDeviceRow r → passes own_test (Words c ∷ []) r ≡ is_of c (device_in_row r)
passes_own c r e = and-true _ ∙ text_is (column r 1) c e.0

-- what is read of the rows that a query of whole devices shows
abbrev ShowsDevices : List Term → Row → (OfCustomer Device → Bool) → Type 0
ShowsDevices tests params p = Shows as_devices tests shown params (λ r. device_in_row (Null ∷ r)) p

shows_devices : (tests : List Term) (params : Row) (p : OfCustomer Device → Bool)
    → ((r : Row) → IsDeviceRow r → passes tests params r ≡ p (device_in_row r)) → ShowsDevices tests params p
shows_devices tests params p is = shows_kept as_devices p tests params is shown (λ r. device_in_row (Null ∷ r)) (λ r. refl) (λ a b. refl)

pub one_shown : (c n : List ℕ) → ShowsDevices one_tests (Words c ∷ Words n ∷ []) (is_device c n)
one_shown c n = shows_devices one_tests _ (is_device c n) (passes_device c n)

pub own_shown : (c : List ℕ) → ShowsDevices own_test (Words c ∷ []) (is_of c)
own_shown c = shows_devices own_test _ (is_of c) (passes_own c)

pub behind_shown : (c n : List ℕ) → ShowsDevices behind_tests (Words c ∷ Words n ∷ []) (is_device_behind c n)
behind_shown c n =
    shows_devices behind_tests _ (is_device_behind c n) (λ r e. ap₂ ◌&&◌ (text_is (column r 1) c e.0) (and-true _ ∙ text_above (column r 2) n e.1))

pub states_shown_are : (c : List ℕ) (all rows : List Row) → AreRowsAs as_devices all
    → Scanned own_test states_shown (by_key (1 ∷ 2 ∷ [])) (Words c ∷ []) all rows
    → map order_state_in rows ≡ map order_state (filter (is_of c) (in_order as_devices all))
states_shown_are c all rows are s =
    let params : Row = Words c ∷ [] in
    let q = shown_by_key as_devices states_shown in
    let sorted = sorted_kept (λ r. output q (env params r)) (output_cmp q) s.kept s.sorted in
    let is = kept_is as_devices (is_of c) own_test params (passes_own c) all s.kept are s.same sorted in
    ap (map order_state_in) s.shows
    ∙ map-map order_state_in (λ r. eval_all states_shown (env params r)) s.kept
    ∙ sym (map-map order_state device_in_row s.kept) ∙ ap (map order_state) (sym is)

-- what is made of one row more
pub one_more : {A B : Type 0} (f : A → B) (xs : List A) (i : ℕ) (x : A) (ys : List B) (y : B)
    → i < length xs → x ≡ get_or xs i x → ys ≡ map f (take i xs) → y ≡ f x
    → ys ++ y ∷ [] ≡ map f (take (i + 1) xs)
one_more f xs i x ys y within here so made = rw (take_more xs i x within, map-append) (ap₂ (λ l z. l ++ z ∷ []) so (made ∙ ap f here))

-- ---- what a row is read back as

-- the texts of a state are those of no other
pub state_read_back : (s : DeviceState) → state_of_texts (state_row s).text (option_map reason_text (state_row s).reason) ≡ Some s
state_read_back s = grind arith

state_back : (s : DeviceState) → state_in (state_row s).text (text_if (text_value (option_map reason_text (state_row s).reason))) ≡ s
state_back s =
    ap (state_in (state_row s).text) (text_back (option_map reason_text (state_row s).reason))
    ∙ ap (λ found. unwrap_or found (state_in [] None)) (state_read_back s)

pub device_back : (id : ℤ) (d : OfCustomer Device) → device_in_row (Int id ∷ device_columns d) ≡ d
device_back id d = ap₂ (λ s t. record d { row = record d.row { state = s; serial = t } }) (state_back d.row.state) (text_back d.row.serial)

-- ---- what is written

abbrev pub add_terms : List Term
add_terms = lit Null ∷ col 0 0 ∷ col 0 1 ∷ col 0 2 ∷ col 0 3 ∷ col 0 4 ∷ col 0 5 ∷ col 0 6 ∷ col 0 7 ∷ col 0 8 ∷ col 0 9 ∷ []

pub add_insert : IsInsert office_schema INSERT_INTO_DEVICE.now devices add_terms 11
unfolding understood everything
add_insert = record { means = record { is = refl; plain = (refl, refl); there = refl; uncounted = refl; unstamped = refl }; one = λ params. refl }

abbrev put_shown : List Term
put_shown = col 1 0 ∷ col 1 0 ∷ col 1 1 ∷ col 1 2 ∷ col 0 2 ∷ col 0 3 ∷ col 0 4 ∷ col 0 5 ∷ col 0 6 ∷ col 0 7 ∷ col 0 8 ∷ col 0 9 ∷ []

put_update : IsUpdate UPDATE_OF_DEVICE.now devices one_tests put_shown
unfolding understood everything
put_update = record { is = refl; plain = (refl, refl); there = refl; same = λ db. refl }

cast_words : (v : Value) → v ≡ Words (bytes v) → cast TextKind v ≡ v
cast_words v e = ap (cast TextKind) e ∙ sym e

pub add_casts : (d : OfCustomer Device) → cast_row device_table (eval_all add_terms (device_columns d ∷ [])) ≡ Null ∷ device_columns d
add_casts d = rw (cast_null, text_cast (option_map reason_text (state_row d.row.state).reason), text_cast d.row.serial) refl

pub device_added : (d : OfCustomer Device) (old new : Database) → IsOffice old
    → IsFree (AddDevice d) (tables_in old.trees) → SqlAdds devices (device_columns d) old new
    → Wrote (AddDevice d) old new
device_added d old new office free adds =
    let it = row_put as_devices alone d old new office (device_columns d) adds (refl, refl, refl) (device_back (next_rowid (rows_in old.trees devices)) d)
    (unfound_apart as_devices d (is_device d.customer d.row.chip) (λ y. texts_same d.customer d.row.chip y.customer y.row.chip)
    (rows_in old.trees devices) free) in
    record {
      office = it.office;
      made = it.tables ∙ ap (λ l. record (tables_in old.trees) { devices = l }) it.placed_is;
      rows = adds;
      told = it.told;
    }

-- the columns of the row that takes the place of another
abbrev put_columns : OfCustomer Device → Row → Row
put_columns d r = column r 1 ∷ column r 2 ∷ Words d.row.order ∷ Bytes d.row.map
    ∷ Words (state_row d.row.state).text ∷ text_value (option_map reason_text (state_row d.row.state).reason)
    ∷ Bytes d.row.bits ∷ Bytes d.row.keys ∷ Bytes d.row.todo ∷ text_value d.row.serial ∷ []

put_set : (d : OfCustomer Device) → IsSet as_devices (is_device d.customer d.row.chip) one_tests put_shown (device_columns d) (put_columns d)
put_set d = record {
  tested = passes_device d.customer d.row.chip;
  evals = λ r. refl;
  casts = λ id r typed. rw (
    cast_int id,
    cast_words (column r 1) typed.0,
    cast_words (column r 2) typed.1,
    text_cast (option_map reason_text (state_row d.row.state).reason),
    text_cast d.row.serial,
  ) refl;
  typed = λ id r typed. (typed.0, typed.1, refl);
  tied = λ id r typed passed. tied_itself device_total (device_in_row r);
}

put_back : (d : OfCustomer Device) (id : ℤ) (r : Row) → is_device d.customer d.row.chip (device_in_row r) ≡ true → device_in_row (Int id ∷ put_columns d r) ≡ d
put_back d id r passed =
    let same = and_parts _ _ passed in
    let back : OfCustomer Device = device_in_row (Int id ∷ device_columns d) in
    ap₂ (λ c n.
    record { customer = c; row = record back.row { chip = n } })
    (sym (same_text d.customer (bytes (column r 1)) same.0))
    (sym (same_text d.row.chip (bytes (column r 2)) same.1)) ∙ device_back id d

-- its key is the device's, so that they are the device's columns
put_same : (d : OfCustomer Device) (r : Row) → IsDeviceRow r → is_device d.customer d.row.chip (device_in_row r) ≡ true → put_columns d r ≡ device_columns d
put_same d r typed passed =
    let same = and_parts _ _ passed in
    let customer : column r 1 ≡ Words d.customer = typed.0 ∙ ap Words (sym (same_text d.customer (bytes (column r 1)) same.0)) in
    let chip : column r 2 ≡ Words d.row.chip = typed.1 ∙ ap Words (sym (same_text d.row.chip (bytes (column r 2)) same.1)) in
    rw (customer, chip) refl

pub device_put : (d : OfCustomer Device) (old new : State) (count : ℕ) → IsOffice old.now
    → Executes UPDATE_OF_DEVICE.now (device_columns d) old new (Ok count) → count ≡ 1
    → Wrote (PutDevice d) old.now new.now
device_put d old new count office ran one =
    let its = is_device d.customer d.row.chip in
    elim (sets as_devices its (λ a b e f. keys_tied d.customer d.row.chip a.customer a.row.chip b.customer b.row.chip e f) UPDATE_OF_DEVICE.now
    one_tests put_shown put_update (device_columns d) (put_columns d) (put_set d) old new count office ran) [
      | inl it ↦ absurd (omega (arith, it.counted))
      | inr it ↦ (
          let put = row_set as_devices alone d old.now new.now office its (put_columns d) count it (put_back d it.id it.was it.one.passed) in
          record {
            office = put.office;
            made = put.tables ∙ ap (λ l. record (tables_in old.now.trees) { devices = l }) put.placed_is;
            rows = remade as_devices its (put_columns d) (λ _. device_columns d) old.now new.now count it (put_same d it.was it.one.typed it.one.passed);
            told = put.told;
          })
    ]

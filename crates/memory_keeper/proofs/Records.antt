-- The records of serial numbers and their indexes.
use mathlib.Core.Path.{fun_ext}
use Rattle.std.proofs.Common.{◌≡◌, ◌∷◌, ◌&&◌, ◌||◌, ◌==◌}
use Rattle.text_core.proofs.Kit.{◌∙◌, ℕ, Bool, true, false, cond, List, [], Option, Some, None, Less, Greater, refl, sym, ap, not, bytes_eq, filter, find}
use Rattle.text_core.proofs.Kit.{is_some, option_map, AllByRecursion, get, is_at, BTreeSet, contains, unsigned_tied, nat_cmp, is_eq, is_le, is_lt}
use Rattle.text_core.proofs.Kit.{ordering_then, nat_list_cmp_total, texts_ties, tied_itself, eqb-true, eq-eqb, bytes_eq-Decides, and_parts, find-passes}
use Rattle.memory_keeper.specs.Prelude.{has_mac, serial_of, AreIndexed, without}
use Rattle.text_core.specs.Prelude.{is_serial, serial_of_text}
use Rattle.office_tables.specs.declared.rows.OfCustomer.{OfCustomer}
use Rattle.office_tables.specs.declared.rows.Given.{Given}
use Rattle.office_tables.specs.Prelude.{given_cmp, has_address, is_address, is_bound, is_given_behind, is_serial_of, is_of_issuer, with_row, text_cmp}
use Rattle.office_tables.specs.Prelude.{text_pair_cmp, IsAddressFree}
use Rattle.office_tables.proofs.Placing.{all_placed}
use Rattle.memory_keeper.specs.declared.given.GivenIndex.{GivenIndex}
use Rattle.memory_keeper.proofs.Alone.{find-placed, find-without, found_also, still_alone, alone_without}
use Rattle.office_tables.proofs.Places.{same_both_ways}
use Rattle.memory_keeper.proofs.Entries.{all_without}
use Rattle.memory_keeper.proofs.Keys.{behind, between, both_equal}
use Rattle.memory_keeper.proofs.MapNumbers.{without-placed_new}

-- a record has a key where it is the issuer's record of the serial number
same_given : (issuer serial : List ℕ) → (λ (o : OfCustomer Given). is_eq (ordering_then (text_cmp issuer o.row.issuer) (text_cmp serial o.row.serial)))
    ≡ is_serial_of issuer serial
same_given issuer serial =
    fun_ext (λ o. both_equal (text_cmp issuer o.row.issuer) (text_cmp serial o.row.serial)
    ∙ rw (texts_ties issuer o.row.issuer, texts_ties serial o.row.serial) refl)

pub find_given : (issuer serial : List ℕ) (rows : List (OfCustomer Given)) → find (λ o.
    is_eq (ordering_then (text_cmp issuer o.row.issuer) (text_cmp serial o.row.serial))) rows ≡ find (is_serial_of issuer serial) rows
find_given issuer serial rows = ap (λ (test : OfCustomer Given → Bool). find test rows) (same_given issuer serial)

pub without_given : (issuer serial : List ℕ) (rows : List (OfCustomer Given)) → without (λ o.
    is_eq (ordering_then (text_cmp issuer o.row.issuer) (text_cmp serial o.row.serial))) rows ≡ without (is_serial_of issuer serial) rows
without_given issuer serial rows = ap (λ (test : OfCustomer Given → Bool). without test rows) (same_given issuer serial)

-- the records from the start of an issuer's to their end
pub filter_issuer : (issuer : List ℕ) (rows : List (OfCustomer Given)) → filter (λ o.
    is_le (ordering_then (text_cmp issuer o.row.issuer) Less) && not (is_lt (ordering_then (text_cmp issuer o.row.issuer) Greater))) rows
    ≡ filter (is_of_issuer issuer) rows
filter_issuer issuer rows =
    ap (λ (test : OfCustomer Given → Bool). filter test rows) (fun_ext (λ o. between (text_cmp issuer o.row.issuer) ∙ sym (texts_ties issuer o.row.issuer)))

-- the records behind a serial number up to the end of its issuer's
pub filter_serials_behind : (issuer serial : List ℕ) (rows : List (OfCustomer Given)) → filter (λ o.
    is_lt (ordering_then (text_cmp issuer o.row.issuer) (text_cmp serial o.row.serial))
    && not (is_lt (ordering_then (text_cmp issuer o.row.issuer) Greater))) rows
    ≡ filter (is_given_behind issuer serial) rows
filter_serials_behind issuer serial rows =
    ap (λ (test : OfCustomer Given → Bool). filter test rows) (fun_ext (λ o.
    behind (text_cmp issuer o.row.issuer) (text_cmp serial o.row.serial) ∙ rw (texts_ties issuer o.row.issuer) refl))

-- what the text of a serial number is
pub text_of : (serial text : List ℕ) → Some serial ≡ serial_of_text text → serial ≡ text
text_of serial text is =
    elim (is_serial text) as (λ b. Some serial ≡ cond b (Some text) None → serial ≡ text) [ true ↦ λ e. cc | false ↦ λ e. cc ] is

-- where a text is no serial number, no record has it
pub no_record : (issuer text : List ℕ) (rows : List (OfCustomer Given)) → AllByRecursion (λ o.
    is_serial o.row.serial ≡ true) rows → None ≡ serial_of_text text → find (is_serial_of issuer text) rows ≡ None
no_record issuer text [] all none = refl
no_record issuer text (y ∷ ys) all none =
    elim (is_serial_of issuer text y) as (λ b. is_serial_of issuer text y ≡ b → cond b (Some y) (find (is_serial_of issuer text) ys) ≡ None) [
      | true ↦ λ is.
          let parts = and_parts (bytes_eq issuer y.row.issuer) (bytes_eq text y.row.serial) is in
          let same : text ≡ y.row.serial = (bytes_eq-Decides text y.row.serial).0 parts.1 in
          let valid : is_serial text ≡ true = rw same all.0 in
          let some : serial_of_text text ≡ Some text = rw valid refl in
          let both : None ≡ Some text = none ∙ some in absurd cc
      | false ↦ λ is. no_record issuer text ys all.1 none
    ] refl

-- a key that is found in the index finds its record
pub record_of_key : (rows : List (OfCustomer Given)) (i : GivenIndex) (issuer key serial : List ℕ) → AreIndexed rows i → Some serial ≡ serial_of issuer key i
    → find (is_serial_of issuer serial) rows ≡ find (is_bound issuer key) rows
record_of_key rows i issuer key serial indexed is =
    let there : Some serial ≡ option_map (λ (o : OfCustomer Given). o.row.serial) (find (is_bound issuer key) rows) = is ∙ indexed.serials issuer key in
    elim (find (is_bound issuer key) rows) as (λ f. find (is_bound issuer key) rows ≡ f → Some serial ≡ option_map (λ (o : OfCustomer Given). o.row.serial) f
    → find (is_serial_of issuer serial) rows ≡ f) [
      | None ↦ λ found e. cc
      | Some o ↦ λ found e.
          let same : serial ≡ o.row.serial = cc in
          let parts = and_parts (bytes_eq issuer o.row.issuer) (bytes_eq key o.row.key) (find-passes (is_bound issuer key) rows o found) in
          let passes : is_serial_of issuer serial o ≡ true = rw (parts.0, (bytes_eq-Decides serial o.row.serial).1 same) refl in
          found_also (is_serial_of issuer serial) (is_bound issuer key) o rows found passes (indexed.one_serial issuer serial)
    ] refl there

-- the key of a record in the index
at_bound : (o : OfCustomer Given) (issuer key : List ℕ) → is_at (text_pair_cmp (o.row.issuer, o.row.key)) (issuer, key) ≡ is_bound issuer key o
at_bound o issuer key =
    both_equal (text_cmp o.row.issuer issuer) (text_cmp o.row.key key)
    ∙ rw (← (texts_ties o.row.issuer issuer), ← (texts_ties o.row.key key), same_both_ways issuer o.row.issuer, same_both_ways key o.row.key) refl

abbrev pub Writes-serial : GivenIndex → GivenIndex → OfCustomer Given → Option (List ℕ) → Type 0
Writes-serial i n o v =
    (q : List ℕ × List ℕ) → get text_pair_cmp n.serials q ≡ cond (is_at (text_pair_cmp (o.row.issuer, o.row.key)) q) v (get text_pair_cmp i.serials q)

pub serials_put : (i n : GivenIndex) (o : OfCustomer Given) (v : Option (List ℕ)) → Writes-serial i n o v → (issuer key : List ℕ)
    → serial_of issuer key n ≡ cond (is_bound issuer key o) v (serial_of issuer key i)
serials_put i n o v writes issuer key = writes (issuer, key) ∙ ap (λ b. cond b v (serial_of issuer key i)) (at_bound o issuer key)

-- where the record's key was free, nothing is left of it
pub serials_back : (o : OfCustomer Given) (x v : Option (List ℕ)) (issuer key : List ℕ) → (is_bound issuer key o ≡ true → x ≡ None)
    → cond (is_bound issuer key o) None (cond (is_bound issuer key o) v x) ≡ x
serials_back o x v issuer key free =
    elim (is_bound issuer key o) as (λ b. is_bound issuer key o ≡ b → cond b None (cond b v x) ≡ x) [ true ↦ λ is. sym (free is) | false ↦ λ is. refl ] refl

pub free_serial : (i : GivenIndex) (o : OfCustomer Given) → serial_of o.row.issuer o.row.key i ≡ None → (issuer key : List ℕ) → is_bound issuer key o ≡ true
    → serial_of issuer key i ≡ None
free_serial i o free issuer key is =
    let parts = and_parts (bytes_eq issuer o.row.issuer) (bytes_eq key o.row.key) is in
    rw ((bytes_eq-Decides issuer o.row.issuer).0 parts.0, (bytes_eq-Decides key o.row.key).0 parts.1) free

pub free_bound : (rows : List (OfCustomer Given)) (o : OfCustomer Given) → find (is_bound o.row.issuer o.row.key) rows ≡ None → (issuer key : List ℕ)
    → is_bound issuer key o ≡ true → find (is_bound issuer key) rows ≡ None
free_bound rows o free issuer key is =
    let parts = and_parts (bytes_eq issuer o.row.issuer) (bytes_eq key o.row.key) is in
    rw ((bytes_eq-Decides issuer o.row.issuer).0 parts.0, (bytes_eq-Decides key o.row.key).0 parts.1) free

free_given : (rows : List (OfCustomer Given)) (o : OfCustomer Given) → find (is_serial_of o.row.issuer o.row.serial) rows ≡ None → (issuer serial : List ℕ)
    → is_serial_of issuer serial o ≡ true → find (is_serial_of issuer serial) rows ≡ None
free_given rows o free issuer serial is =
    let parts = and_parts (bytes_eq issuer o.row.issuer) (bytes_eq serial o.row.serial) is in
    rw ((bytes_eq-Decides issuer o.row.issuer).0 parts.0, (bytes_eq-Decides serial o.row.serial).0 parts.1) free

free_address : (rows : List (OfCustomer Given)) (own : Option ℕ) → IsAddressFree own rows → (mac : ℕ) → is_address mac own ≡ true
    → find (has_address mac) rows ≡ None
free_address rows None free mac is = cc
free_address rows (Some own) free mac is = let same : mac ≡ own = eqb-true mac own is in rw same free

map_cond : (b : Bool) (x f : Option (OfCustomer Given)) → option_map (λ (o : OfCustomer Given). o.row.serial) (cond b x f)
    ≡ cond b (option_map (λ (o : OfCustomer Given). o.row.serial) x) (option_map (λ (o : OfCustomer Given). o.row.serial) f)
map_cond true x f = refl
map_cond false x f = refl

some_or : (b : Bool) (o : OfCustomer Given) (f : Option (OfCustomer Given)) → is_some (cond b (Some o) f) ≡ (b || is_some f)
some_or true o f = refl
some_or false o f = refl

none_and : (b : Bool) (f : Option (OfCustomer Given)) → is_some (cond b None f) ≡ (not b && is_some f)
none_and true f = refl
none_and false f = refl

module _ (rows : List (OfCustomer Given)) (i i2 : GivenIndex) (indexed : AreIndexed rows i) (o : OfCustomer Given) where
  -- a new record is indexed
  pub indexed-placed : find (is_serial_of o.row.issuer o.row.serial) rows ≡ None
      → find (is_bound o.row.issuer o.row.key) rows ≡ None → IsAddressFree o.row.mac rows
      → is_serial o.row.serial ≡ true
      → ((issuer key : List ℕ) → serial_of issuer key i2 ≡ cond (is_bound issuer key o) (Some o.row.serial) (serial_of issuer key i))
      → ((mac : ℕ) → has_mac (Some mac) i2 ≡ (is_address mac o.row.mac || has_mac (Some mac) i))
      → AreIndexed (with_row given_cmp o rows) i2
  indexed-placed free_serial free_key free_mac valid serials macs =
      let free : find (λ y. is_eq (given_cmp o y)) rows ≡ None = find_given o.row.issuer o.row.serial rows ∙ free_serial in
      record {
        serials = λ issuer key. serials issuer key ∙ (ap (λ x. cond (is_bound issuer key o) (Some o.row.serial) x) (indexed.serials issuer key)
            ∙ (sym (map_cond (is_bound issuer key o) (Some o) (find (is_bound issuer key) rows))
            ∙ sym (ap (option_map (λ (o : OfCustomer Given). o.row.serial))
            (find-placed (is_bound issuer key) given_cmp o rows free (free_bound rows o free_key issuer key)))));
        macs = λ mac. macs mac ∙ (ap (λ x. is_address mac o.row.mac || x) (indexed.macs mac)
            ∙ (sym (some_or (is_address mac o.row.mac) o (find (has_address mac) rows))
            ∙ sym (ap is_some (find-placed (has_address mac) given_cmp o rows free (free_address rows o.row.mac free_mac mac)))));
        one_serial =
            λ issuer serial. still_alone given_cmp (is_serial_of issuer serial) o rows free (free_given rows o free_serial issuer serial)
            (indexed.one_serial issuer serial);
        one_key = λ issuer key. still_alone given_cmp (is_bound issuer key) o rows free (free_bound rows o free_key issuer key) (indexed.one_key issuer key);
        one_mac = λ mac. still_alone given_cmp (has_address mac) o rows free (free_address rows o.row.mac free_mac mac) (indexed.one_mac mac);
        are_serials = all_placed (λ r. is_serial r.row.serial ≡ true) given_cmp o rows valid indexed.are_serials;
      }

  -- the others are, without a record that is taken out
  pub indexed-without : (issuer serial : List ℕ) → find (is_serial_of issuer serial) rows ≡ Some o
      → ((issuer key : List ℕ) → serial_of issuer key i2 ≡ cond (is_bound issuer key o) None (serial_of issuer key i))
      → ((mac : ℕ) → has_mac (Some mac) i2 ≡ (not (is_address mac o.row.mac) && has_mac (Some mac) i))
      → AreIndexed (without (is_serial_of issuer serial) rows) i2
  indexed-without issuer0 serial0 found serials macs = record {
    serials = λ issuer key. serials issuer key ∙ (ap (λ x. cond (is_bound issuer key o) None x) (indexed.serials issuer key)
        ∙ (sym (map_cond (is_bound issuer key o) None (find (is_bound issuer key) rows))
        ∙ sym (ap (option_map (λ (o : OfCustomer Given). o.row.serial))
        (find-without (is_bound issuer key) (is_serial_of issuer0 serial0) o rows found (indexed.one_key issuer key)))));
    macs = λ mac. macs mac ∙ (ap (λ x. not (is_address mac o.row.mac) && x) (indexed.macs mac)
        ∙ (sym (none_and (is_address mac o.row.mac) (find (has_address mac) rows))
        ∙ sym (ap is_some (find-without (has_address mac) (is_serial_of issuer0 serial0) o rows found (indexed.one_mac mac)))));
    one_serial = λ issuer serial. alone_without (is_serial_of issuer serial) (is_serial_of issuer0 serial0) o rows found (indexed.one_serial issuer serial);
    one_key = λ issuer key. alone_without (is_bound issuer key) (is_serial_of issuer0 serial0) o rows found (indexed.one_key issuer key);
    one_mac = λ mac. alone_without (has_address mac) (is_serial_of issuer0 serial0) o rows found (indexed.one_mac mac);
    are_serials = all_without (λ r. is_serial r.row.serial ≡ true) (is_serial_of issuer0 serial0) rows indexed.are_serials;
  }

-- a new record is placed and taken out again
pub without-placed_given : (o : OfCustomer Given) (rows : List (OfCustomer Given)) → find (is_serial_of o.row.issuer o.row.serial) rows ≡ None
    → without (is_serial_of o.row.issuer o.row.serial) (with_row given_cmp o rows) ≡ rows
without-placed_given o rows free =
    sym (without_given o.row.issuer o.row.serial (with_row given_cmp o rows))
    ∙ without-placed_new given_cmp o rows (rw (tied_itself nat_list_cmp_total o.row.issuer, tied_itself nat_list_cmp_total o.row.serial) refl)
    (find_given o.row.issuer o.row.serial rows ∙ free)

eqb_sym : (a b : ℕ) → (a == b) ≡ (b == a)
eqb_sym a b =
    elim (a == b) as (λ x. (a == b) ≡ x → x ≡ (b == a)) [
      | true ↦ λ is. let same : a ≡ b = eqb-true a b is in sym (eq-eqb b a (sym same))
      | false ↦ λ is. elim (b == a) as (λ y. (b == a) ≡ y → false ≡ y) [
        | true ↦ λ also. let same : b ≡ a =
            eqb-true b a also in absurd (let e : (a == b) ≡ true = eq-eqb a b (sym same) in let both : false ≡ true = sym is ∙ e in cc)
        | false ↦ λ _. refl
      ] refl
    ] refl

-- an address stands at its number
at_mac : (own mac : ℕ) → is_at (nat_cmp own) mac ≡ (mac == own)
at_mac own mac = unsigned_tied own mac ∙ eqb_sym own mac

-- an address more, and one less
pub macs_put : (s n : BTreeSet ℕ) (own : ℕ) → ((q : ℕ) → contains nat_cmp n q ≡ cond (is_at (nat_cmp own) q) true (contains nat_cmp s q)) → (mac : ℕ)
    → contains nat_cmp n mac ≡ (mac == own || contains nat_cmp s mac)
macs_put s n own writes mac =
    writes mac ∙ (ap (λ b. cond b true (contains nat_cmp s mac)) (at_mac own mac) ∙ elim (mac == own) as (λ b.
    cond b true (contains nat_cmp s mac) ≡ (b || contains nat_cmp s mac)) [ true ↦ refl | false ↦ refl ])

pub macs_taken : (s n : BTreeSet ℕ) (own : ℕ) → ((q : ℕ) → contains nat_cmp n q ≡ cond (is_at (nat_cmp own) q) false (contains nat_cmp s q)) → (mac : ℕ)
    → contains nat_cmp n mac ≡ (not (mac == own) && contains nat_cmp s mac)
macs_taken s n own writes mac =
    writes mac ∙ (ap (λ b. cond b false (contains nat_cmp s mac)) (at_mac own mac) ∙ elim (mac == own) as (λ b.
    cond b false (contains nat_cmp s mac) ≡ (not b && contains nat_cmp s mac)) [ true ↦ refl | false ↦ refl ])

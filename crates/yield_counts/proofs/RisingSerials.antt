-- How many serial numbers of a range are left, where the given ones rise.
use Rattle.std.proofs.Common.{◌≡◌, ◌+◌, ◌<◌, ◌≤◌, ◌∷◌, ◌||◌, Ordering}
use Rattle.text_core.proofs.Kit.{ℕ, zero, suc, Bool, true, false, not, List, [], length, Option, None, Some, inl, inr, refl, sym, ap, ap₂, ◌∙◌, arith, cond}
use Rattle.text_core.proofs.Kit.{filter, find}
use Rattle.text_core.proofs.Kit.{is_some, list_any, range_with_len, is_eq, is_lt, bytes_eq, cases_Bool, or_from, false_from_ne_true, nat_tests}
use Rattle.text_core.proofs.Kit.{nat_list_cmp_total, nat_list_eq_equiv, is_eq-slice_cmp, bytes_eq-Decides, tied_itself, AllByRecursion, Equal, Greater, Less}
use Rattle.id_ranges.specs.Prelude.{Range, IsRange, numbers, serial_text}
use Rattle.id_ranges.proofs.Texts.{same_number}
use Rattle.office_tables.specs.declared.rows.Given.{Given}
use Rattle.office_tables.specs.declared.rows.OfCustomer.{OfCustomer}
use Rattle.office_tables.specs.Prelude.{given_cmp, is_serial_of, is_of_issuer, text_cmp, IsAscending}
use Rattle.yield_counts.specs.Prelude.{has_serial, serials_in, AreRising}

pub lt_is_less : (o : Ordering) → is_lt o ≡ true → o ≡ Less
lt_is_less Less h = refl
lt_is_less Equal h = absurd (cc h)
lt_is_less Greater h = absurd (cc h)

-- the text isn't one of these
abbrev pub is_new : List (List ℕ) → Range → ℕ → Bool
is_new serials r n = not (list_any (bytes_eq (serial_text r n)) serials)

-- a text differs from a greater one
differs : (a b : List ℕ) → is_lt (text_cmp a b) ≡ true → bytes_eq a b ≡ false
differs a b less = sym (is_eq-slice_cmp a b) ∙ ap is_eq (lt_is_less (text_cmp a b) less)

pub later : (a b c : List ℕ) → is_lt (text_cmp a b) ≡ true → is_lt (text_cmp b c) ≡ true → is_lt (text_cmp a c) ≡ true
later a b c one other = ap is_lt (nat_list_cmp_total.trans a b c (lt_is_less (text_cmp a b) one) (lt_is_less (text_cmp b c) other))

-- a text that is less than the last one isn't among those that rise from there
above : (a last : List ℕ) (serials : List (List ℕ)) → is_lt (text_cmp a last) ≡ true → AreRising (Some last) serials → list_any (bytes_eq a) serials ≡ false
above a last [] less rising = refl
above a last (s ∷ ss) less rising =
    let here = later a last s less rising.0 in
    or_from (bytes_eq a s) (list_any (bytes_eq a) ss) (differs a s here) (above a s ss here rising.1)

pub rises_apart : (s : List ℕ) (serials : List (List ℕ)) → AreRising (Some s) serials → list_any (bytes_eq s) serials ≡ false
rises_apart s [] rising = refl
rises_apart s (x ∷ xs) rising = or_from (bytes_eq s x) (list_any (bytes_eq s) xs) (differs s x rising.0) (above s x xs rising.0 rising.1)

-- a test that no number of a range passes changes nothing
rest_same : (p q : ℕ → Bool) (first count : ℕ) → ((n : ℕ) → first ≤ n → n < first + count → q n ≡ false)
    → length (filter (λ n. not (q n || p n)) (range_with_len first count)) ≡ length (filter (λ n. not (p n)) (range_with_len first count))
rest_same p q first zero none = refl
rest_same p q first (suc count) none =
    let here = none first (omega arith) (omega arith) in
    let rest = rest_same p q (first + 1) count (λ n low high. none n (omega arith) (omega arith)) in
    elim (p first) as (λ b. length (cond (not (q first || b)) (first ∷ filter (λ n. not (q n || p n)) (range_with_len (first + 1) count))
    (filter (λ n. not (q n || p n)) (range_with_len (first + 1) count)))
    ≡ length (cond (not b) (first ∷ filter (λ n. not (p n)) (range_with_len (first + 1) count)) (filter (λ n. not (p n)) (range_with_len (first + 1) count)))) [
      | true ↦ rw here rest
      | false ↦ rw here (ap suc rest)
    ]

-- one number of a range is passed over
pub one_less : (p q : ℕ → Bool) (first count : ℕ) → ((m n : ℕ) → first ≤ m → m < n → n < first + count → q m ≡ true → q n ≡ false)
    → ((n : ℕ) → first ≤ n → n < first + count → q n ≡ true → p n ≡ false)
    → length (filter (λ n. not (q n || p n)) (range_with_len first count)) + cond (list_any q (range_with_len first count)) 1 0
    ≡ length (filter (λ n. not (p n)) (range_with_len first count))
one_less p q first zero unique apart = refl
one_less p q first (suc count) unique apart =
    elim (cases_Bool (q first)) [
      | inl passes ↦
          let free = apart first (omega arith) (omega arith) passes in
          let rest = rest_same p q (first + 1) count (λ n low high. unique first n (omega arith) (omega arith) (omega arith) passes) in
          rw (passes, free) (omega (arith, rest))
      | inr fails ↦
          let rest =
          one_less p q (first + 1) count (λ m n low less high. unique m n (omega arith) less (omega arith)) (λ n low high.
          apart n (omega arith) (omega arith)) in
          elim (p first) as (λ b. length (cond (not (q first || b)) (first ∷ filter (λ n. not (q n || p n)) (range_with_len (first + 1) count))
          (filter (λ n. not (q n || p n)) (range_with_len (first + 1) count)))
          + cond (q first || list_any q (range_with_len (first + 1) count)) 1 0
          ≡ length (cond (not b) (first ∷ filter (λ n. not (p n)) (range_with_len (first + 1) count))
          (filter (λ n. not (p n)) (range_with_len (first + 1) count)))) [
            | true ↦ rw fails rest
            | false ↦ rw fails (omega (arith, rest))
          ]
    ]

all_new : (first count : ℕ) → length (filter (λ (n : ℕ). true) (range_with_len first count)) ≡ count
all_new first zero = refl
all_new first (suc count) = ap suc (all_new (first + 1) count)

-- as many records whose serial numbers rise are of the range as serial numbers of it are given
pub left_count : (r : Range) → IsRange r → (last : Option (List ℕ)) (serials : List (List ℕ)) → AreRising last serials
    → length (filter (is_new serials r) (numbers r)) + length (filter (has_serial r) serials) ≡ r.quantity
left_count r is last [] rising = let all = all_new r.first r.quantity in omega (arith, all)
left_count r is last (s ∷ ss) rising =
    let q : ℕ → Bool = λ n. bytes_eq (serial_text r n) s in
    let p : ℕ → Bool = λ n. list_any (bytes_eq (serial_text r n)) ss in
    let rest = left_count r is (Some s) ss rising.1 in
    let step = one_less p q r.first r.quantity
    (λ m n low less high passes. false_from_ne_true (q n) (λ too.
    let one = (bytes_eq-Decides (serial_text r m) s).0 passes in
    let other = (bytes_eq-Decides (serial_text r n) s).0 too in
    let same : m ≡ n = same_number r is m n (low, omega arith) (omega arith, high) (one ∙ sym other) in
    omega arith))
    (λ n low high passes.
    let one = (bytes_eq-Decides (serial_text r n) s).0 passes in
    rw one (rises_apart s ss rising.1)) in
    let tested : has_serial r s ≡ list_any q (numbers r) =
    (λ i. list_any (λ n. nat_list_eq_equiv.symm s (serial_text r n) i) (numbers r)) in
    elim (has_serial r s) as (λ b. has_serial r s ≡ b → length (filter (is_new (s ∷ ss) r) (numbers r)) + length
    (cond b (s ∷ filter (has_serial r) ss) (filter (has_serial r) ss)) ≡ r.quantity) [
      | true ↦ λ e. let t = rw (sym tested ∙ e) at step in omega (arith, t, rest)
      | false ↦ λ e. let t = rw (sym tested ∙ e) at step in omega (arith, t, rest)
    ] refl

-- whether a serial number is given in an issuer, by the serial numbers of its records
pub given_is_listed : (issuer serial : List ℕ) (rows : List (OfCustomer Given))
    → is_some (find (is_serial_of issuer serial) rows) ≡ list_any (bytes_eq serial) (serials_in (filter (is_of_issuer issuer) rows))
given_is_listed issuer serial [] = refl
given_is_listed issuer serial (row ∷ rows) = grind (arith, nat_tests, given_is_listed issuer serial rows)

-- the first of two records of an issuer in order has the lesser serial number
serials_less : (issuer : List ℕ) (a b : OfCustomer Given) → is_of_issuer issuer a ≡ true → is_of_issuer issuer b ≡ true → given_cmp a b ≡ Less
    → text_cmp a.row.serial b.row.serial ≡ Less
serials_less issuer a b one other less =
    let equal : text_cmp a.row.issuer b.row.issuer ≡ Equal =
    ap₂ text_cmp (sym ((bytes_eq-Decides issuer a.row.issuer).0 one)) (sym ((bytes_eq-Decides issuer b.row.issuer).0 other))
    ∙ tied_itself nat_list_cmp_total issuer in
    rw equal at less

rise_after : (issuer : List ℕ) (last : OfCustomer Given) (rows : List (OfCustomer Given)) → is_of_issuer issuer last ≡ true
    → AllByRecursion (λ row. given_cmp last row ≡ Less) rows → IsAscending given_cmp rows
    → AreRising (Some last.row.serial) (serials_in (filter (is_of_issuer issuer) rows))
rise_after issuer last [] mine below up = tt
rise_after issuer last (row ∷ rows) mine below up =
    elim (is_of_issuer issuer row) as (λ b. is_of_issuer issuer row ≡ b
    → AreRising (Some last.row.serial) (serials_in (cond b (row ∷ filter (is_of_issuer issuer) rows) (filter (is_of_issuer issuer) rows)))) [
      | true ↦ λ theirs. (ap is_lt (serials_less issuer last row mine theirs below.0), rise_after issuer row rows theirs up.0 up.1)
      | false ↦ λ _. rise_after issuer last rows mine below.1 up.1
    ] refl

-- the serial numbers of an issuer's records rise where the records are in order
pub serials_rise : (issuer : List ℕ) (rows : List (OfCustomer Given)) → IsAscending given_cmp rows
    → AreRising None (serials_in (filter (is_of_issuer issuer) rows))
serials_rise issuer [] up = tt
serials_rise issuer (row ∷ rows) up =
    elim (is_of_issuer issuer row) as (λ b. is_of_issuer issuer row ≡ b
    → AreRising None (serials_in (cond b (row ∷ filter (is_of_issuer issuer) rows) (filter (is_of_issuer issuer) rows)))) [
      | true ↦ λ mine. (refl, rise_after issuer row rows mine up.0 up.1)
      | false ↦ λ _. serials_rise issuer rows up.1
    ] refl

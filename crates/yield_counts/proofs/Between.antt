-- A walk over the given serial numbers of an issuer that stand between the first and the last of a range.
use mathlib.Core.Path.{fun_ext}
use Rattle.std.proofs.Common.{◌≡◌, ◌+◌, ◌-◌, ◌∷◌, ◌&&◌}
use Rattle.text_core.proofs.Kit.{ℕ, Bool, true, false, not, List, [], Option, Some, None, map, filter, length, is_some, list_any, refl, sym, ap}
use Rattle.text_core.proofs.Kit.{◌∙◌, arith, cond}
use Rattle.text_core.proofs.Kit.{bytes_eq, bytes_eq-Decides, both_ways, cases_Bool, cases_eq, inl, inr, is_lt, nat_list_cmp_total, tied_itself}
use Rattle.text_core.proofs.Kit.{from_bool}
use Rattle.id_ranges.specs.Prelude.{Range, IsRange, is_unused, numbers, serial_text}
use Rattle.office_tables.specs.declared.rows.OfCustomer.{OfCustomer}
use Rattle.office_tables.specs.declared.rows.Given.{Given}
use Rattle.office_tables.specs.Prelude.{given_at, given_cmp, is_given_behind, is_of_issuer, text_cmp, IsAscending, Tables, Visits}
use Rattle.yield_counts.specs.Prelude.{count_unused, has_issued_in, has_serial, serials_in, AreRising}
use Rattle.yield_counts.specs.Walks.{TakesSerial}
use Rattle.yield_counts.specs.declared.walks.SerialScan.{SerialScan}
use Rattle.yield_counts.proofs.Digits.{has_at, has_none}
use Rattle.yield_counts.proofs.RisingSerials.{given_is_listed, is_new, later, left_count, rises_apart, serials_rise}
use Rattle.yield_counts.proofs.Texts.{text_rises}

-- a test as a number
pub bit_is : (b : Bool) (n : ℕ) → n ≡ from_bool b → n ≡ cond b 1 0
bit_is true n is = is
bit_is false n is = is

-- a text isn't less than itself
not_before_itself : (a : List ℕ) → is_lt (text_cmp a a) ≡ false
not_before_itself a = ap is_lt (tied_itself nat_list_cmp_total a)

-- a serial number of the range is its first, or comes behind it
first_or_behind : (r : Range) → IsRange r → (s : List ℕ) → bytes_eq (serial_text r r.first) s ≡ false
    → is_lt (text_cmp (serial_text r r.first) s) ≡ false → has_serial r s ≡ false
first_or_behind r is s other before =
    has_none r s (λ n has text. elim (cases_eq n r.first) [
      | inl same ↦
          both_ways (bytes_eq (serial_text r r.first) s) other
          ((bytes_eq-Decides (serial_text r r.first) s).1 (sym (text ∙ ap (serial_text r) same)))
      | inr apart ↦
          let less = text_rises r is r.first n (omega arith, omega (arith, is.some)) has (omega (arith, has.0, apart)) in
          both_ways (is_lt (text_cmp (serial_text r r.first) s)) before (ap (λ t. is_lt (text_cmp (serial_text r r.first) t)) text ∙ ap is_lt less)
    ])

-- what comes behind its last is none of its serial numbers
behind_last : (r : Range) → IsRange r → (s : List ℕ) → is_lt (text_cmp (serial_text r (r.first + r.quantity - 1)) s) ≡ true → has_serial r s ≡ false
behind_last r is s behind =
    let last = r.first + r.quantity - 1 in
    has_none r s (λ n has text. elim (cases_eq n last) [
      | inl same ↦
          both_ways (is_lt (text_cmp (serial_text r last) s))
          (ap (λ t. is_lt (text_cmp (serial_text r last) t)) (text ∙ ap (serial_text r) same) ∙ not_before_itself (serial_text r last)) behind
      | inr apart ↦
          let less = text_rises r is n last has (omega (arith, is.some), omega (arith, is.some)) (omega (arith, has.1, apart)) in
          let round = later (serial_text r last) s (serial_text r last) behind (ap (λ t. is_lt (text_cmp t (serial_text r last))) text ∙ ap is_lt less) in
          both_ways (is_lt (text_cmp (serial_text r last) (serial_text r last))) (not_before_itself (serial_text r last)) round
    ])

module _ (r : Range) (is : IsRange r) where
  abbrev first_text : List ℕ
  first_text = serial_text r r.first

  abbrev last_text : List ℕ
  last_text = serial_text r (r.first + r.quantity - 1)

  abbrev is_behind : List ℕ → Bool
  is_behind s = is_lt (text_cmp (serial_text r r.first) s)

  -- how many of these are the range's
  abbrev count : List (List ℕ) → ℕ
  count serials = length (filter (has_serial r) serials)

  -- where texts rise from one behind the last, none is the range's
  none_left : (s : List ℕ) (serials : List (List ℕ)) → is_lt (text_cmp last_text s) ≡ true → AreRising (Some s) serials → count (filter is_behind serials) ≡ 0
  none_left s [] behind rising = refl
  none_left s (x ∷ xs) behind rising =
      let beyond = later last_text s x behind rising.0 in
      let none = behind_last r is x beyond in
      let rest = none_left x xs beyond rising.1 in
      elim (is_behind x) as (λ b. count (cond b (x ∷ filter is_behind xs) (filter is_behind xs)) ≡ 0) [
        | true ↦ rw none rest
        | false ↦ rest
      ]

  -- the walk takes all of the range's that stand behind its first
  walked : (old new : SerialScan) (last : Option (List ℕ)) (serials : List (List ℕ)) → AreRising last serials → old.range ≡ r → old.last ≡ last_text
      → Visits TakesSerial old (filter is_behind serials) new → new.left ≡ old.left - count (filter is_behind serials)
  walked old new last [] rising range end v = ap (λ (s : SerialScan). s.left) v ∙ omega arith
  walked old new last (x ∷ xs) rising range end v =
      elim (cases_Bool (is_behind x)) [
        | inl behind ↦ rw behind (taken (λ mid. walked mid new (Some x) xs rising.1) (rw behind at v))
        | inr before ↦ rw before (walked old new (Some x) xs rising.1 range end (rw before at v))
      ]
    where
      taken : ((mid : SerialScan) → mid.range ≡ r → mid.last ≡ last_text → Visits TakesSerial mid (filter is_behind xs) new
          → new.left ≡ mid.left - count (filter is_behind xs))
          → Visits TakesSerial old (x ∷ filter is_behind xs) new → new.left ≡ old.left - count (x ∷ filter is_behind xs)
      taken later_on (true, mid, takes, rest) =
          let on = later_on mid (takes.range ∙ range) (takes.last ∙ end) rest in
          let one : mid.left ≡ old.left - cond (has_serial r x) 1 0 = takes.left refl ∙ ap (λ q. old.left - cond (has_serial q x) 1 0) range in
          elim (has_serial r x) as (λ b. mid.left ≡ old.left - cond b 1 0 → new.left
          ≡ old.left - length (cond b (x ∷ filter (has_serial r) (filter is_behind xs)) (filter (has_serial r) (filter is_behind xs)))) [
            | true ↦ λ one. omega (arith, one, on)
            | false ↦ λ one. omega (arith, one, on)
          ] one
      taken later_on (false, mid, takes, rest) =
          let beyond : is_lt (text_cmp last_text x) ≡ true = ap (λ l. is_lt (text_cmp l x)) (sym end) ∙ takes.behind refl in
          let none = behind_last r is x beyond in
          let zero = none_left x xs beyond rising.1 in
          let same = takes.same refl in
          rw none (ap (λ (s : SerialScan). s.left) rest ∙ omega (arith, same, zero))

  -- the range's among those that rise are its first, where it is there, and those behind it
  first_and_behind : (last : Option (List ℕ)) (serials : List (List ℕ)) → AreRising last serials
      → count serials ≡ count (filter is_behind serials) + cond (list_any (bytes_eq first_text) serials) 1 0
  first_and_behind last [] rising = refl
  first_and_behind last (x ∷ xs) rising =
      let rest = first_and_behind (Some x) xs rising.1 in
      elim (cases_Bool (bytes_eq first_text x)) [
        | inl equal ↦
            let same : first_text ≡ x = (bytes_eq-Decides first_text x).0 equal in
            let has : has_serial r x ≡ true = has_at r x r.first (omega arith, omega (arith, is.some)) (sym same) in
            let here : is_behind x ≡ false = ap (λ t. is_lt (text_cmp first_text t)) (sym same) ∙ not_before_itself first_text in
            let none : list_any (bytes_eq first_text) xs ≡ false = ap (λ t. list_any (bytes_eq t) xs) same ∙ rises_apart x xs rising.1 in
            let all : count xs ≡ count (filter is_behind xs) + 0 = rw none at rest in
            rw (equal, has, here) (omega (arith, all))
        | inr other ↦ elim (cases_Bool (is_behind x)) [
          | inl behind ↦ rw (other, behind) (elim (has_serial r x) as (λ b. length (cond b (x ∷ filter (has_serial r) xs) (filter (has_serial r) xs))
              ≡ length (cond b (x ∷ filter (has_serial r) (filter is_behind xs)) (filter (has_serial r) (filter is_behind xs)))
              + cond (list_any (bytes_eq first_text) xs) 1 0) [
                | true ↦ omega (arith, rest)
                | false ↦ rest
              ])
          | inr before ↦ let none = first_or_behind r is x other before in rw (other, before, none) rest
        ]
      ]

-- the given serial numbers of an issuer behind a text
pub serials_behind : (issuer text : List ℕ) (rows : List (OfCustomer Given)) → map (λ (g : OfCustomer Given). g.row.serial) (filter
    (is_given_behind issuer text) rows) ≡ filter (λ s. is_lt (text_cmp text s)) (serials_in (filter (is_of_issuer issuer) rows))
serials_behind issuer text [] = refl
serials_behind issuer text (g ∷ rows) =
    elim (is_of_issuer issuer g) as (λ b. map (λ (g : OfCustomer Given). g.row.serial) (cond (b && is_lt (text_cmp text g.row.serial))
    (g ∷ filter (is_given_behind issuer text) rows) (filter (is_given_behind issuer text) rows))
    ≡ filter (λ s. is_lt (text_cmp text s)) (serials_in (cond b (g ∷ filter (is_of_issuer issuer) rows) (filter (is_of_issuer issuer) rows)))) [
      | true ↦ elim (is_lt (text_cmp text g.row.serial)) as (λ b. map (λ (g : OfCustomer Given). g.row.serial) (cond b
          (g ∷ filter (is_given_behind issuer text) rows) (filter (is_given_behind issuer text) rows))
          ≡ cond b (g.row.serial ∷ filter (λ s. is_lt (text_cmp text s)) (serials_in (filter (is_of_issuer issuer) rows)))
          (filter (λ s. is_lt (text_cmp text s)) (serials_in (filter (is_of_issuer issuer) rows)))) [
            | true ↦ ap (λ rest. g.row.serial ∷ rest) (serials_behind issuer text rows)
            | false ↦ serials_behind issuer text rows
          ]
      | false ↦ serials_behind issuer text rows
    ]

-- what the walk leaves is the number of those that aren't given
pub left_walked : (r : Range) → IsRange r → (issuer : List ℕ) (t : Tables) → IsAscending given_cmp t.given → (old new : SerialScan) → old.range ≡ r
    → old.last ≡ serial_text r (r.first + r.quantity - 1)
    → old.left ≡ r.quantity - cond (is_some (given_at issuer (serial_text r r.first) t)) 1 0
    → Visits TakesSerial old (map (λ (g : OfCustomer Given). g.row.serial) (filter (is_given_behind issuer (serial_text r r.first)) t.given)) new
    → new.left ≡ count_unused (has_issued_in t issuer) r
left_walked r is issuer t ascending old new range last left v =
    let serials = serials_in (filter (is_of_issuer issuer) t.given) in
    let rising = serials_rise issuer t.given ascending in
    let end = walked r is old new None serials rising range last (rw (serials_behind issuer (serial_text r r.first) t.given) at v) in
    let split = first_and_behind r is None serials rising in
    let whole = left_count r is None serials rising in
    let first : is_some (given_at issuer (serial_text r r.first) t) ≡ list_any (bytes_eq (serial_text r r.first)) serials =
    given_is_listed issuer (serial_text r r.first) t.given in
    let begin : old.left ≡ r.quantity - cond (list_any (bytes_eq (serial_text r r.first)) serials) 1 0 =
    left ∙ ap (λ b. r.quantity - cond b 1 0) first in
    let tests : is_unused (has_issued_in t issuer) r ≡ is_new serials r =
    fun_ext (λ n. ap not (given_is_listed issuer (serial_text r n) t.given)) in
    let unused : count_unused (has_issued_in t issuer) r ≡ length (filter (is_new serials r) (numbers r)) =
    ap (λ (test : ℕ → Bool). length (filter test (numbers r))) tests in
    omega (arith, end, split, whole, begin, unused)

-- What a run of given serial numbers says of the numbers that it has.
use Rattle.std.proofs.Common.{◌≡◌, ◌∙◌, ◌+◌, ◌-◌, ◌^◌, ◌<◌, ◌≤◌, ◌&&◌, ℕ, Bool, true, false, cond, List, [], ◌∷◌, map, filter, find, Some, refl, sym, ap, min}
use Rattle.std.proofs.Common.{bytes_eq, nat_le, nat_lt, arith}
use Rattle.text_core.proofs.Kit.{is_some, AllByRecursion, and_parts, bytes_eq-Decides, cases_Bool, cases_lt, inl, inr}
use Rattle.id_ranges.specs.Prelude.{serial_text, EndsGiven, Range, TextSet}
use Rattle.office_judges.proofs.Types.{Given, GivenRun, OfCustomer}
use Rattle.office_tables.specs.Prelude.{is_given_behind, is_of_issuer, is_serial_of, Visits}
use Rattle.office_judges.specs.Prelude.{is_text_of, PassesGiven}

-- what is found in the end of some rows is found in all of them
found_later : (test : OfCustomer Given → Bool) (row : OfCustomer Given) (rows : List (OfCustomer Given)) → is_some (find test rows) ≡ true
    → is_some (find test (row ∷ rows)) ≡ true
found_later test row rows found = elim (test row) as (λ b. is_some (cond b (Some row) (find test rows)) ≡ true) [ true ↦ refl | false ↦ found ]

-- a record of an issuer's is that of its serial number
is_its_own : (issuer serial : List ℕ) (row : OfCustomer Given) → is_given_behind issuer serial row ≡ true → is_serial_of issuer row.row.serial row ≡ true
is_its_own issuer serial row is =
    let of = (and_parts (is_of_issuer issuer row) _ is).0 in
    rw (of, (bytes_eq-Decides row.row.serial row.row.serial).1 refl) refl

-- the serial numbers that a visit hands over are given
pub behind_is_given : (issuer serial : List ℕ) (all rows : List (OfCustomer Given))
    → ((test : OfCustomer Given → Bool) → is_some (find test rows) ≡ true → is_some (find test all) ≡ true)
    → AllByRecursion (λ s. is_some (find (is_serial_of issuer s) all) ≡ true) (map (λ g. g.row.serial) (filter (is_given_behind issuer serial) rows))
behind_is_given issuer serial all [] among = tt
behind_is_given issuer serial all (row ∷ rows) among =
    let rest = behind_is_given issuer serial all rows (λ test found. among test (found_later test row rows found)) in
    elim (cases_Bool (is_given_behind issuer serial row)) [
      | inl is ↦
          let its = is_its_own issuer serial row is in
          rw is (among (is_serial_of issuer row.row.serial) (rw its refl), rest)
      | inr isnt ↦ rw isnt rest
    ]

-- what is a number's text is its serial number
text_at : (r : Range) (number : ℕ) (text : List ℕ) → is_text_of r number text ≡ true → serial_text r number ≡ text
text_at r number text is =
    let within = nat_le r.first number && nat_lt number (r.first + r.quantity) in
    (bytes_eq-Decides (serial_text r number) text).0 (and_parts within (bytes_eq (serial_text r number) text) is).1

-- the numbers that a run passes are given
pub passed_is_given : (given : TextSet) (old : GivenRun) (serials : List (List ℕ)) (new : GivenRun) → Visits PassesGiven old serials new
    → AllByRecursion (λ s. given s ≡ true) serials → (k : ℕ) → old.end ≤ k → k < new.end → given (serial_text old.range k) ≡ true
passed_is_given given old [] new same are k low high =
    let stays : new.end ≡ old.end = ap (λ (r : GivenRun). r.end) same in
    absurd (omega arith)
passed_is_given given old (serial ∷ serials) new (true, mid, taken, later) are k low high =
    elim (cases_lt old.end k) [
      | inl past ↦
          let longer : mid.end ≡ min (old.end + 1) (2 ^ 64 - 1) = taken.longer refl in
          rw (← taken.range) (passed_is_given given mid serials new later are.1 k (omega (arith, longer, past)) high)
      | inr here ↦
          let same : k ≡ old.end = omega arith in
          rw (same, text_at old.range old.end serial (sym taken.tested)) are.0
    ]
passed_is_given given old (serial ∷ serials) new (false, mid, taken, later) are k low high =
    let stays : new.end ≡ old.end = ap (λ (r : GivenRun). r.end) later ∙ taken.ended refl in
    absurd (omega arith)

-- a number that is given, and those that a run behind it passes, up to an end
pub run_ends : (given : TextSet) (range : Range) (number : ℕ) (old new : GivenRun) (serials : List (List ℕ)) (end : ℕ) → old.range ≡ range
    → old.end ≡ number + 1 → given (serial_text range number) ≡ true → Visits PassesGiven old serials new → AllByRecursion (λ s. given s ≡ true) serials
    → number < end → (number + 1 < end → end ≤ new.end) → EndsGiven given range number end
run_ends given range number old new serials end is from here visits are past high = record {
  all = λ k low below.
      elim (cases_lt number k) [
        | inl later ↦ rw (← is) (passed_is_given given old serials new visits are k (omega arith) (omega (arith, high (omega arith))))
        | inr first ↦
            let same : k ≡ number = omega arith in
            rw same here
      ];
  none = λ same. absurd (omega arith);
}

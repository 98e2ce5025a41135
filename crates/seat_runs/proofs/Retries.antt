-- What the retry rule says of a seat's row.
use Rattle.std.proofs.Common.{◌≡◌, ◌+◌}
use Rattle.text_core.proofs.Kit.{◌∙◌, ℕ, Bool, true, false, List, Option, Some, None, refl, sym, ap, bytes_eq}
use Rattle.text_core.proofs.Kit.{eqb-true, eq-eqb, same_text}
use Rattle.std.proofs.Common.{if◌then◌else◌, ◌==◌}
use Rattle.office_tables.specs.declared.rows.SeatState.{SeatState}
use Rattle.office_rules.specs.declared.retry.Retry.{Retry}
use Rattle.office_rules.specs.declared.retry.Retry.TheVariants.{Differs, Next, Repeats, Skips}
use Rattle.office_rules.specs.Prelude.{retry_of}
use Rattle.office_laws.specs.Prelude.{last_number_of_seat}

-- the row has the number
pub record IsLast (found : Option SeatState) (number : ℕ) : Type 0 where
  pub row : SeatState
  pub there : found ≡ Some row
  pub last : row.last ≡ number

-- the row has the number and the digest, and this reply
pub record IsSame (found : Option SeatState) (number : ℕ) (digest body : List ℕ) : Type 0 where
  pub row : SeatState
  pub there : found ≡ Some row
  pub last : row.last ≡ number
  pub digest_of : digest ≡ row.digest
  pub reply : row.reply ≡ body

-- the row has the number, and another digest
pub record IsDifferent (found : Option SeatState) (number : ℕ) (digest : List ℕ) : Type 0 where
  pub row : SeatState
  pub there : found ≡ Some row
  pub last : row.last ≡ number
  pub other : bytes_eq digest row.digest ≡ false

-- the number is neither the row's nor the one after it, which is expected
pub record IsSkipped (found : Option SeatState) (number expected : ℕ) : Type 0 where
  pub next : expected ≡ last_number_of_seat found + 1
  pub not_next : number ≡ expected → ⊥
  pub not_last : IsLast found number → ⊥

-- the rule by its tests
abbrev ruled : SeatState → Bool → Bool → Bool → Retry
ruled s last same next = if last then (if same then Repeats s.reply else Differs)
    else (if next then Next else Skips (s.last + 1))

abbrev first_ruled : Bool → Retry
first_ruled first = if first then Next else Skips 1

pub is_same : (found : Option SeatState) (n : ℕ) (digest body : List ℕ) → retry_of found n digest ≡ Repeats body
    → IsSame found n digest body
is_same None n digest body e = by (n == 1) e
  where
    by : (first : Bool) → first_ruled first ≡ Repeats body → IsSame None n digest body
    by true e = cc
    by false e = cc
is_same (Some s) n digest body e = by (n == s.last) (bytes_eq digest s.digest) (n == s.last + 1) refl refl e
  where
    by : (last same next : Bool) → (n == s.last) ≡ last → bytes_eq digest s.digest ≡ same
        → ruled s last same next ≡ Repeats body → IsSame (Some s) n digest body
    by true true next is text e = record {
      row = s;
      there = refl;
      last = sym (eqb-true n s.last is);
      digest_of = same_text digest s.digest text;
      reply = (cc);
    }
    by true false next is text e = cc
    by false same true is text e = cc
    by false same false is text e = cc

pub is_different : (found : Option SeatState) (n : ℕ) (digest : List ℕ) → retry_of found n digest ≡ Differs
    → IsDifferent found n digest
is_different None n digest e = by (n == 1) e
  where
    by : (first : Bool) → first_ruled first ≡ Differs → IsDifferent None n digest
    by true e = cc
    by false e = cc
is_different (Some s) n digest e = by (n == s.last) (bytes_eq digest s.digest) (n == s.last + 1) refl refl e
  where
    by : (last same next : Bool) → (n == s.last) ≡ last → bytes_eq digest s.digest ≡ same
        → ruled s last same next ≡ Differs → IsDifferent (Some s) n digest
    by true true next is text e = cc
    by true false next is text e =
        record { row = s; there = refl; last = sym (eqb-true n s.last is); other = text }
    by false same true is text e = cc
    by false same false is text e = cc

-- two numbers that the test tells apart
apart : (a b : ℕ) → (a == b) ≡ false → a ≡ b → ⊥
apart a b t e = let s : (a == b) ≡ true = eq-eqb a b e in cc

not_last : (s : SeatState) (n : ℕ) → (n == s.last) ≡ false → IsLast (Some s) n → ⊥
not_last s n t is =
    let there = is.there in
    let same : s ≡ is.row = cc in
    apart n s.last t (sym is.last ∙ ap (λ (r : SeatState). r.last) (sym same))

none_last : (n : ℕ) → IsLast None n → ⊥
none_last n is = let there = is.there in cc

pub is_skipped : (found : Option SeatState) (n : ℕ) (digest : List ℕ) (expected : ℕ)
    → retry_of found n digest ≡ Skips expected → IsSkipped found n expected
is_skipped None n digest expected e = by (n == 1) refl e
  where
    by : (first : Bool) → (n == 1) ≡ first → first_ruled first ≡ Skips expected → IsSkipped None n expected
    by true is e = cc
    by false is e =
        let one : 1 ≡ expected = cc in
        record {
          next = sym one;
          not_next = λ same. apart n 1 is (same ∙ sym one);
          not_last = none_last n;
        }
is_skipped (Some s) n digest expected e =
    by (n == s.last) (bytes_eq digest s.digest) (n == s.last + 1) refl refl e
  where
    by : (last same next : Bool) → (n == s.last) ≡ last → (n == s.last + 1) ≡ next
        → ruled s last same next ≡ Skips expected → IsSkipped (Some s) n expected
    by true true next is after e = cc
    by true false next is after e = cc
    by false same true is after e = cc
    by false same false is after e =
        let one : s.last + 1 ≡ expected = cc in
        record {
          next = sym one;
          not_next = λ same. apart n (s.last + 1) after (same ∙ sym one);
          not_last = not_last s n is;
        }

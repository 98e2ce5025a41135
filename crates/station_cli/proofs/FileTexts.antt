-- What the bytes of a file give, by what reading their text gives.
use Rattle.std.proofs.Common.{IsErrAnd, MatchResult, ◌≡◌, ◌≤◌, ℕ, List, length, Bool, true, false, Result, Ok, Err, inl, inr, refl, sym, subst, ap, ◌∙◌, IfOk}
use Rattle.std.proofs.Common.{nat_lt, if◌then◌else◌, Bor, IsUtf8, le-ltb}
use Rattle.std.specs.Str.{is_utf8}
use Rattle.std.proofs.lemmas.Str.{is_utf8-from_IsUtf8, IsUtf8-from_is_utf8}
use Rattle.station_cli.specs.Prelude.{or_failure, text_of_file}
use Rattle.station_cli.specs.declared.failure.Failure.{Failure}
use Rattle.station_cli.specs.declared.failure.Failure.TheVariants.{CannotRead, NoMemory}
use Rattle.text_core.specs.Prelude.{GivesUnless, result_and_then, result_map}

-- bytes that are a text are the text
pub text_of_file-text : (name : Bor (List ℕ)) (bytes : List ℕ) (limit : ℕ) (too_long : Failure) → length bytes ≤ limit → IsUtf8 bytes
    → Ok bytes ≡ text_of_file name bytes limit too_long
text_of_file-text name bytes limit too_long within text = rw (le-ltb limit (length bytes) within, is_utf8-from_IsUtf8 bytes text) refl

-- bytes that are no text can't be read
pub text_of_file-no_text : (name : Bor (List ℕ)) (bytes : List ℕ) (limit : ℕ) (too_long : Failure) → length bytes ≤ limit → ¬ IsUtf8 bytes
    → Err (CannotRead name) ≡ text_of_file name bytes limit too_long
text_of_file-no_text name bytes limit too_long within none = go (is_utf8 bytes) refl
  where
    go : (b : Bool) → is_utf8 bytes ≡ b → Err (CannotRead name) ≡ text_of_file name bytes limit too_long
    go true is = absurd (none (IsUtf8-from_is_utf8 bytes is))
    go false is = rw (le-ltb limit (length bytes) within, is) refl

-- a fault passed on as a failure
passed : {A Fault : Type 0} (failure_of : Fault → Failure) (r : Result A Fault) (out : Result A Failure)
    → MatchResult r (λ value. out ≡ Ok value) (λ fault. IsErrAnd out (λ failure. failure ≡ failure_of fault)) → out ≡ or_failure failure_of r
passed failure_of (Ok value) out is = is
passed failure_of (Err fault) (Ok value) is = absurd is
passed failure_of (Err fault) (Err failure) is = ap Err is

-- what a text gave, with its fault passed on as a failure
pub given_of_text : {A Fault : Type 0} (failure_of : Fault → Failure) (none : Fault) (read : List ℕ → Result A Fault)
    (found : Result (List ℕ) Failure) (text : List ℕ) (r : Result A Fault) (out : Result A Failure)
    → failure_of none ≡ NoMemory → Ok text ≡ found → GivesUnless none r (read text)
    → MatchResult r (λ value. out ≡ Ok value) (λ fault. IsErrAnd out (λ failure. failure ≡ failure_of fault))
    → GivesUnless NoMemory out (result_and_then (λ t. or_failure failure_of (read t)) found)
given_of_text failure_of none read found text r out memory is_text given is =
    let same : out ≡ or_failure failure_of r = passed failure_of r out is in
    elim given [
      | inl wanted ↦ inl (same ∙ (ap (or_failure failure_of) wanted ∙ ap (result_and_then (λ t. or_failure failure_of (read t))) is_text))
      | inr out_of_memory ↦ inr (same ∙ (ap (or_failure failure_of) out_of_memory ∙ ap Err memory))
    ]

-- a part of what was read, with the fault of the whole passed on as a failure
pub part_passed : {A B Fault : Type 0} (part : A → B) (failure_of : Fault → Failure) (r : Result A Fault) (out : Result A Failure)
    → MatchResult r (λ value. out ≡ Ok value) (λ fault. IsErrAnd out (λ failure. failure ≡ failure_of fault))
    → MatchResult (result_map part r) (λ value. result_map part out ≡ Ok value)
    (λ fault. IsErrAnd (result_map part out) (λ failure. failure ≡ failure_of fault))
part_passed part failure_of (Ok value) out is = ap (result_map part) is
part_passed part failure_of (Err fault) (Ok value) is = absurd is
part_passed part failure_of (Err fault) (Err failure) is = is

-- what holds of the value that was read
pub value_passed : {A Fault : Type 0} (failure_of : Fault → Failure) (P : A → Type 0) (r : Result A Fault) (out : Result A Failure)
    → MatchResult r (λ value. out ≡ Ok value) (λ fault. IsErrAnd out (λ failure. failure ≡ failure_of fault)) → IfOk r P → IfOk out P
value_passed failure_of P (Ok value) out is holds = subst (λ o. IfOk o P) (sym is) holds
value_passed failure_of P (Err fault) (Ok value) is holds = absurd is
value_passed failure_of P (Err fault) (Err failure) is holds = tt

-- the text of bytes has the same bytes
pub text_is_bytes : (name : Bor (List ℕ)) (bytes text : List ℕ) (limit : ℕ) (too_long : Failure)
    → Ok text ≡ text_of_file name bytes limit too_long → text ≡ bytes
text_is_bytes name bytes text limit too_long is = by (nat_lt limit (length bytes)) (is_utf8 bytes) is
  where
    by : (long utf8 : Bool) → Ok text ≡ (if long then Err too_long else if utf8 then Ok bytes else Err (CannotRead name)) → text ≡ bytes
    by true utf8 is = cc
    by false true is = cc
    by false false is = cc

-- A station can read each answer of the office.
use Rattle.std.proofs.Common.{◌≡◌, ◌-◌, ◌≤◌, ◌∷◌, ◌++◌, ◌==◌}
use Rattle.text_core.proofs.Kit.{◌∙◌, ℕ, List, [], bytes_eq, codes, decimal, decimal_is_IsNumeral, drop, find, length, length-append, arith}
use Rattle.text_core.proofs.Kit.{not, refl, ap, take, take-append_seam}
use Rattle.std.specs.Prelude.{if◌then◌else◌, take_while}
use Rattle.std.specs.Option.{option_map_or}
use Rattle.std.specs.Str.Parse.{digits_value}
use Rattle.http_replies.specs.Prelude.{Answer as Response, code_of}
use Rattle.fuse_plan.specs.declared.fault.PlanFault.TheVariants.{UnknownField, UnmappedBit, ValueTooWide, ClearsBurnt, Contradiction}
use Rattle.fuse_plan.specs.declared.fault.PlanFault.TheVariants.{WrongKind, OtherKey, WriteProtected, Hidden, NoLock}
use Rattle.office_commands.specs.declared.refusal.Refusal.{Refusal}
use Rattle.office_commands.specs.declared.refusal.Refusal.TheVariants.{UnknownToken, UnknownPath, WrongCaller, BadJson, BadMember}
use Rattle.office_commands.specs.declared.refusal.Refusal.TheVariants.{WrongNumber, OtherBody, UnknownMap, UnknownOrder}
use Rattle.office_commands.specs.declared.refusal.Refusal.TheVariants.{UnknownDevice, Exists, WrongState, QuantityReached, BadPlan}
use Rattle.office_commands.specs.declared.refusal.Refusal.TheVariants.{BadMap, BadSerial, NumberTooWide, Exhausted, NoMacRoom}
use Rattle.office_commands.specs.declared.refusal.Refusal.TheVariants.{RangeOverlap, KeyBound, CodingScheme, ForeignIssuer}
use Rattle.office_commands.specs.declared.refusal.Refusal.TheVariants.{ImportConflict, MapDigestTaken, Limit, BadReadback}
use Rattle.office_commands.specs.declared.refusal.Refusal.TheVariants.{BadNotBefore}
use Rattle.office_commands.specs.Prelude.{refusal_body, refusal_number, refusal_row, unkept}
use Rattle.office_laws.proofs.OwnRetries.{not_success}
use Rattle.seat_laws.specs.Prelude.{Answer, accepts, refuses}
use Rattle.seat_runs.specs.Prelude.{ReadsRefusals, ReadsReplies, expected_in}

-- the name of a refusal in its body: what comes behind the first quotation mark of its value
abbrev name_in : List ℕ → List ℕ
name_in body = take_while (λ c. not (c == 34)) (drop 10 body)

-- one refusal of each name
abbrev reasons : List Refusal
reasons = UnknownToken ∷ UnknownPath ∷ WrongCaller ∷ BadJson ∷ BadMember ∷ WrongNumber 0 ∷ OtherBody
    ∷ UnknownMap ∷ UnknownOrder ∷ UnknownDevice ∷ Exists ∷ WrongState ∷ QuantityReached
    ∷ BadPlan UnknownField ∷ BadPlan UnmappedBit ∷ BadPlan ValueTooWide ∷ BadPlan ClearsBurnt
    ∷ BadPlan Contradiction ∷ BadPlan WrongKind ∷ BadPlan OtherKey ∷ BadPlan WriteProtected
    ∷ BadPlan Hidden ∷ BadPlan NoLock ∷ BadMap 0 ∷ BadSerial ∷ NumberTooWide ∷ Exhausted ∷ NoMacRoom
    ∷ RangeOverlap ∷ KeyBound ∷ CodingScheme ∷ ForeignIssuer ∷ ImportConflict [] ∷ MapDigestTaken
    ∷ Limit ∷ BadReadback ∷ BadNotBefore ∷ unkept ∷ []

abbrev number_of : List ℕ → ℕ
number_of name = option_map_or (λ r. refusal_number r) (find (λ r. bytes_eq name (refusal_row r).name) reasons) 0

-- what comes behind the number that is expected, in the body of `wrong_number`
abbrev end_text : List ℕ
end_text = codes ",\"no\":" ++ (decimal 11 ++ codes "}")

-- the number stands between the first 35 bytes and these
abbrev expected_text : List ℕ → List ℕ
expected_text body = take (length (drop 35 body) - length end_text) (drop 35 body)

abbrev expected_of : List ℕ → ℕ
expected_of body = if bytes_eq (name_in body) (codes "wrong_number") then digits_value 10 (expected_text body) else 0

abbrev pub reading : (List ℕ → ℕ) → Response → Answer
reading name_of x =
    if code_of x.status == 200 then accepts (name_of x.body)
    else refuses (number_of (name_in x.body)) (expected_of x.body)

pub reads_replies : (name_of : List ℕ → ℕ) → ReadsReplies name_of (reading name_of)
reads_replies name_of body = refl

-- a refusal is read as it is
abbrev IsRead : Refusal → Type 0
IsRead reason = (number_of (name_in (refusal_body reason)) ≡ refusal_number reason)
    × (expected_of (refusal_body reason) ≡ expected_in reason)

wrong_number_text : (expected : ℕ) → expected_text (refusal_body (WrongNumber expected)) ≡ decimal expected
wrong_number_text expected =
    let n = length-append (decimal expected) end_text in
    let e : length (decimal expected ++ end_text) - length end_text ≡ length (decimal expected) = omega arith in
    (λ i. take (e i) (decimal expected ++ end_text)) ∙ take-append_seam (decimal expected) end_text

wrong_number_read : (expected : ℕ) → expected ≤ 9007199254740991 → IsRead (WrongNumber expected)
wrong_number_read expected few =
    (refl, ap (digits_value 10) (wrong_number_text expected) ∙ (decimal_is_IsNumeral expected (omega arith)).1)

is_read : (reason : Refusal) → expected_in reason ≤ 9007199254740991 → IsRead reason
is_read (WrongNumber expected) few = wrong_number_read expected few
is_read (BadPlan UnknownField) few = (refl, refl)
is_read (BadPlan UnmappedBit) few = (refl, refl)
is_read (BadPlan ValueTooWide) few = (refl, refl)
is_read (BadPlan ClearsBurnt) few = (refl, refl)
is_read (BadPlan Contradiction) few = (refl, refl)
is_read (BadPlan WrongKind) few = (refl, refl)
is_read (BadPlan OtherKey) few = (refl, refl)
is_read (BadPlan WriteProtected) few = (refl, refl)
is_read (BadPlan Hidden) few = (refl, refl)
is_read (BadPlan NoLock) few = (refl, refl)
is_read _ few = (refl, refl)

pub reads_refusals : (name_of : List ℕ → ℕ) → ReadsRefusals (reading name_of)
reads_refusals name_of reason few =
    let r = is_read reason few in rw (not_success reason, r.0, r.1) refl

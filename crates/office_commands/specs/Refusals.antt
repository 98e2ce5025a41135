-- What a refused request is answered: a status (RFC 9110, section 15) and a body with the refusal's name and number.
use Rattle.std.specs.Prelude.{◌≡◌, ◌⊎◌, ◌+◌, ℕ, List, [], ◌++◌, ◌∷◌, codes, decimal}
use Rattle.http_replies.specs.declared.Status.{Status}
use Rattle.http_replies.specs.declared.Status.TheVariants.{BadRequest, Unauthorized, Forbidden, NotFound, Conflict, Unprocessable, Unavailable}
use Rattle.fuse_plan.specs.declared.fault.PlanFault.{PlanFault}
use Rattle.fuse_plan.specs.declared.fault.PlanFault.TheVariants.{UnknownField, UnmappedBit, ValueTooWide, ClearsBurnt, Contradiction, WrongKind, OtherKey}
use Rattle.fuse_plan.specs.declared.fault.PlanFault.TheVariants.{WriteProtected, Hidden, NoLock}
use Rattle.office_commands.specs.declared.refusal.Refusal.{Refusal}
use Rattle.office_commands.specs.declared.refusal.Refusal.TheVariants.{UnknownToken, UnknownPath, WrongCaller, BadJson, BadMember, WrongNumber, OtherBody}
use Rattle.office_commands.specs.declared.refusal.Refusal.TheVariants.{UnknownMap, UnknownOrder, UnknownDevice, Exists, WrongState, QuantityReached, BadPlan}
use Rattle.office_commands.specs.declared.refusal.Refusal.TheVariants.{BadMap, BadSerial, NumberTooWide, Exhausted, NoMacRoom, RangeOverlap, KeyBound}
use Rattle.office_commands.specs.declared.refusal.Refusal.TheVariants.{CodingScheme, ForeignIssuer, ImportConflict, MapDigestTaken, Limit, BadReadback}
use Rattle.office_commands.specs.declared.refusal.Refusal.TheVariants.{BadNotBefore, Unkept}

-- the number and the name of the refusal for each fault of wishes
abbrev pub plan_fault_row : PlanFault → ℕ × List ℕ
plan_fault_row UnknownField = (19, codes "unknown_field")
plan_fault_row UnmappedBit = (20, codes "unmapped_bit")
plan_fault_row ValueTooWide = (21, codes "value_too_wide")
plan_fault_row ClearsBurnt = (22, codes "clears_burnt")
plan_fault_row Contradiction = (23, codes "contradiction")
plan_fault_row WrongKind = (24, codes "wrong_kind")
plan_fault_row OtherKey = (25, codes "other_key")
plan_fault_row WriteProtected = (26, codes "write_protected")
plan_fault_row Hidden = (27, codes "hidden")
plan_fault_row NoLock = (28, codes "no_lock")

-- what there is to know of a refusal: its number, its status, which is Conflict where the books as they are stand against the request, and its name
pub record RefusalRow : Type 0 where
  pub number : ℕ
  pub status : Status
  pub name : List ℕ

-- the row of each refusal
abbrev pub refusal_row : Refusal → RefusalRow
refusal_row UnknownToken = record { number = 6; status = Unauthorized; name = codes "unknown_token" }
refusal_row UnknownPath = record { number = 7; status = NotFound; name = codes "unknown_path" }
refusal_row WrongCaller = record { number = 8; status = Forbidden; name = codes "wrong_caller" }
refusal_row BadJson = record { number = 9; status = BadRequest; name = codes "bad_json" }
refusal_row BadMember = record { number = 10; status = BadRequest; name = codes "bad_member" }
refusal_row (WrongNumber expected) = record { number = 11; status = Conflict; name = codes "wrong_number" }
refusal_row OtherBody = record { number = 12; status = Conflict; name = codes "other_body" }
refusal_row UnknownMap = record { number = 13; status = NotFound; name = codes "unknown_map" }
refusal_row UnknownOrder = record { number = 14; status = NotFound; name = codes "unknown_order" }
refusal_row UnknownDevice = record { number = 15; status = NotFound; name = codes "unknown_device" }
refusal_row Exists = record { number = 16; status = Conflict; name = codes "exists" }
refusal_row WrongState = record { number = 17; status = Conflict; name = codes "wrong_state" }
refusal_row QuantityReached = record { number = 18; status = Conflict; name = codes "quantity_reached" }
refusal_row (BadPlan fault) = record { number = (plan_fault_row fault).0; status = Unprocessable; name = (plan_fault_row fault).1 }
refusal_row (BadMap fault) = record { number = 29; status = Unprocessable; name = codes "bad_map" }
refusal_row BadSerial = record { number = 30; status = Unprocessable; name = codes "bad_serial" }
refusal_row NumberTooWide = record { number = 31; status = Unprocessable; name = codes "number_too_wide" }
refusal_row Exhausted = record { number = 32; status = Conflict; name = codes "exhausted" }
refusal_row NoMacRoom = record { number = 33; status = Conflict; name = codes "no_mac_room" }
refusal_row RangeOverlap = record { number = 34; status = Conflict; name = codes "range_overlap" }
refusal_row KeyBound = record { number = 35; status = Conflict; name = codes "key_bound" }
refusal_row CodingScheme = record { number = 36; status = Unprocessable; name = codes "coding_scheme" }
refusal_row ForeignIssuer = record { number = 37; status = Unprocessable; name = codes "foreign_issuer" }
refusal_row (ImportConflict serial) = record { number = 38; status = Conflict; name = codes "import_conflict" }
refusal_row MapDigestTaken = record { number = 39; status = Conflict; name = codes "map_digest_taken" }
refusal_row Limit = record { number = 40; status = Conflict; name = codes "limit" }
refusal_row BadReadback = record { number = 41; status = Unprocessable; name = codes "bad_readback" }
refusal_row BadNotBefore = record { number = 42; status = Unprocessable; name = codes "bad_not_before" }
refusal_row (Unkept _) = record { number = 50; status = Unavailable; name = codes "unkept" }

-- the refusal for want of memory or a failing store
abbrev pub unkept : Refusal
unkept = Unkept (record { cause = tt })

-- the number of a refusal
abbrev pub refusal_number : Refusal → ℕ
refusal_number r = (refusal_row r).number

-- the status of its reply
abbrev pub refusal_status : Refusal → Status
refusal_status r = (refusal_row r).status

-- what a refusal tells between its name and its number
abbrev pub told_before : Refusal → List ℕ
told_before (WrongNumber expected) = codes ",\"expected\":" ++ decimal expected
told_before (BadMap fault) = codes ",\"fault\":" ++ decimal fault
told_before _ = []

-- what a refusal tells behind its number
abbrev pub told_behind : Refusal → List ℕ
told_behind (ImportConflict serial) = codes ",\"serial\":\"" ++ (serial ++ codes "\"")
told_behind _ = []

-- a body with a name, a number, and what else is told before and behind the number
abbrev pub numbered_body : List ℕ → List ℕ → ℕ → List ℕ → List ℕ
numbered_body name before number behind =
    codes "{\"error\":\"" ++ (name ++ (codes "\"" ++ (before ++ (codes ",\"no\":" ++ (decimal number ++ (behind ++ codes "}"))))))

-- the body of a refusal: its name, its number, and what else it tells
abbrev pub refusal_body : Refusal → List ℕ
refusal_body r = numbered_body (refusal_row r).name (told_before r) (refusal_row r).number (told_behind r)

-- the body has the number as its member `no`, which a comma or the closing brace follows
pub record TellsNumber (body : List ℕ) (number : ℕ) : Type 0 where
  pub front : List ℕ
  pub next : ℕ
  pub rest : List ℕ
  pub told : body ≡ front ++ (codes "\"no\":" ++ (decimal number ++ next ∷ rest))
  pub ends : (next ≡ 44) ⊎ (next ≡ 125)

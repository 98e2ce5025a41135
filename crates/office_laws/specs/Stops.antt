-- Runs with stops.
use Rattle.std.specs.Prelude.{◌≡◌, ◌⊎◌, ◌&&◌, Bool, true, false, not, List, [], ◌∷◌, ◌++◌, Option}
use Rattle.std.specs.Prelude.{Some, IfSome}
use Rattle.std.specs.List.{AllByRecursion}
use Rattle.http_replies.specs.Prelude.{is_unavailable}
use Rattle.site_core.specs.Prelude.{PoolsDisjoint, Ownership, OwnershipGrows}
use Rattle.office_tables.specs.Prelude.{Tables}
use Rattle.office_laws.specs.Exchanges.{Call, Exchange, IsRun, FulfilsWanted, Wanted, asks}
use Rattle.office_laws.specs.Exchanges.{calls_of}
use Rattle.office_laws.specs.Growth.{IsSeat}

-- what was answered from one stop to the next, and the call that the stop cut off, if there is one
pub record Session : Type 0 where
  pub exchanges : List Exchange
  pub cut_off : Option Call

-- the call was answered 503
abbrev pub WasUnavailable : List Exchange → Call → Type 0
WasUnavailable [] c = ⊥
WasUnavailable (x ∷ xs) c = ((c ≡ x.0) × (is_unavailable x.1.status ≡ true)) ⊎ WasUnavailable xs c

-- the call is in doubt: it was cut off by the stop, or answered 503 since the stop before it
abbrev pub IsInDoubt : Session → Call → Type 0
IsInDoubt s c = (s.cut_off ≡ Some c) ⊎ WasUnavailable s.exchanges c

-- a request of the office is asked for
abbrev pub is_request : Wanted → Bool
is_request (asks request) = true
is_request other = false

-- what a stop leaves where these calls are in doubt: the tables as they stood, or those after one
-- step more, of a request of the office that is in doubt
abbrev pub IsLeft : (Call → Type 0) → Tables → List Exchange → Tables → Type 0
IsLeft InDoubt t [] left = left ≡ t
IsLeft InDoubt t (more ∷ []) left = InDoubt more.0 × (is_request more.0.wanted ≡ true)
    × FulfilsWanted more.0 more.0.wanted t more.1 left
IsLeft InDoubt t (more ∷ other ∷ others) left = ⊥

-- sessions, each but the first on what the stop before it left. `all` are their exchanges in turn,
-- with each step that a stop left at its place
abbrev pub IsStoppedRun : List Session → List Exchange → Tables → Tables → Type 0
IsStoppedRun [] all t t2 = (all ≡ []) × (t2 ≡ t)
IsStoppedRun (s ∷ ss) all t t2 =
    (mid : Tables) × IsRun s.exchanges t mid
    × (more : List Exchange) × (left : Tables) × IsLeft (IsInDoubt s) mid more left
    × (rest : List Exchange) × IsStoppedRun ss rest left t2 × (all ≡ s.exchanges ++ (more ++ rest))

-- the callers of each session are seats of one site. The first site grows from this one, each from
-- the one before it, and the last grows from the last of them
abbrev pub AreSessions : Ownership → List Session → Ownership → Type 0
AreSessions first [] last = OwnershipGrows first last
AreSessions first (s ∷ ss) last = (site : Ownership)
    × OwnershipGrows first site × PoolsDisjoint site
    × AllByRecursion (IsSeat site) (calls_of s.exchanges) × IfSome s.cut_off (IsSeat site)
    × AreSessions site ss last

-- A request of the office was answered, and not with 503: no call before it stays in doubt. What is
-- refused as it came doesn't ask the keeper, and a report only reads, so neither of them counts.
abbrev pub is_served : Exchange → Bool
is_served x = is_request x.0.wanted && not (is_unavailable x.1.status)

-- the call was answered 503, and no request of the office that came after it was answered otherwise
abbrev pub StaysInDoubt : List Exchange → Call → Type 0
StaysInDoubt [] c = ⊥
StaysInDoubt (x ∷ xs) c =
    ((c ≡ x.0) × (is_unavailable x.1.status ≡ true)
    × AllByRecursion (λ later. is_served later ≡ false) xs) ⊎ StaysInDoubt xs c

-- what a stop between two calls leaves after these exchanges, which led to t: only what stays in
-- doubt may be done
abbrev pub Leaves : List Exchange → Tables → Tables → Type 0
Leaves xs t left = (more : List Exchange) × IsLeft (StaysInDoubt xs) t more left

-- what a crash may leave after these exchanges, which led from t to t2: where before them, and
-- after whatever came before them, it could leave what a stop leaves, it can leave that after both
abbrev pub LeavesAfter : List Exchange → (Tables → Type 0) → Tables → (Tables → Type 0) → Tables
    → Type 0
LeavesAfter xs may_leave_before t may_leave_after t2 = (front : List Exchange)
    → ((left : Tables) → may_leave_before left → Leaves front t left)
    → (left : Tables) → may_leave_after left → Leaves (front ++ xs) t2 left

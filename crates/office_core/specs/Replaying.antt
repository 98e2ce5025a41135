-- Lists of requests and their replies.
use Rattle.std.specs.Prelude.{List, [], ◌∷◌, map, zip, flat_map}
use Rattle.http_replies.specs.Prelude.{answer_of}
use Rattle.http_replies.specs.declared.Reply.{Reply}
use Rattle.site_core.specs.Prelude.{IsGrowth, section_at, seat_name_at, Ownership, OwnershipGrows, ownership_of, SiteValue}
use Rattle.office_tables.specs.Prelude.{KeepsText, Stands, Tables}
use Rattle.office_tables.specs.declared.keep.Keep.{Ghosts}
use Rattle.office_laws.specs.Prelude.{IsSound, Call, call_by, Exchange, IsRun, Promises, LeavesAfter}
use Rattle.office_core.specs.declared.requests.Part.{Part}
use Rattle.office_core.specs.declared.requests.SeatRequest.{SeatRequest}

-- the call of a request, with the site's section of its customer
abbrev pub call_of : SiteValue → SeatRequest → Call
call_of site asked = call_by (section_at site asked.caller) (seat_name_at site asked.caller) asked.request

-- the calls of requests, in turn
abbrev pub calls_in : SiteValue → List SeatRequest → List Call
calls_in site requests = map (call_of site) requests

-- each request's call with its reply
abbrev pub exchanges_in : SiteValue → List SeatRequest → List Reply → List Exchange
exchanges_in site requests replies = zip (calls_in site requests) (map answer_of replies)

-- each site is a growth of the one before it
abbrev pub AreGrown : List SiteValue → Type 0
AreGrown [] = Unit {0}
AreGrown (site ∷ []) = Unit {0}
AreGrown (site ∷ next ∷ sites) = IsGrowth site next × AreGrown (next ∷ sites)

-- the owners of the first site, if there is one, grew from these owners
abbrev pub BeginGrown : Ownership → List SiteValue → Type 0
BeginGrown first [] = Unit {0}
BeginGrown first (site ∷ sites) = OwnershipGrows first (ownership_of site)

-- the owners of the last site, or these where there is no site
abbrev pub last_owners : Ownership → List SiteValue → Ownership
last_owners first [] = first
last_owners first (site ∷ sites) = last_owners (ownership_of site) sites

-- these exchanges lead from the tables that stood to those that stand; a crash after them leaves what a stop may leave, and tells of each
-- text of the site that it told of before
pub record Answered {K : Type 0} (k : Ghosts K) (old new : K) (xs : List Exchange) (t t2 : Tables) : Type 0 where
  pub run : IsRun xs t t2
  pub crash : LeavesAfter xs (k.may_leave old) t (k.may_leave new) t2
  pub text : KeepsText k.is_honest k.tells_text old new
  pub stands : Stands k.is_open k.tables new t2

-- Exchanges lead from the tables that stood to those that stand, where the store is honest after
-- them. From tables that are sound for owners from which those of the first site grew, all is kept
-- that is promised of a run.
abbrev pub KeepsPromises : {K : Type 0} → Ghosts K → List SiteValue → K → K → List Exchange → Type 0
KeepsPromises k sites old new xs =
    k.is_honest new → (t : Tables) → Stands k.is_open k.tables old t
    → (t2 : Tables) × Answered k old new xs t t2
    × ((first : Ownership) → BeginGrown first sites → IsSound first t → Promises (last_owners first sites) xs t t2)

-- the sites of parts, in turn
abbrev pub sites_of : List Part → List SiteValue
sites_of parts = map (λ part. part.site.now) parts

-- the calls of the requests of parts, each with its customer's section in the site of its part
abbrev pub calls_of_parts : List Part → List Call
calls_of_parts parts = flat_map (λ part. calls_in part.site.now part.requests.now) parts

-- each call of parts with its reply
abbrev pub exchanges_of_parts : List Part → List Reply → List Exchange
exchanges_of_parts parts replies = zip (calls_of_parts parts) (map answer_of replies)

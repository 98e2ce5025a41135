-- What a stream's requests make of the books.
use Rattle.std.specs.Prelude.{◌≡◌, ◌<◌, ℕ, List, length, Option}
use Rattle.std.specs.List.{AllByRecursion}
use Rattle.http_frames.specs.Prelude.{Request as HttpRequest}
use Rattle.http_replies.specs.Prelude.{Answer}
use Rattle.http_frames.specs.Prelude.{HttpExchange, requests_with_answers, Tells}
use Rattle.http_frames.specs.declared.serving.Served.{Served}
use Rattle.text_core.specs.Prelude.{Runs}
use Rattle.site_core.specs.Prelude.{section_in, PoolsDisjoint, Ownership, OwnershipGrows, ownership_of, SiteValue}
use Rattle.office_tables.specs.Prelude.{Stands, Tables}
use Rattle.office_tables.specs.declared.keep.Keep.{Ghosts}
use Rattle.office_laws.specs.Prelude.{IsSound, IsAsAlone, IsSeat, calls_of, exchanges_of, Promises}
use Rattle.office_core.specs.Prelude.{Answered}
use Rattle.station_api.specs.HttpAnswers.{AnswersHttp, AreSaid}
use Rattle.station_api.specs.SectionExchanges.{exchanges_with_seats, section_exchanges}

-- All is kept that is promised of a run. The customer's section alone decides which of the
-- exchanges with the site's seats are a customer's own. So the replies in them, and the customer's
-- rows, are those of the customer's own machine, run on the calls of these exchanges alone
pub record StreamKeepsPromises (site : SiteValue) (t : Tables) (exchanges : List (HttpRequest × Answer)) (t2 : Tables) : Type 0 where
  pub promises : Promises (ownership_of site) (exchanges_with_seats site exchanges) t t2
  pub own : (place : ℕ) → place < length site.customers
      → exchanges_of (section_in site.customers place).name (exchanges_with_seats site exchanges)
      ≡ section_exchanges (section_in site.customers place) exchanges
  pub isolated : (place : ℕ) → place < length site.customers
      → IsAsAlone (section_in site.customers place).name (section_exchanges (section_in site.customers place) exchanges) t t2

-- These exchanges lead from the tables before them to the tables after them. Those with seats are a
-- run, each of a seat of the site, whose customers are apart, and a crash leaves what a stop may
-- leave after them. From tables that are sound for the site, or for one that it grew from, the
-- books are kept
pub record IsLed {K : Type 0} (k : Ghosts K) (site : SiteValue) (old new : K) (exchanges : List (HttpRequest × Answer)) (t t2 : Tables) : Type 0 where
  pub run : Runs (AnswersHttp site) t exchanges t2
  pub answered : Answered k old new (exchanges_with_seats site exchanges) t t2
  pub apart : PoolsDisjoint (ownership_of site)
  pub seats : AllByRecursion (IsSeat (ownership_of site)) (calls_of (exchanges_with_seats site exchanges))
  pub books : (first : Ownership) → OwnershipGrows first (ownership_of site) → IsSound first t → StreamKeepsPromises site t exchanges t2

-- requests that were answered in turn lead from the tables that stood to those that stand, where the keeper's disk is honest after them
abbrev pub Leads : {K : Type 0} → Ghosts K → SiteValue → K → K → List (HttpRequest × Answer) → Type 0
Leads k site old new exchanges =
    k.is_honest new → (t : Tables) → Stands k.is_open k.tables old t → (t2 : Tables) × IsLed k site old new exchanges t t2

-- a stream that ended so was served over a keeper: its exchanges are what its bytes hold, where reader and writer
-- tell theirs; each is answered as it has to be whatever the store does; and they lead from the tables that stood
abbrev pub ServesOver : {K : Type 0} → Ghosts K → SiteValue → Option (List ℕ) → Option (List ℕ)
    → Option (List ℕ) → Option (List ℕ) → Served → K → K → Type 0
ServesOver k site left_old left_new written_old written_new served old new =
    (exchanges : List HttpExchange)
    × Tells left_old left_new written_old written_new served exchanges
    × AreSaid site (requests_with_answers exchanges)
    × Leads k site old new (requests_with_answers exchanges)

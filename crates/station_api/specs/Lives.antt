-- Stores that are served over until the program ends, and opened again.
use Rattle.std.specs.Prelude.{◌≡◌, ◌++◌, List, [], ◌∷◌, flat_map, map}
use Rattle.http_frames.specs.Prelude.{Request as HttpRequest}
use Rattle.http_replies.specs.Prelude.{Answer}
use Rattle.text_core.specs.Prelude.{Runs}
use Rattle.site_core.specs.Prelude.{IsSite, SiteValue}
use Rattle.office_tables.specs.Prelude.{Stands, Tables}
use Rattle.office_tables.specs.declared.keep.Keep.{Ghosts}
use Rattle.office_laws.specs.Prelude.{Exchange, IsLeft, StaysInDoubt}
use Rattle.station_api.specs.Books.{Leads}
use Rattle.station_api.specs.HttpAnswers.{AnswersHttp}
use Rattle.station_api.specs.SectionExchanges.{exchanges_with_seats}

-- A store in one start of the program, from its opening to the end. It was opened for a site on
-- these tables, and a crash could leave nothing else then. What was asked for, with the replies,
-- leads on from there. A request that the end cut off in its middle is one whose calls of the disk
-- failed from then on: it was answered 503, to nobody, and is among the exchanges
pub record ServedStore {K : Type 0} (k : Ghosts K) : Type 0 where
  pub site : SiteValue
  pub begun : Tables
  pub opened : K
  pub exchanges : List (HttpRequest × Answer)
  pub ended : K
  pub is_site : IsSite site
  pub fresh : (other : Tables) → k.may_leave opened other → other ≡ begun
  pub leads : Leads k site opened ended exchanges

-- One start of the program, whatever kept the tables. From the tables that it began with the
-- requests were answered in turn, and led to the tables at its end. The end left these, or the
-- tables after one step more, of a request that was answered 503 since the last one that wasn't
pub record Life : Type 0 where
  pub site : SiteValue
  pub begun : Tables
  pub exchanges : List (HttpRequest × Answer)
  pub stood : Tables
  pub more : List Exchange
  pub left : Tables
  pub is_site : IsSite site
  pub run : Runs (AnswersHttp site) begun exchanges stood
  pub leaves : IsLeft (StaysInDoubt (exchanges_with_seats site exchanges)) stood more left

-- this is the life of that store, whose end left these tables
pub record IsLifeOf {K : Type 0} {k : Ghosts K} (s : ServedStore k) (tables : Tables) (life : Life) : Type 0 where
  pub site : life.site ≡ s.site
  pub begun : life.begun ≡ s.begun
  pub exchanges : life.exchanges ≡ s.exchanges
  pub stands : Stands k.is_open k.tables s.ended life.stood
  pub left : life.left ≡ tables

-- one life after another, from these tables to those: each begins with the tables that the one before
-- it left
abbrev pub AreLives : Tables → List Life → Tables → Type 0
AreLives t [] t2 = t2 ≡ t
AreLives t (life ∷ lives) t2 = (life.begun ≡ t) × AreLives life.left lives t2

-- the sites of lives, in turn
abbrev pub sites_of_lives : List Life → List SiteValue
sites_of_lives lives = map (λ (life : Life). life.site) lives

-- all that was answered in them: each life's exchanges with the seats of its site, and behind them the
-- step that its end left, if it left one, as if it had been answered
abbrev pub exchanges_of_lives : List Life → List Exchange
exchanges_of_lives lives =
    flat_map (λ (life : Life). exchanges_with_seats life.site life.exchanges ++ life.more) lives

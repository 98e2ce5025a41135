-- What the laws of streams are said of: a run of requests to a site, from sound tables.
use Rattle.std.specs.Prelude.{◌≡◌, ◌<◌, ℕ, List, length}
use Rattle.http_frames.specs.Prelude.{Request as HttpRequest}
use Rattle.http_replies.specs.Prelude.{Answer}
use Rattle.text_core.specs.Prelude.{Runs}
use Rattle.site_core.specs.Prelude.{section_in, IsSite, Ownership, OwnershipGrows, ownership_of, Section, SiteValue}
use Rattle.office_tables.specs.Prelude.{Tables}
use Rattle.office_laws.specs.Prelude.{IsSound, calls_of, replies_of, view}
use Rattle.station_api.specs.HttpAnswers.{AnswersHttp}
use Rattle.station_api.specs.SectionExchanges.{section_exchanges}

-- requests that a site answers in turn make a run, from tables that are sound for the site or for
-- one that it grew from
pub record SiteRun : Type 0 where
  pub first : Ownership
  pub site : SiteValue
  pub exchanges : List (HttpRequest × Answer)
  pub old : Tables
  pub new : Tables
  pub is_site : IsSite site
  pub grew : OwnershipGrows first (ownership_of site)
  pub is_sound : IsSound first old
  pub is_run : Runs (AnswersHttp site) old exchanges new

-- the section is that of one of the site's customers
abbrev pub HasSection : SiteValue → Section → Type 0
HasSection site section =
    (place : ℕ) × (place < length site.customers) × (section_in site.customers place ≡ section)

-- before two runs the customer of a section has the same rows, and in both the customer's calls are
-- the same, those that were answered 503 aside
abbrev pub SiteRunsStartAlike : Section → SiteRun → SiteRun → Type 0
SiteRunsStartAlike section r other =
    (view section.name r.old ≡ view section.name other.old)
    × (calls_of (section_exchanges section r.exchanges) ≡ calls_of (section_exchanges section other.exchanges))

-- the replies to these calls are the same, and so are the customer's rows after both runs
abbrev pub SiteRunsEndAlike : Section → SiteRun → SiteRun → Type 0
SiteRunsEndAlike section r other =
    (replies_of (section_exchanges section r.exchanges) ≡ replies_of (section_exchanges section other.exchanges))
    × (view section.name r.new ≡ view section.name other.new)

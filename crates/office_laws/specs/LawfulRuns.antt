-- What the laws are said of: a step and a run, from sound tables.
use Rattle.std.specs.Prelude.{◌≡◌, ℕ, List, ◌++◌, Some}
use Rattle.http_replies.specs.Prelude.{Answer}
use Rattle.site_core.specs.Prelude.{IsSection, Ownership, Section}
use Rattle.fusemap_core.specs.Prelude.{Map}
use Rattle.fuse_image.specs.Prelude.{redacted}
use Rattle.office_tables.specs.Prelude.{Tables}
use Rattle.office_commands.specs.declared.command.Request.{Request}
use Rattle.office_rules.specs.Prelude.{Step, words_fit_map}
use Rattle.office_laws.specs.Sound.{IsSound}
use Rattle.office_laws.specs.View.{view}
use Rattle.office_laws.specs.Exchanges.{Exchange, IsRun, call_by, calls_of, replies_of}
use Rattle.office_laws.specs.Growth.{AreSeats}
use Rattle.office_laws.specs.Alone.{exchanges_of}

-- a request of a customer's seat makes a step, from tables that are sound for the site
pub record SeatStep : Type 0 where
  pub owners : Ownership
  pub section : Section
  pub seat : List ℕ
  pub request : Request
  pub reply : Answer
  pub old : Tables
  pub new : Tables
  pub is_section : IsSection owners section
  pub is_seat : owners.seat seat ≡ Some section.name
  pub is_sound : IsSound owners old
  pub is_step : Step section seat old request reply new

-- the request with its reply
abbrev pub exchange_of_step : SeatStep → Exchange
exchange_of_step x = (call_by x.section x.seat x.request, x.reply)

-- exchanges with seats of a site, which may grow between them, make a run, from tables that are
-- sound for the site as it was at first
pub record SeatRun : Type 0 where
  pub first : Ownership
  pub last : Ownership
  pub exchanges : List Exchange
  pub old : Tables
  pub new : Tables
  pub is_sound : IsSound first old
  pub are_seats : AreSeats first (calls_of exchanges) last
  pub is_run : IsRun exchanges old new

-- a run is cut in two, with these tables between
abbrev pub IsCut : SeatRun → List Exchange → Tables → List Exchange → Type 0
IsCut r front middle back =
    (r.exchanges ≡ front ++ back) × IsRun front r.old middle × IsRun back middle r.new

-- before two runs a customer has the same rows, and in both the customer's calls are the same,
-- those that were answered 503 aside
abbrev pub StartAlike : List ℕ → SeatRun → SeatRun → Type 0
StartAlike customer r other =
    (view customer r.old ≡ view customer other.old)
    × (calls_of (exchanges_of customer r.exchanges)
    ≡ calls_of (exchanges_of customer other.exchanges))

-- the replies to these calls are the same, and so are the customer's rows after both runs
abbrev pub EndAlike : List ℕ → SeatRun → SeatRun → Type 0
EndAlike customer r other =
    (replies_of (exchanges_of customer r.exchanges)
    ≡ replies_of (exchanges_of customer other.exchanges))
    × (view customer r.new ≡ view customer other.new)

-- the words of two read-backs fit a fuse map, or neither's do, and both show the same under it
abbrev pub ShowAlike : Map → List (List ℕ) → List (List ℕ) → Type 0
ShowAlike m words others =
    (words_fit_map m words ≡ words_fit_map m others) × (redacted m words ≡ redacted m others)

-- each step that a seat's request makes from these tables is one that the other makes
abbrev pub StepsAlike : Section → List ℕ → Tables → Request → Request → Type 0
StepsAlike s seat t request other =
    (reply : Answer) (t2 : Tables) → Step s seat t request reply t2 → Step s seat t other reply t2

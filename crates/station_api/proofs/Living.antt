-- The lives of a store, one after another, are one run.
use Rattle.std.proofs.Common.{◌≡◌, List, [], ◌∷◌, None, append_assoc, map, refl, subst}
use Rattle.site_core.specs.Prelude.{Ownership, ownership_of, SiteValue}
use Rattle.site_core.proofs.Kept.{owners_grown}
use Rattle.site_core.proofs.Owners.{owners_apart}
use Rattle.office_tables.specs.Prelude.{KeepsText, Tables}
use Rattle.office_tables.specs.declared.keep.Keep.{Ghosts}
use Rattle.office_laws.specs.Prelude.{AreSessions, calls_of, IsRun, IsSound, IsStoppedRun, Leaves, Promises, Session}
use Rattle.office_laws.proofs.Grown.{growth_itself}
use Rattle.office_laws.proofs.Leaving.{stop_leaves}
use Rattle.office_laws.proofs.Promising.{promises}
use Rattle.office_laws.proofs.Stopping.{stopped_runs, stopped_seats}
use Rattle.office_core.specs.Prelude.{AreGrown, BeginGrown, last_owners}
use Rattle.station_api.specs.Prelude.{AreLives, exchanges_of_lives, exchanges_with_seats, IsLed, IsLifeOf, Life, ServedStore, sites_of_lives}
use Rattle.station_api.proofs.KeptRuns.{run_of, seats_alone, seats_of}

module _ {K : Type 0} (k : Ghosts K) (s : ServedStore k) where
  -- what was asked for leads on from the tables that the store was opened on
  leads_from : (k.is_open s.opened → k.tables s.opened ≡ s.begun) → k.is_honest s.ended
      → (stood : Tables) × IsLed k s.site s.opened s.ended s.exchanges s.begun stood
  leads_from stands honest = s.leads honest s.begun stands

  -- what is left tells of the text that was told of
  pub kept_text : (k.is_open s.opened → k.tables s.opened ≡ s.begun) → KeepsText k.is_honest k.tells_text s.opened s.ended
  kept_text stands honest text told = (leads_from stands honest).1.answered.text honest text told

  -- a store that may leave these tables has a life
  pub stopped_life : (k.is_open s.opened → k.tables s.opened ≡ s.begun) → k.is_honest s.ended → (left : Tables) → k.may_leave s.ended left
      → (life : Life) × IsLifeOf s left life
  stopped_life stands honest left may =
      let led = leads_from stands honest in
      let made : Leaves (exchanges_with_seats s.site s.exchanges) led.0 left = led.1.answered.crash [] (λ other is. ([], s.fresh other is)) left may in (
        record {
          site = s.site;
          begun = s.begun;
          exchanges = s.exchanges;
          stood = led.0;
          more = made.0;
          left = left;
          is_site = s.is_site;
          run = led.1.run;
          leaves = made.1;
        },
        record { site = refl; begun = refl; exchanges = refl; stands = led.1.answered.stands; left = refl },
      )

  -- a store that is open has a life, which left the tables that stand
  pub open_life : (k.is_open s.opened → k.tables s.opened ≡ s.begun) → k.is_honest s.ended → k.is_open s.ended
      → (life : Life) × IsLifeOf s (k.tables s.ended) life × (life.more ≡ [])
  open_life stands honest up =
      let led = leads_from stands honest in (
        record {
          site = s.site;
          begun = s.begun;
          exchanges = s.exchanges;
          stood = led.0;
          more = [];
          left = k.tables s.ended;
          is_site = s.is_site;
          run = led.1.run;
          leaves = led.1.answered.stands up;
        },
        record { site = refl; begun = refl; exchanges = refl; stands = led.1.answered.stands; left = refl },
        refl,
      )

-- what a life answered, to its end
abbrev session_of : Life → Session
session_of life = record { exchanges = exchanges_with_seats life.site life.exchanges; cut_off = None }

-- lives are a run with stops
lives_stopped : (lives : List Life) (t t2 : Tables) → AreLives t lives t2
    → IsStoppedRun (map session_of lives) (exchanges_of_lives lives) t t2
lives_stopped [] t t2 are = (refl, are)
lives_stopped (life ∷ lives) t t2 are =
    let xs = exchanges_with_seats life.site life.exchanges in (
      life.stood,
      subst (λ (begun : Tables). IsRun xs begun life.stood) are.0 (run_of life.site life.exchanges life.begun life.stood life.run),
      life.more,
      life.left,
      stop_leaves (session_of life) life.stood life.more life.left life.leaves,
      exchanges_of_lives lives,
      lives_stopped lives life.left t2 are.1,
      append_assoc xs life.more (exchanges_of_lives lives),
    )

-- the next site grew from this one
next_grown : (site : SiteValue) (lives : List Life) → AreGrown (site ∷ sites_of_lives lives)
    → BeginGrown (ownership_of site) (sites_of_lives lives)
next_grown site [] grown = tt
next_grown site (life ∷ lives) grown = owners_grown site life.site life.is_site grown.0

-- where a site and those behind it grew in turn, those behind it did
others_grown : (site : SiteValue) (lives : List Life) → AreGrown (site ∷ sites_of_lives lives) → AreGrown (sites_of_lives lives)
others_grown site [] grown = tt
others_grown site (life ∷ lives) grown = grown.1

-- the callers of each life are seats of its site
lives_sessions : (first : Ownership) (lives : List Life) → BeginGrown first (sites_of_lives lives) → AreGrown (sites_of_lives lives)
    → AreSessions first (map session_of lives) (last_owners first (sites_of_lives lives))
lives_sessions first [] begun grown = growth_itself first
lives_sessions first (life ∷ lives) begun grown =
    let owners = ownership_of life.site in (
      owners,
      begun,
      owners_apart life.site life.is_site,
      seats_alone owners (calls_of (exchanges_with_seats life.site life.exchanges)) (seats_of life.site life.is_site life.exchanges),
      tt,
      lives_sessions owners lives (next_grown life.site lives grown) (others_grown life.site lives grown),
    )

-- lives are one run
pub lives_run : (lives : List Life) (t t2 : Tables) → AreLives t lives t2 → IsRun (exchanges_of_lives lives) t t2
lives_run lives t t2 are =
    stopped_runs (map session_of lives) (exchanges_of_lives lives) t t2 (lives_stopped lives t t2 are)

-- all that is promised of a run is promised of lives
pub lives_promised : (first : Ownership) (lives : List Life) (t t2 : Tables) → BeginGrown first (sites_of_lives lives)
    → AreGrown (sites_of_lives lives) → IsSound first t → AreLives t lives t2
    → Promises (last_owners first (sites_of_lives lives)) (exchanges_of_lives lives) t t2
lives_promised first lives t t2 begun grown sound are =
    let all = exchanges_of_lives lives in
    let last = last_owners first (sites_of_lives lives) in
    promises first all last t t2 sound
    (stopped_seats first (map session_of lives) all last t t2 (lives_sessions first lives begun grown) (lives_stopped lives t t2 are))
    (lives_run lives t t2 are)

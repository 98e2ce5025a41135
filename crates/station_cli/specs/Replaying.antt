-- What a stream over memory leads to, and which failures a store is.
use Rattle.std.specs.Prelude.{◌≡◌, ℕ, List, Option}
use Rattle.text_core.specs.Prelude.{Runs}
use Rattle.http_frames.specs.Prelude.{HttpExchange, Tells, requests_with_answers}
use Rattle.http_frames.specs.declared.serving.Served.{Served}
use Rattle.office_laws.specs.Prelude.{IsSound}
use Rattle.office_store.specs.Prelude.{open_fault_number}
use Rattle.office_store.specs.declared.fault.OpenFault.{OpenFault}
use Rattle.office_tables.specs.Prelude.{Tables}
use Rattle.site_core.specs.Prelude.{ownership_of, SiteValue}
use Rattle.station_api.specs.Prelude.{StreamKeepsPromises, AreSaid, AnswersHttp}
use Rattle.station_cli.specs.declared.failure.Failure.{Failure}
use Rattle.station_cli.specs.declared.failure.Failure.TheVariants.{StoreFault}

-- a stream that ended so was served from these tables on, with its requests in turn
abbrev pub Replays : SiteValue → Tables → Option (List ℕ) → Option (List ℕ) → Option (List ℕ) → Option (List ℕ) → Served → Type 0
Replays site t left_old left_new written_old written_new served =
    (exchanges : List HttpExchange)
    × Tells left_old left_new written_old written_new served exchanges
    × AreSaid site (requests_with_answers exchanges)
    × (t2 : Tables) × Runs (AnswersHttp site) t (requests_with_answers exchanges) t2
    × (IsSound (ownership_of site) t
    → StreamKeepsPromises site t (requests_with_answers exchanges) t2)

-- a fault of the store
abbrev pub IsOfStore : Failure → Type 0
IsOfStore failure = (fault : OpenFault) × (failure ≡ StoreFault (open_fault_number fault))

-- How a job may end, and what it then tells on the standard error.
use Rattle.std.specs.Prelude.{◌≡◌, ◌⊎◌, ◌++◌, ◌∷◌, ℕ, List, [], Option, Some, None, Result, Ok, Err, MatchResult}
use Rattle.std.specs.Borrow.{Bor}
use Rattle.std.specs.Io.KnownBytes.{Appends, Keeps}
use Rattle.fusemap_core.specs.Prelude.{Map}
use Rattle.fusemap_core.specs.declared.fault.MapFault.{MapFault}
use Rattle.http_frames.specs.Prelude.{HttpExchange, Tells}
use Rattle.http_frames.specs.declared.serving.Served.{Served}
use Rattle.site_core.specs.declared.fault.SiteFault.{SiteFault}
use Rattle.site_core.specs.Prelude.{SiteValue}
use Rattle.site_faults.specs.declared.told.ToldFault.{ToldFault}
use Rattle.station_cli.specs.Listening.{IsOfPort, listening_line}
use Rattle.station_cli.specs.MapFile.{map_failure, map_line}
use Rattle.station_cli.specs.Replaying.{IsOfStore}
use Rattle.station_cli.specs.SiteCheck.{IsToldOf, site_line}
use Rattle.station_cli.specs.SiteFile.{site_failure}
use Rattle.station_cli.specs.Statuses.{fault_line, line_of, result_of_ending}
use Rattle.station_cli.specs.declared.failure.Failure.{Failure}
use Rattle.station_cli.specs.declared.failure.Failure.TheVariants.{CannotRead, NoMemory, WriteFailed}
use Rattle.station_cli.specs.declared.job.Job.{Job}
use Rattle.station_cli.specs.declared.job.Job.TheVariants.{CheckMap, CheckSite, Replay, Serve}
use Rattle.station_cli.specs.declared.job.StoreName.{StoreName}

-- the file with this name can't be read
abbrev pub IsOfFile : List ℕ → Failure → Type 0
IsOfFile file failure = (name : Bor (List ℕ)) × (name.now ≡ file) × (failure ≡ CannotRead name)

-- the site's file can't be read, its text has a fault, or memory ran out
abbrev pub IsOfSite : List ℕ → Failure → Type 0
IsOfSite file failure = IsOfFile file failure ⊎ ((fault : SiteFault) × (failure ≡ site_failure fault))

-- the map's file can't be read, its text has a fault, or memory ran out
abbrev pub IsOfMap : List ℕ → Failure → Type 0
IsOfMap file failure = IsOfFile file failure ⊎ ((fault : MapFault) × (failure ≡ map_failure fault))

-- a failure of a site's file that is checked, or of the old one that is named: of the former's text there is a fault
abbrev pub IsOfCheck : List ℕ → Option (List ℕ) → Failure → Type 0
IsOfCheck site (Some old) failure = IsOfFile site failure ⊎ IsOfSite old failure
IsOfCheck site None failure = IsOfFile site failure ⊎ (failure ≡ NoMemory)

-- the bytes of a job's input and output, before the job and behind it, where they are known
pub record Traffic : Type 0 where
  pub input_old : Option (List ℕ)
  pub input_new : Option (List ℕ)
  pub output_old : Option (List ℕ)
  pub output_new : Option (List ℕ)

-- a stream's exchanges were answered in turn, and it ended so
abbrev pub IsAnswered : Traffic → Served → Type 0
IsAnswered traffic served =
    (exchanges : List HttpExchange)
    × Tells traffic.input_old traffic.input_new traffic.output_old traffic.output_new served exchanges

-- a stream was answered to an end that comes to this
abbrev pub EndsStream : Traffic → Result Unit Failure → Type 0
EndsStream traffic result = (served : Served) × IsAnswered traffic served × (result_of_ending served ≡ result)

-- a failure before a stream is served: of the site's file, or of the store where one is named
abbrev pub IsBeforeStream : List ℕ → Option StoreName → Failure → Type 0
IsBeforeStream site (Some store) failure = IsOfSite site failure ⊎ IsOfStore failure
IsBeforeStream site None failure = IsOfSite site failure

-- a failure that this job may end with: of the files that it names, of its port, or of the stream with these bytes
abbrev pub IsOfJob : Job → Traffic → Failure → Type 0
IsOfJob (Serve site store port connections) traffic failure = IsOfSite site failure ⊎ IsOfStore failure ⊎ IsOfPort failure
IsOfJob (Replay site store) traffic failure = IsBeforeStream site store failure ⊎ EndsStream traffic (Err failure)
IsOfJob (CheckMap map) traffic failure = IsOfMap map failure ⊎ (failure ≡ WriteFailed)
IsOfJob (CheckSite site old) traffic failure = IsOfCheck site old failure ⊎ (failure ≡ WriteFailed)

-- what a job that is done has written: the line of its port, the replies to its stream, or the line of a map or a site
abbrev pub IsDone : Job → Traffic → Type 0
IsDone (Serve site store port connections) traffic = Appends traffic.output_old traffic.output_new (listening_line port ++ 10 ∷ [])
IsDone (Replay site store) traffic = EndsStream traffic (Ok tt)
IsDone (CheckMap name) traffic = (map : Map) × Appends traffic.output_old traffic.output_new (map_line map ++ 10 ∷ [])
IsDone (CheckSite name old) traffic =
    (site : SiteValue) × IsToldOf name old (Ok site) × Appends traffic.output_old traffic.output_new (site_line site ++ 10 ∷ [])

-- a job came to this with these bytes: it is done, or it failed as it may
abbrev pub ComesTo : Job → Traffic → Result Unit Failure → Type 0
ComesTo job traffic result = MatchResult result (λ done. IsDone job traffic) (IsOfJob job traffic)

-- known bytes grow by a front of these
abbrev pub AppendsFront : Option (List ℕ) → Option (List ℕ) → List ℕ → Type 0
AppendsFront old new bytes = (front : List ℕ) × (rest : List ℕ) × (bytes ≡ front ++ rest) × Appends old new front

-- the line of a failure, as far as the writer took it
abbrev pub IsTold : Failure → Option (List ℕ) → Option (List ℕ) → Type 0
IsTold failure old new = AppendsFront old new (line_of failure ++ 10 ∷ [])

-- the line of a site's fault, as far as the writer took it
abbrev pub IsToldFault : ToldFault → Option (List ℕ) → Option (List ℕ) → Type 0
IsToldFault fault old new = AppendsFront old new (fault_line fault ++ 10 ∷ [])

-- the job checks a site
abbrev pub IsCheck : Job → Type 0
IsCheck (CheckSite site old) = Unit {0}
IsCheck (Serve site store port connections) = ⊥
IsCheck (Replay site store) = ⊥
IsCheck (CheckMap map) = ⊥

-- the job checks a site, and some bytes of the files that it names have this fault
abbrev pub IsOfFault : Job → ToldFault → Type 0
IsOfFault (CheckSite site old) fault = IsToldOf site old (Err fault)
IsOfFault (Serve site store port connections) fault = ⊥
IsOfFault (Replay site store) fault = ⊥
IsOfFault (CheckMap map) fault = ⊥

-- a job is done, with status 0, and nothing is told; or it ends with status 1, and one of its failures is told, or why the
-- site that it checks isn't accepted
abbrev pub EndsAs : Job → Traffic → ℕ → Option (List ℕ) → Option (List ℕ) → Type 0
EndsAs job traffic status old new =
    ((status ≡ 0) × IsDone job traffic × Keeps old new)
    ⊎ ((status ≡ 1) × (failure : Failure) × IsOfJob job traffic failure × IsTold failure old new)
    ⊎ ((status ≡ 1) × (fault : ToldFault) × IsOfFault job fault × IsToldFault fault old new)

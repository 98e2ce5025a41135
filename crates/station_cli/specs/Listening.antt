-- A port that is listened on, and what becomes of the tables over its connections.
use Rattle.std.specs.Prelude.{◌≡◌, ◌⊎◌, ℕ, ◌++◌, List, codes, decimal}
use Rattle.http_frames.specs.Prelude.{Request}
use Rattle.http_replies.specs.Prelude.{Answer}
use Rattle.office_tables.specs.declared.keep.Keep.{Ghosts}
use Rattle.site_core.specs.Prelude.{SiteValue}
use Rattle.station_api.specs.Prelude.{Leads, AreSaid}
use Rattle.station_cli.specs.declared.failure.Failure.{Failure}
use Rattle.station_cli.specs.declared.failure.Failure.TheVariants.{ListenFailed, AcceptFailed, WriteFailed}

-- the line of a port that is listened on, without its line feed
abbrev pub listening_line : ℕ → List ℕ
listening_line port = codes "listening on 127.0.0.1:" ++ decimal port

-- a failure of the port, or of its line
abbrev pub IsOfPort : Failure → Type 0
IsOfPort failure = (failure ≡ ListenFailed) ⊎ (failure ≡ WriteFailed) ⊎ (failure ≡ AcceptFailed)

-- some requests were answered in turn, each as it has to be whatever the store does, and the tables that stood lead by them to those that stand
abbrev pub LeadsOn : {K : Type 0} → Ghosts K → SiteValue → K → K → Type 0
LeadsOn k site old new = (exchanges : List (Request × Answer)) × AreSaid site exchanges × Leads k site old new exchanges

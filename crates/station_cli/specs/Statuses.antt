-- The status that the program ends with, and the line that it writes where it failed.
use Rattle.std.specs.Prelude.{ℕ, ◌≡◌, ◌≤◌, ◌++◌, List, codes, decimal, Option, Result, Ok, Err, string_bytes}
use Rattle.std.specs.Io.KnownBytes.{Appends, Keeps}
use Rattle.http_frames.specs.declared.serving.Served.{Served}
use Rattle.http_frames.specs.declared.serving.Served.TheVariants.{Ended, Closed, Cut, ReadFault, WriteFault}
use Rattle.site_faults.specs.Prelude.{fault_words}
use Rattle.site_faults.specs.declared.told.ToldFault.{ToldFault}
use Rattle.station_cli.specs.declared.failure.Failure.{Failure}
use Rattle.station_cli.specs.declared.failure.Failure.TheVariants.{CannotRead, SiteFault, StoreFault, MapFault, ListenFailed, AcceptFailed}
use Rattle.station_cli.specs.declared.failure.Failure.TheVariants.{ReadFailed, WriteFailed, TurnLimit}
use Rattle.station_cli.specs.declared.job.WordsFault.{WordsFault}
use Rattle.station_cli.specs.declared.job.WordsFault.TheVariants.{Help, Refused}

-- help or the version ends with 0, or 1 where it cannot be written; a refusal with 2; want of memory with 1
abbrev pub HasStatus : WordsFault → ℕ → Type 0
HasStatus (Help text) status = status ≤ 1
HasStatus (Refused text) status = status ≡ 2
HasStatus WordsFault.NoMemory status = status ≡ 1

-- what is printed for a fault, on the output and on standard error: help or the version on the output
-- alone where it is printed, and for any other fault nothing there
abbrev pub IsReported : WordsFault → ℕ → Option (List ℕ) → Option (List ℕ) → Option (List ℕ) → Option (List ℕ) → Type 0
IsReported (Help text) status output_old output_new err_old err_new =
    status ≡ 0 → Appends output_old output_new (string_bytes text) × Keeps err_old err_new
IsReported (Refused text) status output_old output_new err_old err_new = Keeps output_old output_new
IsReported WordsFault.NoMemory status output_old output_new err_old err_new = Keeps output_old output_new

-- the line of a failure, without its line feed
abbrev pub line_of : Failure → List ℕ
line_of (CannotRead name) = codes "station: cannot read " ++ name.now
line_of (SiteFault number) = codes "station: site fault " ++ decimal number
line_of (StoreFault number) = codes "station: store fault " ++ decimal number
line_of (MapFault number) = codes "station: map fault " ++ decimal number
line_of ListenFailed = codes "station: listen failed"
line_of AcceptFailed = codes "station: accept failed"
line_of ReadFailed = codes "station: read failed"
line_of WriteFailed = codes "station: write failed"
line_of TurnLimit = codes "station: turn limit"
line_of Failure.NoMemory = codes "station: no memory"

-- the line that says why a site isn't accepted, without its line feed
abbrev pub fault_line : ToldFault → List ℕ
fault_line fault = codes "station: " ++ fault_words fault

-- what the end of a stream says of a failure. A stream that is cut is none
abbrev pub result_of_ending : Served → Result Unit Failure
result_of_ending Ended = Ok tt
result_of_ending Closed = Ok tt
result_of_ending Cut = Ok tt
result_of_ending ReadFault = Err ReadFailed
result_of_ending WriteFault = Err WriteFailed
result_of_ending Served.TurnLimit = Err TurnLimit
result_of_ending Served.NoMemory = Err Failure.NoMemory

-- a job that is done ends with 0, and one that failed with 1
abbrev pub status_of : Result Unit Failure → ℕ
status_of (Ok done) = 0
status_of (Err failure) = 1

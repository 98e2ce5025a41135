-- The command line, and the job of its words.
use Rattle.std.specs.Prelude.{◌≡◌, ◌≢◌, ◌⊎◌, ℕ, List, [], ◌∷◌, ◌++◌, codes, map, Bool, true, false, ◌&&◌, Option, Some, None, is_none}
use Rattle.std.specs.Prelude.{option_and_then, option_map, string_bytes, bytes_eq, if◌then◌else◌}
use Rattle.std.specs.Borrow.{Bor}
use Rattle.clap.specs.Words.{App, IsAmong, Kinds, Row, Rule, Text, fault_of, first_of, new_app, new_rule, subcommand_of, with_rule, with_subcommand}
use Rattle.std.specs.Str.Parse.{digits_value, without_leading_plus}
use Rattle.clap.specs.ValueTests.{is_unsigned_in}
use Rattle.clap.specs.declared.builder.value_parser.ValueParser.TheVariants.{Unsigned}
use Rattle.clap.specs.declared.error.kind.ErrorKind.{ErrorKind}
use Rattle.clap.specs.declared.error.kind.ErrorKind.TheVariants.{DisplayHelp, DisplayVersion, OutOfMemory}
use Rattle.clap.specs.declared.builder.action.ArgAction.TheVariants.{SetTrue}
use Rattle.std.specs.Option.{option_map_or}
use Rattle.station_cli.specs.declared.job.Job.{Job}
use Rattle.station_cli.specs.declared.job.StoreName.{StoreName}
use Rattle.station_cli.specs.declared.job.Job.TheVariants.{CheckMap, CheckSite, Replay, Serve}
use Rattle.station_cli.specs.declared.job.WordsFault.{WordsFault}
use Rattle.station_cli.specs.declared.job.WordsFault.TheVariants.{Help, Refused, NoMemory}

-- the words
abbrev pub texts : Bor (List (Bor Text)) → List Text
texts words = map (λ word. word.now) words.now

-- `--site F`, which has to be there
abbrev pub site_rule : Rule
site_rule = record (new_rule (codes "site")) { long = Some (codes "site"); value_names = 1; required = true }

-- `--db F`, which may be there
abbrev pub db_rule : Rule
db_rule = record (new_rule (codes "db")) { long = Some (codes "db"); value_names = 1 }

-- `--db F`, which has to be there
abbrev pub required_db_rule : Rule
required_db_rule = record db_rule { required = true }

-- `--existing`, a flag
abbrev pub existing_rule : Rule
existing_rule = record (new_rule (codes "existing")) { long = Some (codes "existing"); action = Some SetTrue }

-- `--port N`, a number from 1 to 65535, which has to be there
abbrev pub port_rule : Rule
port_rule = record (new_rule (codes "port")) {
  long = Some (codes "port");
  value_names = 1;
  parser = Some (Unsigned 1 65535);
  required = true;
}

-- `--connections K`, a number from 1 to 1000000, which has to be there
abbrev pub connections_rule : Rule
connections_rule = record (new_rule (codes "connections")) {
  long = Some (codes "connections");
  value_names = 1;
  parser = Some (Unsigned 1 1000000);
  required = true;
}

-- `serve --site F --db F [--existing]`
abbrev pub books_app : App
books_app = with_rule (with_rule (with_rule (new_app (codes "serve")) site_rule) required_db_rule) existing_rule

-- `serve --site F --db F [--existing] --port N --connections K`
abbrev pub serve_app : App
serve_app = with_rule (with_rule books_app port_rule) connections_rule

-- `replay --site F [--db F [--existing]]`
abbrev pub replay_app : App
replay_app = with_rule (with_rule (with_rule (new_app (codes "replay")) site_rule) db_rule) existing_rule

-- `F`, which has to be there
abbrev pub map_rule : Rule
map_rule = record (new_rule (codes "map")) { value_names = 1; required = true }

-- `check-map F`
abbrev pub check_map_app : App
check_map_app = with_rule (new_app (codes "check-map")) map_rule

-- `F`, the file of a site, which has to be there
abbrev pub checked_rule : Rule
checked_rule = record (new_rule (codes "site")) { value_names = 1; required = true }

-- `--from OLD`, which may be there
abbrev pub from_rule : Rule
from_rule = record (new_rule (codes "from")) { long = Some (codes "from"); value_names = 1 }

-- `check-site F [--from OLD]`
abbrev pub check_site_app : App
check_site_app = with_rule (with_rule (new_app (codes "check-site")) checked_rule) from_rule

-- `station`, which has a version and asks for a subcommand
abbrev pub top_app : App
top_app =
    let app = new_app (codes "station") in record app { top = record app.top { has_version = true; subcommand_required = true } }

-- `station serve --site F --db F [--existing] --port N --connections K`, `station replay --site F [--db F [--existing]]`,
-- `station check-map F` and `station check-site F [--from OLD]`
abbrev pub station_app : App
station_app =
    with_subcommand (with_subcommand (with_subcommand (with_subcommand top_app serve_app.top) replay_app.top) check_map_app.top) check_site_app.top

-- the number that a text stands for in decimal digits, behind one `+` or none, if it is one from `least` to `most`
abbrev pub number_of_digits : ℕ → ℕ → Text → Option ℕ
number_of_digits least most text =
    if is_unsigned_in least most text then Some (digits_value 10 (without_leading_plus text)) else None

-- the number that an option was given, if it is one from `least` to `most`
abbrev pub number_of_option : Text → ℕ → ℕ → List Row → Option ℕ
number_of_option id least most options = option_and_then (number_of_digits least most) (first_of id options)

-- whether a flag is there: `clap` gives it the value `true` then, and else `false`
abbrev pub has_flag : Text → List Row → Bool
has_flag id options = option_map_or (λ text. bytes_eq text (codes "true")) (first_of id options) false

-- the store that the options name
abbrev pub store_of : List Row → Option StoreName
store_of options =
    option_map (λ file. record { file = file; is_existing = has_flag (codes "existing") options })
    (first_of (codes "db") options)

-- the job of `serve`, by its options
abbrev pub serve_of : List Row → Option Job
serve_of options =
    option_and_then (λ site. option_and_then (λ store. option_and_then (λ port. option_map (Serve site store port)
    (number_of_option (codes "connections") 1 1000000 options))
    (number_of_option (codes "port") 1 65535 options))
    (store_of options))
    (first_of (codes "site") options)

-- the job of `replay`, by its options: a store that has to be there is named
abbrev pub replay_of : List Row → Option Job
replay_of options =
    if is_none (store_of options) && has_flag (codes "existing") options then None
    else option_map (λ site. Replay site (store_of options)) (first_of (codes "site") options)

-- the job of `check-map`, by its options
abbrev pub check_map_of : List Row → Option Job
check_map_of options = option_map CheckMap (first_of (codes "map") options)

-- the job of `check-site`, by its options
abbrev pub check_site_of : List Row → Option Job
check_site_of options = option_map (λ site. CheckSite site (first_of (codes "from") options)) (first_of (codes "site") options)

-- the job of a subcommand, by its name and its options
abbrev pub job_by : Text × List Row → Option Job
job_by entered =
    if bytes_eq entered.0 (codes "serve") then serve_of entered.1
    else if bytes_eq entered.0 (codes "replay") then replay_of entered.1
    else if bytes_eq entered.0 (codes "check-map") then check_map_of entered.1
    else if bytes_eq entered.0 (codes "check-site") then check_site_of entered.1
    else None

-- the job of the subcommand that the words enter, as `clap` reads them for this command line
abbrev pub job_of : List Text → Option Job
job_of words = option_and_then job_by (subcommand_of station_app words)

-- nothing where the words have a fault
abbrev pub job_unless_faulty : {A : Type 0} → Kinds → Option A → Option A
job_unless_faulty [] job = job
job_unless_faulty (kind ∷ kinds) job = None

-- the job, if `clap` takes the words
abbrev pub job_read : List Text → Option Job
job_read words = job_unless_faulty (fault_of station_app words) (job_of words)

-- the fault is a refusal with this text, or want of memory
abbrev pub RefusesWith : Text → WordsFault → Type 0
RefusesWith text (Help given) = ⊥
RefusesWith text (Refused given) = string_bytes given ≡ text
RefusesWith text NoMemory = Unit {0}

-- the line that `--version` prints, by the number of the version
abbrev pub version_line : Text → Text
version_line number = codes "station " ++ number ++ 10 ∷ []

-- the fault is the line of the version with this number, or want of memory
abbrev pub ShowsVersion : Text → WordsFault → Type 0
ShowsVersion number (Help text) = string_bytes text ≡ version_line number
ShowsVersion number (Refused text) = ⊥
ShowsVersion number NoMemory = Unit {0}

-- an error of this kind gives the fault, which may also be want of memory: the version's line where it is asked for, with this number
abbrev pub IsFaultOfKind : Text → ErrorKind → WordsFault → Type 0
IsFaultOfKind number kind (Help text) = (kind ≡ DisplayHelp) ⊎ ((kind ≡ DisplayVersion) × (string_bytes text ≡ version_line number))
IsFaultOfKind number kind (Refused text) = (kind ≢ DisplayHelp) × (kind ≢ DisplayVersion) × (kind ≢ OutOfMemory)
IsFaultOfKind number kind NoMemory = Unit {0}

-- help is among the kinds, or the version is and this is its line with this number, or a refusal comes where neither is the only one
abbrev pub CanGive : Text → Kinds → WordsFault → Type 0
CanGive number kinds (Help text) =
    IsAmong DisplayHelp kinds ⊎ (IsAmong DisplayVersion kinds × (string_bytes text ≡ version_line number))
CanGive number kinds (Refused text) = (kinds ≢ DisplayHelp ∷ []) × (kinds ≢ DisplayVersion ∷ [])
CanGive number kinds NoMemory = Unit {0}

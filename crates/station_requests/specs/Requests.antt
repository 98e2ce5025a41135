-- What a request asks for, as a function of its head and its body (RFC 9110, 9112).
use Rattle.std.specs.Borrow.{Bor}
use Rattle.std.specs.Prelude.{ℕ, ◌&&◌, if◌then◌else◌, List, [], ◌∷◌, codes, find, replicate, bytes_eq, Option, Some, option_map, Result, Ok, Err, ok_or}
use Rattle.serde_json.specs.Data.{Data, null}
use Rattle.text_core.specs.Prelude.{result_and_then, result_map}
use Rattle.members.specs.Prelude.{json_of}
use Rattle.http_frames.specs.Prelude.{path_of, query_of, Request as HttpRequest}
use Rattle.site_core.specs.declared.site.Caller.{Caller}
use Rattle.site_core.specs.declared.site.Caller.TheVariants.{Seat, Manager}
use Rattle.office_commands.specs.declared.command.Action.TheVariants.{Ship, Scrap}
use Rattle.office_commands.specs.declared.command.Request.{Request}
use Rattle.office_commands.specs.declared.command.Show.TheVariants.{Order, Device, Ledger, Identity, Devices}
use Rattle.office_commands.specs.declared.refusal.Refusal.{Refusal}
use Rattle.office_commands.specs.declared.refusal.Refusal.TheVariants.{UnknownPath, WrongCaller, BadJson, BadMember}
use Rattle.office_commands.specs.declared.command.Command.TheVariants.{Show as Showing}
use Rattle.office_commands.specs.declared.command.Show.{Show}
use Rattle.station_requests.specs.declared.parse.Operation.{Operation}
use Rattle.station_requests.specs.declared.parse.Operation.TheVariants as operation
use Rattle.station_requests.specs.declared.parse.Parsed.{Parsed}
use Rattle.station_requests.specs.declared.parse.Parsed.TheVariants.{Office, Report, SiteReport}
use Rattle.station_requests.specs.declared.parse.Route.{Route}
use Rattle.station_requests.specs.declared.parse.Route.TheVariants.{Asks, Reports, ReportsSite}
use Rattle.station_requests.specs.Act.{end_of}
use Rattle.station_requests.specs.Device.{register_device_of, after_parameter, chip_parameter}
use Rattle.station_requests.specs.Identity.{identify_of}
use Rattle.station_requests.specs.Import.{import_of}
use Rattle.station_requests.specs.Map.{import_map_of}
use Rattle.station_requests.specs.Order.{make_order_of, name_parameter}
use Rattle.station_requests.specs.Plan.{plan_device_of}
use Rattle.station_requests.specs.ReadBack.{read_back_of}

-- a method and a path, and what they lead to
abbrev pub RouteEntry : Type 0
RouteEntry = List ℕ × List ℕ × Route

-- all of them, reports too
abbrev pub routes : List RouteEntry
routes =
    (codes "POST", codes "/v1/order", Asks operation.MakeOrder)
    ∷ (codes "GET", codes "/v1/order", Asks operation.ShowOrder)
    ∷ (codes "POST", codes "/v1/map", Asks operation.ImportMap)
    ∷ (codes "POST", codes "/v1/device", Asks operation.RegisterDevice)
    ∷ (codes "POST", codes "/v1/plan", Asks operation.PlanDevice)
    ∷ (codes "POST", codes "/v1/readback", Asks operation.ReadBack)
    ∷ (codes "POST", codes "/v1/identity", Asks operation.IdentifyDevice)
    ∷ (codes "POST", codes "/v1/ship", Asks operation.ShipDevice)
    ∷ (codes "POST", codes "/v1/scrap", Asks operation.ScrapDevice)
    ∷ (codes "POST", codes "/v1/import", Asks operation.ImportSerials)
    ∷ (codes "GET", codes "/v1/device", Asks operation.ShowDevice)
    ∷ (codes "GET", codes "/v1/ledger", Asks operation.ShowLedger)
    ∷ (codes "GET", codes "/v1/identity", Asks operation.ShowIdentity)
    ∷ (codes "GET", codes "/v1/devices", Asks operation.ListDevices)
    ∷ (codes "GET", codes "/v1/report", Reports)
    ∷ (codes "GET", codes "/v1/site/report", ReportsSite)
    ∷ []

-- what a method and a path lead to by some rows
abbrev pub route_among : List ℕ → List ℕ → List RouteEntry → Option Route
route_among method path rows = option_map (λ row. row.2) (find (λ row. bytes_eq method row.0 && bytes_eq path row.1) rows)

-- a row as the program has it
abbrev pub route_entry : List ℕ × Bor (List ℕ) × Route → RouteEntry
route_entry row = (row.0, row.1.now, row.2)

-- a request that shows something has no use for a number and a digest
abbrev pub shows : Show → Request
shows show = record { number = 1; digest = replicate 32 0; command = Showing show }

-- the request that a query and the data of a body make
abbrev pub request_of : Operation → List ℕ → Data → Option Request
request_of operation.MakeOrder query members = make_order_of members
request_of operation.ImportMap query members = import_map_of members
request_of operation.RegisterDevice query members = register_device_of members
request_of operation.PlanDevice query members = plan_device_of members
request_of operation.ReadBack query members = read_back_of members
request_of operation.IdentifyDevice query members = identify_of members
request_of operation.ShipDevice query members = end_of (codes "/v1/ship") Ship members
request_of operation.ScrapDevice query members = end_of (codes "/v1/scrap") Scrap members
request_of operation.ImportSerials query members = import_of members
request_of operation.ShowOrder query members = option_map (λ name. shows (Order name)) (name_parameter query)
request_of operation.ShowDevice query members = option_map (λ chip. shows (Device chip)) (chip_parameter query)
request_of operation.ShowLedger query members = option_map (λ chip. shows (Ledger chip)) (chip_parameter query)
request_of operation.ShowIdentity query members = option_map (λ chip. shows (Identity chip)) (chip_parameter query)
request_of operation.ListDevices query members = option_map (λ after. shows (Devices after)) (after_parameter query)

-- the data of a body; that of a GET isn't read
abbrev pub body_data : List ℕ → List ℕ → Option Data
body_data method body = if bytes_eq method (codes "GET") then Some null else json_of body

-- what a seat's query and body ask for: no JSON is refused before a part that isn't of its form
abbrev pub request_read : Operation → List ℕ → List ℕ → List ℕ → Result Request Refusal
request_read asked method query body =
    result_and_then (λ members. ok_or (request_of asked query members) BadMember) (ok_or (body_data method body) BadJson)

-- what callers there are
pub data Kind : Type 0 where
  of_seat : Kind
  of_manager : Kind

-- which of them a caller is
abbrev pub kind_of_caller : Caller → Kind
kind_of_caller (Seat caller) = of_seat
kind_of_caller Manager = of_manager

-- what a known path asks for: the seats' paths are theirs alone, and the manager's path is the
-- manager's, whatever the query and the body. A report has no use for either
abbrev pub parse_at_route : Route → Kind → HttpRequest → Result Parsed Refusal
parse_at_route (Asks asked) of_seat r = result_map Office (request_read asked r.head.method (query_of r.head.target) r.body)
parse_at_route Reports of_seat r = Ok Report
parse_at_route ReportsSite of_manager r = Ok SiteReport
parse_at_route _ _ r = Err WrongCaller

-- what a caller's request asks for, or the lowest refusal of its path, its method, its caller, its body and its members
abbrev pub parse_request : Kind → HttpRequest → Result Parsed Refusal
parse_request kind r =
    result_and_then (λ route. parse_at_route route kind r) (ok_or (route_among r.head.method (path_of r.head.target) routes) UnknownPath)

-- a caller of this kind may ask for this
abbrev pub IsFor : Kind → Parsed → Type 0
IsFor of_seat SiteReport = ⊥
IsFor of_seat _ = Unit {0}
IsFor of_manager SiteReport = Unit {0}
IsFor of_manager _ = ⊥

-- What is asked of the office is within its ranges.
use Rattle.std.proofs.Common.{◌≡◌, ◌≤◌, ◌∷◌}
use Rattle.text_core.proofs.Kit.{◌∙◌, ℕ, arith, false, List, [], Option, Some, None, nat_tests, refl, sym, length, Result, Ok, Err, codes, option_and_then}
use Rattle.text_core.proofs.Kit.{option_and_then_some, option_map, IfSome, AllByRecursion, ok_or}
use Rattle.serde_json.specs.Data.{Data, object}
use Rattle.serde_json.specs.Find.{as_number, as_str, as_u64, get}
use Rattle.hex.specs.Hex.{decode_sized}
use Rattle.hex.proofs.HexLemmas.{decode_of-ok, decode_sized-ok, decode_sized-twice}
use Rattle.text_core.specs.Prelude.{result_and_then, result_map, chip_of_text, digest_of_text, name_of_text, ◌>>=◌, all_of}
use Rattle.text_core.proofs.Results.{ok_is}
use Rattle.members.specs.Prelude.{number_within, text_or_null, whole_member}
use Rattle.http_frames.specs.Prelude.{path_of, query_of, Request as HttpRequest}
use Rattle.http_replies.specs.Prelude.{is_unavailable}
use Rattle.fuse_plan.specs.Prelude.{number_of_text}
use Rattle.station_requests.proofs.Types.{Wish, Action, Change, Request, Refusal, Show, Parsed, Operation, Route, Kind}
use Rattle.office_commands.specs.declared.command.Action.TheVariants.{Plan, ReadBack}
use Rattle.office_commands.specs.declared.command.Change.TheVariants.{Act, Identify, Import, ImportMap, MakeOrder, RegisterDevice}
use Rattle.office_commands.specs.declared.refusal.Refusal.TheVariants.{BadJson, BadMember, UnknownPath}
use Rattle.station_requests.specs.declared.parse.Operation.TheVariants as operation
use Rattle.station_requests.specs.declared.parse.Parsed.TheVariants.{Office}
use Rattle.station_requests.specs.declared.parse.Route.TheVariants.{Asks, Reports, ReportsSite}
use Rattle.station_requests.specs.declared.plan.Kind.TheVariants.{Bit, Key, Value}
use Rattle.fuse_plan.specs.declared.wish.Want.TheVariants as want
use Rattle.office_commands.specs.Prelude.{HasDigest, IsAction, IsAsked, IsChange, refusal_status, IsNewOrder, largest_whole}
use Rattle.station_requests.specs.Prelude.{act_of, register_device_of, identify_of, import_of, import_map_of, number_member, make_order_of, new_order_of}
use Rattle.station_requests.specs.Prelude.{order_members, kind_of_wish, named_members, named_plan, plan_device_of, want_of, wish_in, wishes_in, wishes_of}
use Rattle.station_requests.specs.Prelude.{read_back_of, body_data, IsFor, of_manager, of_seat, parse_at_route, parse_request, request_for, request_of}
use Rattle.station_requests.specs.Prelude.{blocks_member, new_device_of, new_identity_of, new_import_of, request_read, route_among, routes, shows}
use Rattle.station_requests.specs.Requests.{Kind as CallerKind}

-- what holds of all that the second step gives holds of what both give
each_gives : {A B : Type 0} (P : B → Type 0) (o : Option A) (f : A → Option B) → ((x : A) → o ≡ Some x → IfSome (f x) P) → IfSome (o >>= f) P
each_gives P None f each = tt
each_gives P (Some x) f each = each x refl

-- what holds of all that is made holds of what is made of what is there
each_made : {A B : Type 0} (P : B → Type 0) (o : Option A) (f : A → B) → ((x : A) → o ≡ Some x → P (f x)) → IfSome (option_map f o) P
each_made P None f each = tt
each_made P (Some x) f each = each x refl

-- a number of a range lies in it
in_range : (least greatest m n : ℕ) → number_within least greatest m ≡ Some n → (least ≤ n) × (n ≤ greatest)
in_range least greatest m n e = grind (arith, nat_tests)

-- a member that is a number of a range lies in it
member_bounds : (name : List ℕ) (least greatest n : ℕ) (d : Data) → whole_member name least greatest d ≡ Some n → (least ≤ n) × (n ≤ greatest)
member_bounds name least greatest n d e =
    option_and_then_some (number_within least greatest) (option_and_then as_u64 (option_and_then as_number (get name d))) n e (λ m _ is.
    in_range least greatest m n is)

-- an order that was read is within its ranges
order_within : (d : Data) → IfSome (new_order_of d) IsNewOrder
unfolding new_order_of
order_within d =
    each_gives IsNewOrder (get (codes "name") d >>= as_str >>= name_of_text) _ (λ name _.
    each_gives IsNewOrder (get (codes "issuer") d >>= as_str >>= name_of_text) _ (λ issuer _.
    each_gives IsNewOrder (get (codes "prefix") d >>= as_str) _ (λ prefix _.
    each_gives IsNewOrder (whole_member (codes "width") 1 9 d) _ (λ width width_is.
    each_gives IsNewOrder (whole_member (codes "first") 0 largest_whole d) _ (λ first first_is.
    each_gives IsNewOrder (whole_member (codes "quantity") 1 largest_whole d) _ (λ quantity quantity_is.
    each_gives IsNewOrder (whole_member (codes "macs") 0 4 d) _ (λ macs macs_is.
    each_gives IsNewOrder (text_or_null (get (codes "not_before") d)) _ (λ not_before _. record {
      least_width = (member_bounds (codes "width") 1 9 width d width_is).0;
      largest_width = (member_bounds (codes "width") 1 9 width d width_is).1;
      largest_first = (member_bounds (codes "first") 0 largest_whole first d first_is).1;
      least_quantity = (member_bounds (codes "quantity") 1 largest_whole quantity d quantity_is).0;
      largest_quantity = (member_bounds (codes "quantity") 1 largest_whole quantity d quantity_is).1;
      largest_macs = (member_bounds (codes "macs") 0 4 macs d macs_is).1;
    }))))))))

-- the digest of a text has 32 bytes
digest_length : (text digest : List ℕ) → digest_of_text text ≡ Some digest → length digest ≡ 32
digest_length text digest e =
    let read = ok_is (decode_sized text 32) digest e in
    let long = decode_sized-ok text 32 digest read in
    let twice = (decode_of-ok text digest (sym (decode_sized-twice text 32 long) ∙ read)).2 in
    omega (arith, long, twice)

-- what a wish asks for is within its ranges
want_within : (kind : Kind) (d : Data) → IfSome (want_of kind d) HasDigest
want_within Bit d = each_made HasDigest (whole_member (codes "index") 0 largest_whole d) want.Bit (λ _ _. tt)
want_within Value d = each_made HasDigest (get (codes "value") d >>= as_str >>= number_of_text) want.Value (λ _ _. tt)
want_within Key d =
    each_made HasDigest (get (codes "key_sha256") d >>= as_str >>= digest_of_text) want.Key (λ digest is.
    option_and_then_some digest_of_text (get (codes "key_sha256") d >>= as_str) digest is (λ text _ same. digest_length text digest same))
want_within _ d = tt

-- a wish whose digest, where it has one, has 32 bytes
abbrev IsWishWithin : Wish → Type 0
IsWishWithin w = HasDigest w.want

-- a wish that was read is one
wish_within : (d : Data) → IfSome (wish_in d) IsWishWithin
wish_within d =
    each_gives IsWishWithin (kind_of_wish d) _ (λ kind _.
    each_gives IsWishWithin (get (codes "field") d >>= as_str >>= name_of_text) _ (λ field _.
    each_gives IsWishWithin (want_of kind d) _ (λ w is. let all = want_within kind d in rw is at all)))

-- the wishes of a list that was read are such
all_within : (ds : List Data) → IfSome (all_of wish_in ds) (AllByRecursion IsWishWithin)
all_within [] = tt
all_within (d ∷ ds) =
    each_gives (AllByRecursion IsWishWithin) (wish_in d) _ (λ w is.
    each_made (AllByRecursion IsWishWithin) (all_of wish_in ds) (λ ws. w ∷ ws) (λ ws those.
    ((let first = wish_within d in rw is at first), (let all = all_within ds in rw those at all))))

-- a request for a change is within its ranges where the change is
change_within : (path : List ℕ) (members : Data) (change : Change) (d : Data) → IsChange change → IfSome (request_for path members change d) IsAsked
unfolding request_for
change_within path members change d is = each_gives IsAsked (number_member d) _ (λ number _. is)

-- so is one that takes a device a step on where its action is
act_within : (path : List ℕ) (members : Data) (action : Action) (d : Data) → IsAction action → IfSome (act_of path members action d) IsAsked
unfolding act_of
act_within path members action d is =
    each_gives IsAsked (get (codes "chip") d >>= as_str >>= chip_of_text) _ (λ chip _. change_within path members (Act chip action) d is)

-- nothing that is to be shown is out of a range
shown_within : {A : Type 0} (o : Option A) (f : A → Show) → IfSome (option_map (λ x. shows (f x)) o) IsAsked
shown_within None f = tt
shown_within (Some x) f = tt

-- what is asked for is within its ranges
request_within : (asked : Operation) (query : List ℕ) (d : Data) → IfSome (request_of asked query d) IsAsked
unfolding make_order_of plan_device_of import_map_of register_device_of read_back_of identify_of import_of
request_within operation.MakeOrder query d =
    each_gives IsAsked (new_order_of d) _ (λ order is.
    change_within (codes "/v1/order") (object (named_members order_members d)) (MakeOrder order) d (let all = order_within d in rw is at all))
request_within operation.PlanDevice query d =
    each_gives IsAsked (wishes_of d) _ (λ wishes is. each_gives IsAsked (named_plan d) _ (λ members _. act_within (codes "/v1/plan") members (Plan wishes) d
    (let all = each_gives (AllByRecursion IsWishWithin) (wishes_in d) (all_of wish_in) (λ ds _. all_within ds) in rw is at all)))
request_within operation.ImportMap query d =
    each_gives IsAsked (get (codes "text") d >>= as_str) _ (λ text _. change_within _ _ (ImportMap text) d tt)
request_within operation.RegisterDevice query d =
    each_gives IsAsked (new_device_of d) _ (λ device _. change_within _ _ (RegisterDevice device) d tt)
request_within operation.IdentifyDevice query d =
    each_gives IsAsked (new_identity_of d) _ (λ identity _. change_within _ _ (Identify identity) d tt)
request_within operation.ImportSerials query d =
    each_gives IsAsked (new_import_of d) _ (λ rows _. change_within _ _ (Import rows) d tt)
request_within operation.ReadBack query d =
    each_gives IsAsked (blocks_member (codes "blocks") d) _ (λ blocks _. act_within _ _ (ReadBack blocks) d tt)
request_within _ query d = search (act_within, shown_within)

-- what such a caller may ask for, within its ranges; and no refusal of what was asked is a 503
abbrev pub IsWithin : CallerKind → Result Parsed Refusal → Type 0
IsWithin of_seat (Ok (Office request)) = IsAsked request
IsWithin kind (Ok parsed) = IsFor kind parsed
IsWithin kind (Err reason) = is_unavailable (refusal_status reason) ≡ false

-- a request that was read is such, and where there is none it is refused by 10
found_within : (found : Option Request) → IfSome found IsAsked → IsWithin of_seat (result_map Office (ok_or found BadMember))
found_within None is_within = refl
found_within (Some request) is_within = is_within

-- what was read of a query and a body is within its ranges, or refused
read_within : (asked : Operation) (method query body : List ℕ) → IsWithin of_seat (result_map Office (request_read asked method query body))
read_within asked method query body = by (body_data method body)
  where
    by : (read : Option Data)
        → IsWithin of_seat (result_map Office (result_and_then (λ members.
        ok_or (request_of asked query members) BadMember) (ok_or read BadJson)))
    by None = refl
    by (Some members) = found_within (request_of asked query members) (request_within asked query members)

-- whatever a path asks for is within its ranges, or refused
route_within : (found : Option Route) (kind : CallerKind) (r : HttpRequest)
    → IsWithin kind (result_and_then (λ route. parse_at_route route kind r) (ok_or found UnknownPath))
route_within (Some (Asks asked)) of_seat r = read_within asked r.head.method (query_of r.head.target) r.body
route_within (Some Reports) of_seat r = tt
route_within (Some ReportsSite) of_manager r = tt
route_within _ _ r = refl

-- whatever a request asks for is such
pub asked_within : (kind : CallerKind) (r : HttpRequest) → IsWithin kind (parse_request kind r)
asked_within kind r = route_within (route_among r.head.method (path_of r.head.target) routes) kind r

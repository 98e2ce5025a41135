-- The words of this crate, passed on from one place. Declares nothing.
pub use Rattle.station_requests.specs.Act.{act_members, end_of}
unfoldable pub use Rattle.station_requests.specs.Act.{act_of}
pub use Rattle.station_requests.specs.Change.{number_member}
unfoldable pub use Rattle.station_requests.specs.Change.{request_for}
pub use Rattle.station_requests.specs.Device.{after_parameter, after_of_text}
pub use Rattle.station_requests.specs.Device.{block_digest, block_in, chip_parameter, device_members, with_block_digests, word_of_data, word_of_text}
unfoldable pub use Rattle.station_requests.specs.Device.{blocks_member, new_device_of, register_device_of}
pub use Rattle.station_requests.specs.Digest.{LacksFloat, named_members, request_digest, with_found}
pub use Rattle.station_requests.specs.Fault.{ReadsAs}
pub use Rattle.station_requests.specs.Identity.{identity_members, key_of_text}
unfoldable pub use Rattle.station_requests.specs.Identity.{identify_of, new_identity_of}
pub use Rattle.station_requests.specs.Import.{import_members}
unfoldable pub use Rattle.station_requests.specs.Import.{import_of, new_import_of}
pub use Rattle.station_requests.specs.Map.{map_members}
unfoldable pub use Rattle.station_requests.specs.Map.{import_map_of}
pub use Rattle.station_requests.specs.Order.{name_parameter, order_members}
unfoldable pub use Rattle.station_requests.specs.Order.{make_order_of, new_order_of}
pub use Rattle.station_requests.specs.Plan.{kind_of_text, kind_of_wish, kinds, named_wish, want_of, wish_in, wish_members, wishes_in, wishes_of}
unfoldable pub use Rattle.station_requests.specs.Plan.{named_plan, plan_device_of}
pub use Rattle.station_requests.specs.Query.{only_value, text_parameter}
unfoldable pub use Rattle.station_requests.specs.ReadBack.{read_back_of}
pub use Rattle.station_requests.specs.Requests.{body_data, IsFor, kind_of_caller, of_manager, of_seat, parse_at_route, parse_request, request_of}
pub use Rattle.station_requests.specs.Requests.{request_read, route_among, route_entry, RouteEntry, routes, shows}

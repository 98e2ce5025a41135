-- The types that code declares and proofs here name, passed on from one place. Declares nothing.
pub use Rattle.office_commands.specs.declared.refusal.Refusal.{Refusal}
pub use Rattle.office_tables.specs.declared.keep.Keep.{Ghosts}
pub use Rattle.site_core.specs.declared.site.Caller.{Caller}
pub use Rattle.site_core.specs.declared.site.Caller.TheVariants.{Manager, Seat}
pub use Rattle.site_core.specs.declared.site.SeatCaller.{SeatCaller}
pub use Rattle.station_requests.specs.declared.parse.Parsed.{Parsed}
pub use Rattle.station_requests.specs.declared.parse.Parsed.TheVariants.{Office, Report, SiteReport}

-- The words of this crate, passed on from one place. Declares nothing.
pub use Rattle.station_cli.specs.Accepting.{HasFailed, IsNextAccept, IsPassedOver, IsPassing, IsPassingNumber}
pub use Rattle.station_cli.specs.CommandLine.{books_app, CanGive, check_map_app, check_map_of, check_site_app, check_site_of, checked_rule, connections_rule}
pub use Rattle.station_cli.specs.CommandLine.{db_rule, existing_rule, from_rule, has_flag}
pub use Rattle.station_cli.specs.CommandLine.{IsFaultOfKind, job_by, job_of, job_read, job_unless_faulty, map_rule, number_of_digits, number_of_option}
pub use Rattle.station_cli.specs.CommandLine.{port_rule, RefusesWith, replay_app, replay_of, required_db_rule, serve_app, serve_of, ShowsVersion, site_rule}
pub use Rattle.station_cli.specs.CommandLine.{station_app, store_of, texts, top_app, version_line}
pub use Rattle.station_cli.specs.FileText.{IsUnread, or_failure, text_of_file}
pub use Rattle.station_cli.specs.Listening.{IsOfPort, LeadsOn, listening_line}
pub use Rattle.station_cli.specs.MapFile.{map_failure, map_line, map_of_file}
pub use Rattle.station_cli.specs.Moved.{moved_or_failed}
pub use Rattle.station_cli.specs.Outcomes.{AppendsFront, ComesTo, EndsAs, EndsStream, IsAnswered, IsBeforeStream, IsDone, IsOfFile, IsOfJob}
pub use Rattle.station_cli.specs.Outcomes.{IsCheck, IsOfCheck, IsOfFault, IsOfMap, IsOfSite, IsTold, IsToldFault, Traffic}
pub use Rattle.station_cli.specs.Patience.{AreOfProgram, GivesWay, IsNextRead, IsOutOfTime, IsOver, IsTooLong, IsTurnOver, MayLook, passed}
pub use Rattle.station_cli.specs.Replaying.{IsOfStore, Replays}
pub use Rattle.station_cli.specs.SiteCheck.{checked_in, ChecksTo, IsCheckedFrom, IsToldOf, site_line}
pub use Rattle.station_cli.specs.SiteFile.{IsSiteOfFile, site_failure, site_in, text_of_site}
pub use Rattle.station_cli.specs.Statuses.{fault_line, HasStatus, IsReported, line_of, result_of_ending, status_of}
pub use Rattle.station_cli.specs.Storing.{IsOpening, IsServedOver, AreUntouched, Leaves}

-- The words of this crate, passed on from one place. Declares nothing.
pub use Rattle.seat_runs.specs.Names.{AreApart, IsCopy, IsQuestion, IsRefusedAsItCame, Names, ReadsRefusals, ReadsReplies, expected_in}
pub use Rattle.seat_runs.specs.Turns.{IsOf, IsRowOf, IsStationRun, MayTurn, MayTurns, Turn, after_turn, after_turns, answered_in}
pub use Rattle.seat_runs.specs.Turns.{StationRun, WasSent, exchanges_in, number_said, refused_move, row_after, with_accepted, world_after}
pub use Rattle.seat_runs.specs.Moments.{IsDoneAt, IsDoneThen, IsMomentOf, Moment, MomentOf}
pub use Rattle.seat_runs.specs.Plans.{HasEnd, IsAwaiting, IsPlanRecorded, IsRecorded, StaysUntilEnd}
pub use Rattle.seat_runs.specs.Plans.{StaysExpected, asks_for, device_of, expected_of, is_end, is_plan}

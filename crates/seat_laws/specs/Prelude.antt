-- The words of this crate, passed on from one place. Declares nothing.
pub use Rattle.seat_laws.specs.Served.{Answer, Answers, Entry, HasNumber, IsDone, IsEarlier, IsInOrder, IsOther}
pub use Rattle.seat_laws.specs.Served.{IsRefused, IsRepeat, IsTaken, Rules, accepts, entry_of, next_number, refuses}
pub use Rattle.seat_laws.specs.Runs.{HasRoom, IsAlone, IsAmong, IsNoLook, IsRun, IsUnaided, KeepsAll, MayBefall, MayHappen, Move, Reply}
pub use Rattle.seat_laws.specs.Runs.{World, after_act, after_acts, after_move, after_moves, after_step, after_stop}
pub use Rattle.seat_laws.specs.Runs.{beginning, last_question, last_sent, noted, probed, wanted_with}
pub use Rattle.seat_laws.specs.Concludes.{AreToldOf, Concludes, IsDoneOnce, IsLogged, IsOneMore, IsPending, IsToldOf, WereRefused, answers_in, done_in}
pub use Rattle.seat_laws.specs.Concludes.{is_same, line_of_request, own_requests, times, with_entry, with_reply}

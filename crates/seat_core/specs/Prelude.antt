-- The words of this crate, passed on from one place. Declares nothing.
pub use Rattle.seat_core.specs.Aside.{aside_with, newest_of}
pub use Rattle.seat_core.specs.Steps.{Step, does, IsNew, with_aside, number_after}
pub use Rattle.seat_core.specs.Starts.{start_step, request_step, look_step, resumption, number_step}
pub use Rattle.seat_core.specs.Replies.{untried_request, silence_step, patience_step, completion, probe_reply, reply_step}
pub use Rattle.seat_core.specs.Refusals.{aside_step, stop_step, probe_step, request_refusal, probe_refusal, refusal_step}
pub use Rattle.seat_core.specs.Events.{step_of}
pub use Rattle.seat_core.specs.Safety.{IsAside, IsSafe, MaySend, sendings_in, writes, writes_first}
pub use Rattle.seat_core.specs.Copies.{IsKept, IsSure, is_sure, number_of, with_request}

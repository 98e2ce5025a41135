-- The machine of a seat: what a station does at each event, and what it is then.
use Rattle.seat_core.specs.declared.event.Event.{Event}
use Rattle.seat_core.specs.declared.event.Event.TheVariants.{Start, Want, Accept, Refuse, Miss, GiveUp, Look}
use Rattle.seat_core.specs.declared.station.Station.{Station}
use Rattle.seat_core.specs.Steps.{Step}
use Rattle.seat_core.specs.Starts.{look_step, request_step, start_step}
use Rattle.seat_core.specs.Replies.{patience_step, reply_step, silence_step}
use Rattle.seat_core.specs.Refusals.{refusal_step}

abbrev pub step_of : Station → Event → Step
step_of s Start = start_step s
step_of s (Want request) = request_step s request
step_of s (Accept reply) = reply_step s reply
step_of s (Refuse code expected) = refusal_step s code expected
step_of s Miss = silence_step s
step_of s GiveUp = patience_step s
step_of s Look = look_step s

-- The words of this crate, passed on from one place. Declares nothing.
pub use Rattle.seat_ask.specs.States.{AreNew, aside_of, asked_data, asked_in, GivesUnlessMemory, is_new, IsWritable, items_in, last_data, last_in, list_in}
pub use Rattle.seat_ask.specs.States.{member_in, number_at, number_data, number_in, pair_data, pair_in, place_data, place_in}
pub use Rattle.seat_ask.specs.States.{state_data, state_of, stop_data, stop_in, StateValue, text_at, value_of, value_with}
unfoldable pub use Rattle.seat_ask.specs.States.{state_in}
pub use Rattle.seat_ask.specs.Sendings.{IsTextOf, numbered, numbered_in, request_bytes, size_bytes, target_bytes, token_bytes}
pub use Rattle.seat_ask.specs.Replies.{agrees, has_all, heard_of, IsReply, is_reply_to, refusal_in, reply_has}
pub use Rattle.seat_ask.specs.Lines.{line_bytes, number_line, outcome_line, request_line}
pub use Rattle.seat_ask.specs.Ends.{status_of}

-- The words of this crate, passed on from one place. Declares nothing.
pub use Rattle.seat_client.specs.Choices.{HasName, befalls, is_last, is_needed, is_same, is_under_way}
pub use Rattle.seat_client.specs.Choices.{logged_reply, next_pause, reply_behind, shown_end, told_end}
pub use Rattle.seat_client.specs.Known.{IsLogged, blocks_in, known_block, known_in, known_members, request_digest, with_blocks, word_in, words_in}
unfoldable pub use Rattle.seat_client.specs.Known.{block_digest}
pub use Rattle.seat_client.specs.Wanted.{IsWanted}
pub use Rattle.seat_client.specs.Words.{is_host_byte}

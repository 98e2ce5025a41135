-- The words of this crate, passed on from one place. Declares nothing.
pub use Rattle.http_replies.specs.Replies.{Answer, answer_of, asks_token, bytes_of_body, code_of, is_unavailable, kind_of_body, line_if, media_type_of}
pub use Rattle.http_replies.specs.Replies.{phrase_of, reply_text}
unfoldable pub use Rattle.http_replies.specs.Replies.{head_text}

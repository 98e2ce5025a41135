-- The words of this crate, passed on from one place. Declares nothing.
pub use Rattle.http_frames.specs.Buffers.{BufferValue, count_of, end_of_framed, faults_of, IsEnd, IsFramed, KeepsBytes, unread}
pub use Rattle.http_frames.specs.Fields.{after_byte, ampersand, asks_close, before_byte, body_limit, body_size, cons_first, equals_sign, frame_refusal_number}
pub use Rattle.http_frames.specs.Fields.{has_field, Header, headers_at, is_decimal, is_header_named, IsCut, IsOccurrence, Lacks, path_of, piece_is_named}
pub use Rattle.http_frames.specs.Fields.{piece_values, query_of, question_mark, size_of_value, size_of_values, skip_spaces, some_token, split_at_byte}
pub use Rattle.http_frames.specs.Fields.{token_in_headers, token_of_values, unless_coded}
unfoldable pub use Rattle.http_frames.specs.Fields.{bearer_token, has_close, parameters_named, same_ignoring_case, values_named}
pub use Rattle.http_frames.specs.Frames.{call_limit, ends_after, field_limit, HasBadHead, HasHead, HasRefusedHead, HasRequest, head_limit, headers_of, HeadFits}
pub use Rattle.http_frames.specs.Frames.{is_head_method, IsCutInBody, IsCutInHead, IsCutOff, IsRefused, IsRefusedWhole, IsUndecided, LacksHead, Request, room}
pub use Rattle.http_frames.specs.Looks.{IsFrameAt, IsHeadAt, IsHeadFound, IsLook}
pub use Rattle.http_frames.specs.Transfers.{AddsFront, failures_of, MovesAtMost, ReadsBytes, Takes, write_failures, WritesBytes}
pub use Rattle.http_frames.specs.Calls.{HasCallsLeft, read_faults, SendsWithinCalls, StaysWithinCalls, write_faults}
pub use Rattle.http_frames.specs.Cycles.{IsOneExchange, ServesBytes, ServesExchanges}
pub use Rattle.http_frames.specs.Determined.{cut_of, is_by_bytes, IsCutWhole, IsEitherWay, requests_of}
pub use Rattle.http_frames.specs.Sends.{Sending, Sends, SendsPart, sent_faults}
pub use Rattle.http_frames.specs.Streams.{answered, BeginsWithExchange, Cuts, ending_of_sent, Ends, HttpExchange, is_last, IsOpen, refusal_answer}
pub use Rattle.http_frames.specs.Streams.{refused, requests_with_answers, StopsReading, StopsWriting, Tells, text_of, texts_of}

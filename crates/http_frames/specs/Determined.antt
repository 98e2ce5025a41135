-- What the bytes of a stream alone decide of how it is served.
use Rattle.std.specs.Prelude.{◌≡◌, ℕ, List, Bool, true, false, Result, Ok, Err, map}
use Rattle.httparse.specs.Spans.{RequestOverflows}
use Rattle.http_frames.specs.declared.fields.FrameRefusal.{FrameRefusal}
use Rattle.http_frames.specs.Frames.{Request, IsCutInHead, field_limit}
use Rattle.http_frames.specs.declared.serving.Served.{Served}
use Rattle.http_frames.specs.declared.serving.Served.TheVariants.{Ended, Closed, Cut}
use Rattle.http_frames.specs.Streams.{HttpExchange, answered, refused, requests_with_answers, Cuts, Ends}

-- what stands in the stream where the exchange is: a request, or what is refused. The answer is left out
abbrev pub cut_of : HttpExchange → Result Request (FrameRefusal × Bool)
cut_of (answered request answer) = Ok request
cut_of (refused refusal is_head) = Err (refusal, is_head)

-- the requests among the exchanges
abbrev pub requests_of : List HttpExchange → List Request
requests_of exchanges = map (λ exchange. exchange.0) (requests_with_answers exchanges)

-- the stream ended so by its bytes, and not by its reader, its writer, a limit or memory
abbrev pub is_by_bytes : Served → Bool
is_by_bytes Ended = true
is_by_bytes Closed = true
is_by_bytes Cut = true
is_by_bytes _ = false

-- the stream is these exchanges up to its end, which its bytes make, and `rest` follows them
pub record IsCutWhole (stream : List ℕ) (served : Served) (exchanges : List HttpExchange) (rest : List ℕ) : Type 0 where
  pub cut : Cuts stream exchanges rest
  pub by_bytes : is_by_bytes served ≡ true
  pub left : List ℕ
  pub before : List ℕ
  pub written : List ℕ
  pub ends : Ends served exchanges rest left before written

-- part of a head that no bytes make one with few enough fields: it may be refused at once, or be cut off where the stream ends
abbrev pub IsEitherWay : List ℕ → Type 0
IsEitherWay rest = IsCutInHead rest × RequestOverflows field_limit rest

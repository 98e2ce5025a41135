-- A stream is served exchange by exchange.
use Rattle.std.specs.Prelude.{◌≡◌, ℕ, List, [], ◌∷◌, ◌++◌, Bool, true, false, ◌⊎◌, Option, Some, None, IfSome, IsSomeAnd, codes, flat_map}
use Rattle.std.specs.List.{list_any}
use Rattle.http_frames.specs.declared.fields.FrameRefusal.{FrameRefusal}
use Rattle.http_frames.specs.declared.fields.FrameRefusal.TheVariants.{BadHead, BadLength, TooLarge, Chunked}
use Rattle.http_frames.specs.Frames.{Request, HasRequest, IsRefused, IsCutOff, IsUndecided, is_head_method, ends_after}
use Rattle.http_replies.specs.declared.Kind.TheVariants.{Json}
use Rattle.http_replies.specs.Prelude.{Answer, reply_text}
use Rattle.http_frames.specs.declared.send.Sent.{Sent}
use Rattle.http_frames.specs.declared.send.Sent.TheVariants.{All}
use Rattle.http_frames.specs.declared.serving.Served.{Served}
use Rattle.http_frames.specs.declared.serving.Served.TheVariants.{Ended, Closed, Cut, ReadFault, WriteFault, TurnLimit, NoMemory}
use Rattle.http_replies.specs.declared.Status.TheVariants as Status

-- a request with its answer, or a refusal of the framing
pub data HttpExchange : Type 0 where
  answered : (request : Request) → (answer : Answer) → HttpExchange
  refused : (refusal : FrameRefusal) → (is_head : Bool) → HttpExchange

-- the rest begins with the request of the exchange, or with what it refuses, and `after` follows. Nothing is cut from the rest after a refusal
abbrev pub BeginsWithExchange : List ℕ → HttpExchange → List ℕ → Type 0
BeginsWithExchange rest (answered request answer) after = HasRequest rest request after
BeginsWithExchange rest (refused refusal is_head) after = IsRefused rest refusal is_head × (after ≡ rest)

-- the stream ends after the exchange
abbrev pub is_last : HttpExchange → Bool
is_last (answered request answer) = ends_after request.head
is_last (refused refusal is_head) = true

-- what the reply to a refusal says
abbrev pub refusal_answer : FrameRefusal → Answer
refusal_answer BadHead = record { status = Status.BadRequest; kind = Json; body = codes "{\"error\":\"bad_head\",\"no\":1}" }
refusal_answer BadLength = record { status = Status.BadRequest; kind = Json; body = codes "{\"error\":\"bad_length\",\"no\":2}" }
refusal_answer TooLarge = record { status = Status.TooLarge; kind = Json; body = codes "{\"error\":\"too_large\",\"no\":3}" }
refusal_answer Chunked = record { status = Status.NotImplemented; kind = Json; body = codes "{\"error\":\"chunked\",\"no\":4}" }

-- the bytes of the reply
abbrev pub text_of : HttpExchange → List ℕ
text_of (answered request answer) = reply_text answer (is_head_method request.head) (ends_after request.head)
text_of (refused refusal is_head) = reply_text (refusal_answer refusal) is_head true

-- the replies of all the exchanges
abbrev pub texts_of : List HttpExchange → List ℕ
texts_of exchanges = flat_map text_of exchanges

-- the requests among the exchanges, with their answers
abbrev pub requests_with_answers : List HttpExchange → List (Request × Answer)
requests_with_answers [] = []
requests_with_answers (answered request answer ∷ exchanges) = (request, answer) ∷ requests_with_answers exchanges
requests_with_answers (refused refusal is_head ∷ exchanges) = requests_with_answers exchanges

-- the stream begins with these exchanges, and `rest` follows. Only the last may end the stream
abbrev pub Cuts : List ℕ → List HttpExchange → List ℕ → Type 0
Cuts stream [] rest = rest ≡ stream
Cuts stream (exchange ∷ exchanges) rest =
    (after : List ℕ) × BeginsWithExchange stream exchange after × (is_last exchange ≡ true → exchanges ≡ []) × Cuts after exchanges rest

-- none of the exchanges ends the stream
abbrev pub IsOpen : List HttpExchange → Type 0
IsOpen exchanges = list_any is_last exchanges ≡ false

-- all the replies were written, and what was read behind the exchanges is no whole request
pub record StopsReading (exchanges : List HttpExchange) (rest left before written : List ℕ) : Type 0 where
  pub open_exchanges : IsOpen exchanges
  pub held : List ℕ
  pub rest_is : rest ≡ held ++ left
  pub undecided : IsUndecided held
  pub written_is : written ≡ before ++ texts_of exchanges

-- all the replies but the last, and a front of the last
pub record StopsWriting (exchanges : List HttpExchange) (before written : List ℕ) : Type 0 where
  pub front : List HttpExchange
  pub last : HttpExchange
  pub exchanges_are : exchanges ≡ front ++ last ∷ []
  pub sent : List ℕ
  pub unsent : List ℕ
  pub text : text_of last ≡ sent ++ unsent
  pub written_is : written ≡ before ++ texts_of front ++ sent

-- how the stream came to its end
abbrev pub Ends : Served → List HttpExchange → List ℕ → List ℕ → List ℕ → List ℕ → Type 0
Ends Ended exchanges rest left before written = IsOpen exchanges × (rest ≡ []) × (written ≡ before ++ texts_of exchanges)
Ends Closed exchanges rest left before written = (list_any is_last exchanges ≡ true) × (written ≡ before ++ texts_of exchanges)
Ends Cut exchanges rest left before written = IsOpen exchanges × IsCutOff rest × (written ≡ before ++ texts_of exchanges)
Ends ReadFault exchanges rest left before written = StopsReading exchanges rest left before written
Ends WriteFault exchanges rest left before written = StopsWriting exchanges before written
Ends TurnLimit exchanges rest left before written = StopsReading exchanges rest left before written ⊎ StopsWriting exchanges before written
Ends NoMemory exchanges rest left before written = (exchanges ≡ []) × (written ≡ before)

-- what the exchanges are to the bytes, where the reader and the writer tell theirs
abbrev pub Tells : Option (List ℕ) → Option (List ℕ) → Option (List ℕ) → Option (List ℕ) → Served → List HttpExchange → Type 0
Tells left_old left_new written_old written_new served exchanges =
    IfSome left_old (λ stream. IfSome written_old (λ before.
    IsSomeAnd left_new (λ left. IsSomeAnd written_new (λ written.
    (rest : List ℕ) × Cuts stream exchanges rest × Ends served exchanges rest left before written))))

-- what became of a stream where this became of a reply
abbrev pub ending_of_sent : Sent → Bool → Option Served
ending_of_sent All true = Some Closed
ending_of_sent All false = None
ending_of_sent Sent.Fault last = Some WriteFault
ending_of_sent Sent.TurnLimit last = Some TurnLimit

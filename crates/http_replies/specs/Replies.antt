-- What a reply says, and its bytes (RFC 9110, sections 8 and 15; RFC 9112, section 4).
use Rattle.std.specs.Prelude.{ℕ, List, [], ◌++◌, length, Bool, unwrap_or, codes, decimal, if◌then◌else◌, ◌==◌, string_bytes}
use Rattle.http.specs.StatusCode.{reason_phrase}
use Rattle.http_replies.specs.declared.Status.{Status}
use Rattle.http_replies.specs.declared.Status.TheVariants.{Success, BadRequest, Unauthorized, Forbidden, NotFound, Conflict, TooLarge, Unprocessable}
use Rattle.http_replies.specs.declared.Status.TheVariants.{NotImplemented, Unavailable}
use Rattle.http_replies.specs.declared.Kind.{Kind}
use Rattle.http_replies.specs.declared.Body.{Body}
use Rattle.http_replies.specs.declared.Reply.{Reply}

-- the status as a number
abbrev pub code_of : Status → ℕ
code_of Success = 200
code_of BadRequest = 400
code_of Unauthorized = 401
code_of Forbidden = 403
code_of NotFound = 404
code_of Conflict = 409
code_of TooLarge = 413
code_of Unprocessable = 422
code_of NotImplemented = 501
code_of Unavailable = 503

-- the phrase of a status (RFC 9110, section 15)
abbrev pub phrase_of : Status → List ℕ
phrase_of status = unwrap_or (reason_phrase (code_of status)) []

-- the status asks the caller for a token
abbrev pub asks_token : Status → Bool
asks_token status = code_of status == 401

-- the status says that the request cannot be served now
abbrev pub is_unavailable : Status → Bool
is_unavailable status = code_of status == 503

-- the media type of a kind of bodies
abbrev pub media_type_of : Kind → List ℕ
media_type_of Kind.Json = codes "application/json"
media_type_of Kind.Csv = codes "text/csv"

-- the kind of a body
abbrev pub kind_of_body : Body → Kind
kind_of_body (Body.Constant text) = Kind.Json
kind_of_body (Body.Json text) = Kind.Json
kind_of_body (Body.Report bytes) = Kind.Csv

-- the bytes of a body
abbrev pub bytes_of_body : Body → List ℕ
bytes_of_body (Body.Constant text) = text.now
bytes_of_body (Body.Json text) = string_bytes text
bytes_of_body (Body.Report bytes) = bytes.items

-- what a reply says, wherever its bytes lie in memory
pub record Answer : Type 0 where
  pub status : Status
  pub kind : Kind
  pub body : List ℕ

-- what a reply in memory says
abbrev pub answer_of : Reply → Answer
answer_of reply = record { status = reply.status; kind = kind_of_body reply.body; body = bytes_of_body reply.body }

-- the line where the condition holds, and nothing elsewhere
abbrev pub line_if : Bool → List ℕ → List ℕ
line_if holds line = if holds then line else []

-- the status line and the fields of a reply, and the empty line that ends them
unfoldable pub head_text : Answer → Bool → List ℕ
head_text answer is_last =
    codes "HTTP/1.1 " ++ decimal (code_of answer.status) ++ codes " " ++ phrase_of answer.status
    ++ codes "\r\nContent-Type: " ++ media_type_of answer.kind
    ++ codes "\r\nContent-Length: " ++ decimal (length answer.body) ++ codes "\r\n"
    ++ line_if (asks_token answer.status) (codes "WWW-Authenticate: Bearer\r\n")
    ++ line_if is_last (codes "Connection: close\r\n") ++ codes "\r\n"

-- the whole reply: to a request with method HEAD its body's bytes are left out
abbrev pub reply_text : Answer → Bool → Bool → List ℕ
reply_text answer is_head is_last = head_text answer is_last ++ (if is_head then [] else answer.body)

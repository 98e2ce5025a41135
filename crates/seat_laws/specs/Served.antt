-- What a server does with the requests of one seat (the API's page, "The protocol of a seat").
use Rattle.std.specs.Prelude.{◌≡◌, ◌⊎◌, ℕ, ◌+◌, ◌<◌, Bool, true, false, nat_le, nat_lt, ◌==◌, List, [], ◌∷◌}
use Rattle.seat_core.specs.declared.request.Sent.{Sent}

-- a request that was accepted, with its reply, and whether it was a copy of one of the station's
pub record Entry : Type 0 where
  pub number : ℕ
  pub request : ℕ
  pub reply : ℕ
  pub own : Bool

abbrev pub entry_of : Sent → ℕ → Entry
entry_of sent reply =
    record { number = sent.number; request = sent.request; reply = reply; own = true }

-- the greatest number that a request can have: the largest whole number of JSON (RFC 8259, 6)
abbrev pub greatest_number : ℕ
greatest_number = 9007199254740991

-- The seat's accepted requests are a list, the newest first. The number that comes next is the
-- first one, or that after the newest's.
abbrev pub next_number : ℕ → List Entry → ℕ
next_number first [] = first
next_number first (entry ∷ books) = entry.number + 1

-- they have one number after the other, from the first on, and each is one that a request can have
abbrev pub IsInOrder : ℕ → List Entry → Type 0
IsInOrder first [] = Unit {0}
IsInOrder first (entry ∷ books) = (entry.number ≡ next_number first books)
    × (nat_le entry.number greatest_number ≡ true) × IsInOrder first books

-- a reply of 200, by its name; or a refusal's number, and the number that it says is expected
pub data Answer : Type 0 where
  accepts : ℕ → Answer
  refuses : ℕ → ℕ → Answer

-- the request has the next number, and is done: it is the newest then
pub record IsDone (first : ℕ) (books : List Entry) (sent : Sent) (reply : ℕ) (after : List Entry)
    : Type 0 where
  pub next : sent.number ≡ next_number first books
  pub number : nat_le sent.number greatest_number ≡ true
  pub done : after ≡ entry_of sent reply ∷ books

-- the newest comes again, and gets its reply again
pub record IsRepeat (books : List Entry) (sent : Sent) (reply : ℕ) (after : List Entry)
    : Type 0 where
  pub newest : Entry
  pub older : List Entry
  pub are : books ≡ newest ∷ older
  pub number : newest.number ≡ sent.number
  pub request : newest.request ≡ sent.request
  pub reply_of : newest.reply ≡ reply
  pub same : after ≡ books

-- the newest has this number, and is another request
pub record IsOther (books : List Entry) (sent : Sent) : Type 0 where
  pub newest : Entry
  pub older : List Entry
  pub are : books ≡ newest ∷ older
  pub number : newest.number ≡ sent.number
  pub other : newest.request ≡ sent.request → ⊥

-- the newest has this number
pub record HasNumber (books : List Entry) (number : ℕ) : Type 0 where
  pub newest : Entry
  pub older : List Entry
  pub are : books ≡ newest ∷ older
  pub is : newest.number ≡ number

-- A refusal changes nothing. Only a number that is neither the newest's nor the next one is refused
-- as 11, only another request with the newest's number as 12, and as one of a higher number, but
-- for 50, only the next number.
pub record IsRefused (first : ℕ) (books : List Entry) (sent : Sent) (code expected : ℕ)
    (after : List Entry) : Type 0 where
  pub same : after ≡ books
  pub not_next : code ≡ 11 → sent.number ≡ next_number first books → ⊥
  pub not_newest : code ≡ 11 → HasNumber books sent.number → ⊥
  pub next : code ≡ 11 → expected ≡ next_number first books
  pub other : code ≡ 12 → IsOther books sent
  pub judged : nat_lt 12 code ≡ true → code == 50 ≡ false → sent.number ≡ next_number first books

-- somebody else's request has the next number, and is done
pub record IsTaken (first : ℕ) (books : List Entry) (entry : Entry) : Type 0 where
  pub own : entry.own ≡ false
  pub next : entry.number ≡ next_number first books
  pub number : nat_le entry.number greatest_number ≡ true

-- by the number's rule the server may give this answer, and has these books then
abbrev pub Rules : ℕ → List Entry → Sent → Answer → List Entry → Type 0
Rules first books sent (accepts reply) after =
    IsDone first books sent reply after ⊎ IsRepeat books sent reply after
Rules first books sent (refuses code expected) after =
    IsRefused first books sent code expected after

-- What came before the first number isn't in the books. So a number of before may get any answer,
-- and changes nothing.
pub record IsEarlier (first : ℕ) (books : List Entry) (sent : Sent) (after : List Entry) : Type 0
  where
    pub before : sent.number < first
    pub unchanged : after ≡ books

-- the server may give this answer to this request, and has these books then
abbrev pub Answers : ℕ → List Entry → Sent → Answer → List Entry → Type 0
Answers first books sent answer after =
    IsEarlier first books sent after ⊎ Rules first books sent answer after

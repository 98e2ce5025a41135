-- The lines of a station's log (the API's page, "The log").
use Rattle.std.specs.Prelude.{ℕ, ◌++◌, List, [], ◌∷◌, codes}
use Rattle.serde_json.specs.Data.{Data, object, string, member, no_members}
use Rattle.serde_json.specs.Written.{compact_text}
use Rattle.seat_ask.specs.States.{number_data}

-- compact JSON and a line feed
abbrev pub line_bytes : Data → List ℕ
line_bytes d = compact_text d ++ 10 ∷ []

-- a request: when, its path, the members that it is known by, and its digest
abbrev pub request_line : List ℕ → List ℕ → Data → List ℕ → Data
request_line time path asked digest = object
    (member (codes "asked") asked
    (member (codes "at") (string time)
    (member (codes "digest") (string digest)
    (member (codes "path") (string path) no_members))))

-- what became of the request with a number: when, the reply's members, and its status
abbrev pub outcome_line : List ℕ → ℕ → Data → ℕ → Data
outcome_line time nr reply status = object
    (member (codes "at") (string time)
    (member (codes "nr") (number_data nr)
    (member (codes "reply") reply
    (member (codes "status") (number_data status) no_members))))

-- the number that a person had the station go on with
abbrev pub number_line : List ℕ → ℕ → Data
number_line time expected = object
    (member (codes "at") (string time)
    (member (codes "resynchronized") (number_data expected) no_members))

-- What a station's file says, and its text as JSON.
use Rattle.std.specs.Prelude.{◌≡◌, ◌≤◌, ◌<◌, ◌==◌, ◌++◌, ◌⊎◌, ⊤, ℕ, List, [], ◌∷◌, Bool, true, not, codes, fold, length, map, nat_lt}
use Rattle.std.specs.List.{list_all}
use Rattle.std.specs.Prelude.{if◌then◌else◌, is_some, IfSome, Option, None, Some, option_map, Result, Ok, Err}
use Rattle.serde_json.specs.Data.{Data, null, number, string, array, object, item, no_items, member, no_members, unsigned}
use Rattle.serde_json.specs.Find.{as_array, as_null, as_number, as_str, as_u64, at, get}
use Rattle.serde_json.specs.View.{items_of}
use Rattle.members.specs.Prelude.{json_items, json_of}
use Rattle.text_core.specs.Prelude.{◌>>=◌, all_of}
use Rattle.seat_core.specs.Prelude.{aside_with}
use Rattle.seat_core.specs.declared.request.Answered.{Answered}
use Rattle.seat_core.specs.declared.request.Stop.{Stop}
use Rattle.seat_core.specs.declared.station.Place.{Place}
use Rattle.seat_core.specs.declared.station.Place.TheVariants.{Unknown, Free, UnderWay}
use Rattle.seat_core.specs.declared.station.SeatFile.{SeatFile}
use Rattle.seat_ask.specs.declared.state.Asked.{Asked}
use Rattle.seat_ask.specs.declared.state.Names.{Names}
use Rattle.seat_ask.specs.declared.state.SeatState.{SeatState}
use Rattle.seat_ask.specs.declared.reading.TextFault.{TextFault}
use Rattle.seat_ask.specs.declared.reading.TextFault.TheVariants.{NoMemory, OtherForm}

-- a station's file, and the requests that it has names for
pub record StateValue : Type 0 where
  pub file : SeatFile
  pub requests : List Asked
  pub named : ℕ

-- the same of values in memory
abbrev pub value_with : SeatFile → Names → StateValue
value_with file names = record { file = file; requests = names.requests.items; named = names.named }

abbrev pub value_of : SeatState → StateValue
value_of s = value_with s.file s.names

-- ---- as JSON

abbrev pub number_data : ℕ → Data
number_data n = number (unsigned n)

-- two numbers
abbrev pub pair_data : ℕ → ℕ → Data
pair_data a b = array (item (number_data a) (item (number_data b) no_items))

-- no number is known, the number of the next request, or that of the one under way and its name
abbrev pub place_data : Place → Data
place_data Unknown = null
place_data (Free next) = number_data next
place_data (UnderWay sent) = pair_data sent.number sent.request

-- the names of the last request that was done and of its reply
abbrev pub last_data : Option Answered → Data
last_data None = null
last_data (Some last) = pair_data last.request last.reply

-- the refusal behind which the station stopped, and the number that it said is expected
abbrev pub stop_data : Option Stop → Data
stop_data None = null
stop_data (Some stop) = pair_data stop.code stop.expected

-- a request's name, its path and its members
abbrev pub asked_data : Asked → Data
asked_data asked = array (item (number_data asked.name) (item (string asked.path) (item (string asked.members) no_items)))

abbrev pub state_data : StateValue → Data
state_data s = object
    (member (codes "aside") (array (items_of (map number_data s.file.aside)))
    (member (codes "last") (last_data s.file.last)
    (member (codes "named") (number_data s.named)
    (member (codes "place") (place_data s.file.place)
    (member (codes "requests") (array (items_of (map asked_data s.requests)))
    (member (codes "stop") (stop_data s.file.stop) no_members))))))

-- ---- read again

abbrev pub number_in : Data → Option ℕ
number_in d = as_number d >>= as_u64

abbrev pub number_at : ℕ → Data → Option ℕ
number_at index d = at index d >>= number_in

abbrev pub text_at : ℕ → Data → Option (List ℕ)
text_at index d = at index d >>= as_str

-- the first two numbers of an array
abbrev pub pair_in : Data → Option (ℕ × ℕ)
pair_in d = number_at 0 d >>= (λ a. option_map (λ b. (a, b)) (number_at 1 d))

-- a number alone is that of the next request, a pair is of the one under way
abbrev pub place_of : Option ℕ → Option (ℕ × ℕ) → Option Place
place_of (Some next) pair = Some (Free next)
place_of None pair = option_map (λ p. UnderWay (record { number = p.0; request = p.1 })) pair

abbrev pub place_in : Data → Option Place
place_in d = if is_some (as_null d) then Some Unknown else place_of (number_in d) (pair_in d)

abbrev pub last_in : Data → Option (Option Answered)
last_in d = if is_some (as_null d) then Some None
    else option_map (λ p. Some (record { request = p.0; reply = p.1 })) (pair_in d)

-- a refusal's number is below 256
abbrev pub stop_of : ℕ × ℕ → Option (Option Stop)
stop_of p = if nat_lt p.0 256 then Some (Some (record { code = p.0; expected = p.1 })) else None

abbrev pub stop_in : Data → Option (Option Stop)
stop_in d = if is_some (as_null d) then Some None else pair_in d >>= stop_of

abbrev pub asked_in : Data → Option Asked
asked_in d = do
  name ← number_at 0 d
  path ← text_at 1 d
  members ← text_at 2 d
  Some (record { name = name; path = path; members = members })

-- what is read of a member
abbrev pub member_in : {A : Type 0} → List ℕ → (Data → Option A) → Data → Option A
member_in name read d = get name d >>= read

-- the items of an array
abbrev pub list_in : Data → Option (List Data)
list_in d = option_map json_items (as_array d)

-- what is read of each item of an array
abbrev pub items_in : {A : Type 0} → (Data → Option A) → Data → Option (List A)
items_in read d = list_in d >>= all_of read

-- these names, kept aside one after another
abbrev pub aside_of : List ℕ → List ℕ
aside_of names = fold (λ aside name. aside_with name aside) [] names

unfoldable pub state_in : Data → Option StateValue
state_in d = do
  place ← member_in (codes "place") place_in d
  last ← member_in (codes "last") last_in d
  stop ← member_in (codes "stop") stop_in d
  named ← member_in (codes "named") number_in d
  aside ← member_in (codes "aside") (items_in number_in) d
  requests ← member_in (codes "requests") (items_in asked_in) d
  Some (record {
    file = record { place = place; aside = aside_of aside; last = last; stop = stop };
    requests = requests;
    named = named;
  })

-- the state of a text
abbrev pub state_of : List ℕ → Option StateValue
state_of text = json_of text >>= state_in

-- The value is what the definition reads, and the fault is `OtherForm` where it reads nothing. Memory
-- may run out in place of either.
abbrev pub GivesUnlessMemory : {T : Type 0} → Result T TextFault → Option T → Type 0
GivesUnlessMemory (Ok found) wanted = Some found ≡ wanted
GivesUnlessMemory (Err fault) wanted = ((None ≡ wanted) × (fault ≡ OtherForm)) ⊎ (fault ≡ NoMemory)

-- ---- what is written whole

-- the name is none of these
abbrev pub is_new : ℕ → List ℕ → Bool
is_new name before = list_all (λ kept. not (kept == name)) before

-- each of the names is none of those before it
abbrev pub AreNew : List ℕ → List ℕ → Type 0
AreNew before [] = ⊤
AreNew before (name ∷ names) = (is_new name before ≡ true) × AreNew (before ++ name ∷ []) names

-- at most 16 requests are aside, each once, and the number of a refusal is below 256
pub record IsWritable (s : StateValue) : Type 0 where
  pub few : length s.file.aside ≤ 16
  pub once : AreNew [] s.file.aside
  pub code : IfSome s.file.stop (λ stop. stop.code < 256)

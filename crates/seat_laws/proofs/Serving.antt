-- What holds between two moves, and that an answer of the server's leaves it so.
use Rattle.std.proofs.Common.{◌≡◌, ◌⊎◌, ◌∙◌, ℕ, ◌-◌, ◌<◌, ◌≤◌, true, false, List, [], ◌∷◌, length}
use Rattle.std.proofs.Common.{Option, None, Some, refl, sym, ap, subst, inl, inr, arith}
use Rattle.std.specs.Prelude.{◌==◌, nat_lt, slice_get}
use Rattle.std.specs.List.{AllByRecursion}
use Rattle.seat_core.specs.declared.request.Answered.{Answered}
use Rattle.seat_core.specs.declared.request.Sent.{Sent}
use Rattle.seat_core.specs.declared.station.Place.{Place}
use Rattle.seat_core.specs.declared.station.Place.TheVariants.{Unknown, Free, UnderWay}
use Rattle.seat_core.specs.declared.station.SeatFile.{SeatFile}
use Rattle.seat_core.specs.declared.station.Station.{Station}
use Rattle.seat_core.specs.declared.station.Waiting.{Waiting}
use Rattle.seat_core.specs.declared.station.Waiting.TheVariants.{Nothing, Once, Again, Kept, Number}
use Rattle.seat_core.specs.Replies.{untried_request}
use Rattle.seat_laws.specs.Served.{Answer, Answers, Entry, HasNumber, IsInOrder, IsOther, accepts, entry_of, next_number, refuses}
use Rattle.seat_laws.specs.Runs.{IsAmong, Reply, World, probed}
use Rattle.seat_laws.specs.Concludes.{AreToldOf, done_in, line_of_request}
use Rattle.std.proofs.lemmas.List.Elements.{All-from_recursion, recursion_from_All, All-weaker}
use Rattle.seat_laws.proofs.Among.{all_at}
use Rattle.seat_laws.proofs.Told.{before_newest, before_number, before_place, told_all}
use Rattle.seat_laws.proofs.Standing.{IsAhead, IsBehind, IsOld, IsOwn, IsStanding, first_standing}
use Rattle.seat_laws.proofs.Standing.{in_order, first_has, newest_same, own_after, served, settled}

-- nothing was sent yet
pub record IsFresh (aside : List ℕ) (done : List Entry) (sents : List Sent) (books : List Entry)
    : Type 0 where
  pub none_aside : aside ≡ []
  pub none_done : done ≡ []
  pub none_sent : sents ≡ []
  pub none_accepted : books ≡ []

abbrev pub IsPlaced : ℕ → Place → List ℕ → List Entry → List Sent → List Entry → Type 0
IsPlaced first Unknown aside done sents books = IsFresh aside done sents books
IsPlaced first (Free number) aside done sents books = IsStanding first number aside done sents books
IsPlaced first (UnderWay sent) aside done sents books =
    IsStanding first sent.number (sent.request ∷ aside) done sents books

-- what holds of a file, the log, what was sent, the books and what was told, at every moment
pub record Holds (first : ℕ) (f : SeatFile) (done : List Entry) (sents : List Sent)
    (books : List Entry) (told : List Answered) : Type 0 where
  pub stop : f.stop ≡ None
  pub placed : IsPlaced first f.place f.aside done sents books
  pub told_done : AreToldOf (before_place f.place books) told

abbrev pub HoldsIn : ℕ → SeatFile → World → Type 0
HoldsIn first f w = Holds first f (done_in w.log) w.sent w.books w.told

-- what an answer to a request means
abbrev pub Means : List Entry → Sent → Answer → Type 0
Means books sent (accepts reply) = (older : List Entry) × (books ≡ entry_of sent reply ∷ older)
Means books sent (refuses code expected) = (code ≡ 11 → ⊥) × (code ≡ 12 → IsOther books sent)

-- what is heard of what was sent last
abbrev pub MeansOf : List Entry → Option Sent → Reply → Type 0
MeansOf books question reply = (sent : Sent) → question ≡ Some sent → reply.to ≡ Some sent
    → Means books sent reply.answer

-- where the newest has this number, a copy with it is never judged
abbrev pub IsUnjudged : Answer → Type 0
IsUnjudged (accepts reply) = Unit {0}
IsUnjudged (refuses code expected) = nat_lt 12 code ≡ true → (code == 50) ≡ false → ⊥

abbrev pub UnjudgedOf : Option Sent → Reply → Type 0
UnjudgedOf question reply = (sent : Sent) → question ≡ Some sent → reply.to ≡ Some sent
    → IsUnjudged reply.answer

-- the request under way waits for its answer
pub record IsAwaited (sent : Sent) (line : Option Sent) (books : List Entry) (since : List Reply)
    : Type 0 where
  pub last_line : line ≡ Some sent
  pub heard : AllByRecursion (MeansOf books (Some sent)) since

-- One of those aside was accepted, and is among those that weren't tried yet.
pub record IsProbing (sent : Sent) (aside : List ℕ) (untried : ℕ) (line : Option Sent)
    (books : List Entry) (since : List Reply) : Type 0 where
  pub last_line : line ≡ Some sent
  pub newest : Entry
  pub older : List Entry
  pub are : books ≡ newest ∷ older
  pub is : newest.number ≡ sent.number
  pub left : ℕ
  pub some_left : 0 < left
  pub left_untried : left ≤ untried
  pub untried_aside : untried ≤ length aside
  pub found : slice_get aside (length aside - left) ≡ Some newest.request
  pub heard : AllByRecursion
      (MeansOf books (probed sent.number (untried_request aside untried))) since
  pub unjudged : AllByRecursion
      (UnjudgedOf (probed sent.number (untried_request aside untried))) since

-- the server said which number is the first one
abbrev pub SaysFirst : ℕ → Answer → Type 0
SaysFirst first (accepts reply) = Unit {0}
SaysFirst first (refuses code expected) = code ≡ 11 → expected ≡ first

abbrev pub SaysFirstOf : ℕ → Reply → Type 0
SaysFirstOf first reply = reply.to ≡ None → SaysFirst first reply.answer

-- what holds of what the station waits for
abbrev pub Waits : ℕ → Waiting → Place → List ℕ → Option Sent → List Entry → List Reply → Type 0
Waits first Nothing place aside line books since = Unit {0}
Waits first Once (UnderWay sent) aside line books since = IsAwaited sent line books since
Waits first Again (UnderWay sent) aside line books since = IsAwaited sent line books since
Waits first (Kept untried again) (UnderWay sent) aside line books since =
    IsProbing sent aside untried line books since
Waits first Number Unknown aside line books since = AllByRecursion (SaysFirstOf first) since
Waits first waiting place aside line books since = ⊥

abbrev pub WaitsIn : ℕ → Station → World → Type 0
WaitsIn first s w = Waits first s.waiting s.file.place s.file.aside (line_of_request w.log) w.books w.since

-- what holds between two moves
pub record IsSettled (first : ℕ) (w : World) : Type 0 where
  pub order : IsInOrder first w.books
  pub own : IsOwn w.books
  pub holds : HoldsIn first w.station.file w
  pub waits : WaitsIn first w.station w

-- what an answer means that the server gives now
means_now : (first number : ℕ) (pending : List ℕ) (done : List Entry) (sents : List Sent)
    (books : List Entry) (sent : Sent) (answer : Answer) (after : List Entry) → IsInOrder first books
    → IsOwn books → IsStanding first number pending done sents books → sent.number ≡ number
    → Answers first books sent answer after → Means after sent answer
means_now first number pending done sents books sent answer after order own standing is (inl earlier) =
    let le = first_standing first number pending done books order standing.stands in
    let lt = earlier.before in absurd (omega arith)
means_now first number pending done sents books sent (accepts reply) after order own standing is (inr (inl new)) =
    (books, new.done)
means_now first number pending done sents books sent (accepts reply) after order own standing is (inr (inr again)) = (
  again.older,
  again.same ∙ newest_same books again.newest again.older sent reply own again.are again.number
      again.request again.reply_of,
)
means_now first number pending done sents books sent (refuses code expected) after order own standing is (inr refused) =
    (not_skipped standing.stands, λ e. subst (λ b. IsOther b sent) (sym refused.same) (refused.other e)) where
      not_skipped : IsAhead first number done books ⊎ IsBehind number pending done books → code ≡ 11 → ⊥
      not_skipped (inl ahead) e = refused.not_next e (is ∙ ahead.next)
      not_skipped (inr behind) e = refused.not_newest e (record {
        newest = behind.newest;
        older = behind.older;
        are = behind.are;
        is = behind.is ∙ sym is;
      })

-- what it means later
means_still : (books after : List Entry) (sent : Sent) (answer : Answer)
    → (HasNumber books sent.number → after ≡ books) → Means books sent answer → Means after sent answer
means_still books after sent (accepts reply) still means = (
  means.0,
  still (record {
    newest = entry_of sent reply;
    older = means.0;
    are = means.1;
    is = refl;
  }) ∙ means.1,
)
means_still books after sent (refuses code expected) still means = (
  means.0,
  λ e.
      let o = means.1 e in
      subst (λ b. IsOther b sent) (sym (still (record {
        newest = o.newest;
        older = o.older;
        are = o.are;
        is = o.number;
      }))) o,
)

-- of what was sent last, with the number that is under way
heard_served : (first number : ℕ) (pending : List ℕ) (done : List Entry) (sents : List Sent)
    (books : List Entry) (sent : Sent) (answer : Answer) (after : List Entry)
    (question : Option Sent) (since : List Reply) → ((q : Sent) → question ≡ Some q → q.number ≡ number)
    → IsInOrder first books → IsOwn books → IsStanding first number pending done sents books → IsAmong sent sents
    → Answers first books sent answer after
    → AllByRecursion (MeansOf books question) since
    → AllByRecursion (MeansOf after question) (record { to = Some sent; answer = answer } ∷ since)
heard_served first number pending done sents books sent answer after question since numbered order own standing among answered heard = (
  now,
  recursion_from_All _ _ (All-weaker (MeansOf books question) (MeansOf after question) later _
      (All-from_recursion _ since heard)),
) where
  now : MeansOf after question (record { to = Some sent; answer = answer })
  now q e to = let same : sent ≡ q = cc in
      let n = numbered q e in
      subst (λ s. Means after s answer) same (means_now first number pending done sents books sent answer after order own standing
      (ap (λ (s : Sent). s.number) same ∙ n) answered)

  later : (reply : Reply) → MeansOf books question reply → MeansOf after question reply
  later reply means q e to = means_still books after q reply.answer
      (λ has. settled first number pending books sent answer after
      (subst (HasNumber books) (numbered q e) has)
      (all_at (IsOld number pending) sent sents standing.old among) answered)
      (means q e to)

unjudged_now : (first number : ℕ) (books : List Entry) (sent : Sent) (answer : Answer) (after : List Entry)
    → IsInOrder first books → HasNumber books number → sent.number ≡ number → Answers first books sent answer after
    → IsUnjudged answer
unjudged_now first number books sent answer after order has is (inl earlier) =
    let le = first_has first number books order has in
    let lt = earlier.before in absurd (omega arith)
unjudged_now first number books sent (accepts reply) after order has is (inr answered) = tt
unjudged_now first number books sent (refuses code expected) after order has is (inr refused) = λ above other.
    let e = ap (next_number first) has.are in
    let i = has.is in
    let j = refused.judged above other in absurd (omega arith)

unjudged_served : (first number : ℕ) (books : List Entry) (sent : Sent) (answer : Answer) (after : List Entry)
    (question : Option Sent) (since : List Reply) → ((q : Sent) → question ≡ Some q → q.number ≡ number)
    → IsInOrder first books → HasNumber books number → Answers first books sent answer after
    → AllByRecursion (UnjudgedOf question) since
    → AllByRecursion (UnjudgedOf question) (record { to = Some sent; answer = answer } ∷ since)
unjudged_served first number books sent answer after question since numbered order has answered unjudged =
    (now, unjudged) where
      now : UnjudgedOf question (record { to = Some sent; answer = answer })
      now q e to = let same : sent ≡ q = cc in
          unjudged_now first number books sent answer after order has (ap (λ (s : Sent). s.number) same ∙ numbered q e) answered

pub probed_number : (number : ℕ) (found : Option ℕ) (q : Sent) → probed number found ≡ Some q → q.number ≡ number
probed_number number None q e = absurd (cc)
probed_number number (Some request) q e = let same : record { number = number; request = request } ≡ q = cc in
    sym (ap (λ (s : Sent). s.number) same)

awaited_served : (first : ℕ) (sent : Sent) (aside : List ℕ) (done : List Entry) (sents : List Sent)
    (books : List Entry) (copy : Sent) (answer : Answer) (after : List Entry) (line : Option Sent)
    (since : List Reply) → IsInOrder first books → IsOwn books
    → IsStanding first sent.number (sent.request ∷ aside) done sents books
    → IsAmong copy sents → Answers first books copy answer after → IsAwaited sent line books since
    → IsAwaited sent line after (record { to = Some copy; answer = answer } ∷ since)
awaited_served first sent aside done sents books copy answer after line since order own standing among answered awaited = record {
  last_line = awaited.last_line;
  heard = heard_served first sent.number (sent.request ∷ aside) done sents books copy answer after (Some sent) since
      (λ q e. let same : sent ≡ q = cc in sym (ap (λ (s : Sent). s.number) same))
      order own standing among answered awaited.heard;
}

probing_served : (first : ℕ) (sent : Sent) (aside : List ℕ) (untried : ℕ) (done : List Entry) (sents : List Sent)
    (books : List Entry) (copy : Sent) (answer : Answer) (after : List Entry) (line : Option Sent)
    (since : List Reply) → IsInOrder first books → IsOwn books
    → IsStanding first sent.number (sent.request ∷ aside) done sents books
    → IsAmong copy sents → Answers first books copy answer after → IsProbing sent aside untried line books since
    → IsProbing sent aside untried line after (record { to = Some copy; answer = answer } ∷ since)
probing_served first sent aside untried done sents books copy answer after line since order own standing among answered probing =
    let has : HasNumber books sent.number = record {
      newest = probing.newest;
      older = probing.older;
      are = probing.are;
      is = probing.is;
    } in
    record {
      last_line = probing.last_line;
      newest = probing.newest;
      older = probing.older;
      are = settled first sent.number (sent.request ∷ aside) books copy answer after has
          (all_at (IsOld sent.number (sent.request ∷ aside)) copy sents standing.old among) answered ∙ probing.are;
      is = probing.is;
      left = probing.left;
      some_left = probing.some_left;
      left_untried = probing.left_untried;
      untried_aside = probing.untried_aside;
      found = probing.found;
      heard = heard_served first sent.number (sent.request ∷ aside) done sents books copy answer after
          (probed sent.number (untried_request aside untried)) since
          (λ q e. probed_number sent.number (untried_request aside untried) q e)
          order own standing among answered probing.heard;
      unjudged = unjudged_served first sent.number books copy answer after
          (probed sent.number (untried_request aside untried)) since
          (λ q e. probed_number sent.number (untried_request aside untried) q e) order has answered probing.unjudged;
    }

waits_served : (first : ℕ) (waiting : Waiting) (place : Place) (aside : List ℕ) (done : List Entry)
    (sents : List Sent) (books : List Entry) (copy : Sent) (answer : Answer) (after : List Entry)
    (line : Option Sent) (since : List Reply) → IsInOrder first books → IsOwn books → IsPlaced first place aside done sents books
    → IsAmong copy sents → Answers first books copy answer after → Waits first waiting place aside line books since
    → Waits first waiting place aside line after (record { to = Some copy; answer = answer } ∷ since)
waits_served first Nothing place aside done sents books copy answer after line since order own placed among answered waits = tt
waits_served first Once (UnderWay sent) aside done sents books copy answer after line since order own placed among answered waits =
    awaited_served first sent aside done sents books copy answer after line since order own placed among answered waits
waits_served first Again (UnderWay sent) aside done sents books copy answer after line since order own placed among answered waits =
    awaited_served first sent aside done sents books copy answer after line since order own placed among answered waits
waits_served first (Kept untried again) (UnderWay sent) aside done sents books copy answer after line since order own placed among answered waits =
    probing_served first sent aside untried done sents books copy answer after line since order own placed among answered waits
waits_served first Number Unknown aside done sents books copy answer after line since order own placed among answered waits =
    let none : IsAmong copy [] = subst (IsAmong copy) placed.none_sent among in elim none [ ]
waits_served first waiting place aside done sents books copy answer after line since order own placed among answered waits =
    elim waits [ ]

placed_served : (first : ℕ) (place : Place) (aside : List ℕ) (done : List Entry) (sents : List Sent)
    (books : List Entry) (copy : Sent) (answer : Answer) (after : List Entry)
    → IsPlaced first place aside done sents books → IsAmong copy sents → Answers first books copy answer after
    → IsPlaced first place aside done sents after
placed_served first Unknown aside done sents books copy answer after placed among answered =
    let none : IsAmong copy [] = subst (IsAmong copy) placed.none_sent among in elim none [ ]
placed_served first (Free number) aside done sents books copy answer after placed among answered =
    served first number aside done sents books copy answer after placed among answered
placed_served first (UnderWay sent) aside done sents books copy answer after placed among answered =
    served first sent.number (sent.request ∷ aside) done sents books copy answer after placed among answered

-- what was told before the place's number was so before the answer
told_standing : (first number : ℕ) (pending : List ℕ) (done : List Entry) (sents : List Sent) (books : List Entry)
    (copy : Sent) (answer : Answer) (after : List Entry) (told : List Answered)
    → IsStanding first number pending done sents books → IsAmong copy sents → Answers first books copy answer after
    → AreToldOf (before_number number books) told → AreToldOf (before_number number after) told
told_standing first number pending done sents books copy answer after told standing among (inl earlier) are =
    subst (λ b. AreToldOf (before_number number b) told) (sym earlier.unchanged) are
told_standing first number pending done sents books copy (accepts reply) after told standing among (inr (inl new)) are =
    subst (λ b. AreToldOf (before_number number b) told) (sym new.done)
    (subst (λ b. AreToldOf b told) (sym (before_newest number (entry_of copy reply) books (is standing.stands)))
    (told_all number books told are))
  where
    old : IsOld number pending copy
    old = all_at (IsOld number pending) copy sents standing.old among

    least : IsOld number pending copy → copy.number ≤ number
    least (inl less) = omega arith
    least (inr same) = let e = same.0 in omega arith

    is : IsAhead first number done books ⊎ IsBehind number pending done books → copy.number ≡ number
    is (inl ahead) = let n = new.next in let e = ahead.next in omega arith
    is (inr behind) =
        let n = new.next in
        let e = ap (next_number first) behind.are in
        let l = least old in
        let b = behind.is in absurd (omega arith)
told_standing first number pending done sents books copy (accepts reply) after told standing among (inr (inr again)) are =
    subst (λ b. AreToldOf (before_number number b) told) (sym again.same) are
told_standing first number pending done sents books copy (refuses code expected) after told standing among (inr refused) are =
    subst (λ b. AreToldOf (before_number number b) told) (sym refused.same) are

told_served : (first : ℕ) (place : Place) (aside : List ℕ) (done : List Entry) (sents : List Sent) (books : List Entry)
    (copy : Sent) (answer : Answer) (after : List Entry) (told : List Answered)
    → IsPlaced first place aside done sents books → IsAmong copy sents → Answers first books copy answer after
    → AreToldOf (before_place place books) told → AreToldOf (before_place place after) told
told_served first Unknown aside done sents books copy answer after told placed among answered are =
    let none : IsAmong copy [] = subst (IsAmong copy) placed.none_sent among in elim none [ ]
told_served first (Free number) aside done sents books copy answer after told placed among answered are =
    told_standing first number aside done sents books copy answer after told placed among answered are
told_served first (UnderWay sent) aside done sents books copy answer after told placed among answered are =
    told_standing first sent.number (sent.request ∷ aside) done sents books copy answer after told placed among answered are

-- the server answers a copy
pub settled_served : (first : ℕ) (w : World) (copy : Sent) (answer : Answer) (after : List Entry)
    → IsSettled first w → IsAmong copy w.sent → Answers first w.books copy answer after
    → IsSettled first (record w { books = after; since = record { to = Some copy; answer = answer } ∷ w.since })
settled_served first w copy answer after is among answered = record {
  order = in_order first w.books copy answer after answered is.order;
  own = own_after first w.books copy answer after answered is.own;
  holds = record {
    stop = is.holds.stop;
    placed = placed_served first w.station.file.place w.station.file.aside (done_in w.log) w.sent w.books copy
        answer after is.holds.placed among answered;
    told_done = told_served first w.station.file.place w.station.file.aside (done_in w.log) w.sent w.books copy
        answer after w.told is.holds.placed among answered is.holds.told_done;
  };
  waits = waits_served first w.station.waiting w.station.file.place w.station.file.aside (done_in w.log) w.sent
      w.books copy answer after (line_of_request w.log) w.since is.order is.own is.holds.placed among answered is.waits;
}

-- an answer to the question for the number is no answer to a request
heard_said : (books : List Entry) (question : Option Sent) (answer : Answer) (since : List Reply)
    → AllByRecursion (MeansOf books question) since
    → AllByRecursion (MeansOf books question) (record { to = None; answer = answer } ∷ since)
heard_said books question answer since heard = ((λ sent e to. absurd (cc)), heard)

unjudged_said : (question : Option Sent) (answer : Answer) (since : List Reply)
    → AllByRecursion (UnjudgedOf question) since
    → AllByRecursion (UnjudgedOf question) (record { to = None; answer = answer } ∷ since)
unjudged_said question answer since unjudged = ((λ sent e to. absurd (cc)), unjudged)

awaited_said : (sent : Sent) (books : List Entry) (answer : Answer) (line : Option Sent) (since : List Reply)
    → IsAwaited sent line books since
    → IsAwaited sent line books (record { to = None; answer = answer } ∷ since)
awaited_said sent books answer line since awaited = record {
  last_line = awaited.last_line;
  heard = heard_said books (Some sent) answer since awaited.heard;
}

probing_said : (sent : Sent) (aside : List ℕ) (untried : ℕ) (books : List Entry) (answer : Answer)
    (line : Option Sent) (since : List Reply) → IsProbing sent aside untried line books since
    → IsProbing sent aside untried line books (record { to = None; answer = answer } ∷ since)
probing_said sent aside untried books answer line since probing = record {
  last_line = probing.last_line;
  newest = probing.newest;
  older = probing.older;
  are = probing.are;
  is = probing.is;
  left = probing.left;
  some_left = probing.some_left;
  left_untried = probing.left_untried;
  untried_aside = probing.untried_aside;
  found = probing.found;
  heard = heard_said books (probed sent.number (untried_request aside untried)) answer since probing.heard;
  unjudged = unjudged_said (probed sent.number (untried_request aside untried)) answer since probing.unjudged;
}

waits_said : (first : ℕ) (waiting : Waiting) (place : Place) (aside : List ℕ) (done : List Entry)
    (sents : List Sent) (books : List Entry) (code expected : ℕ) (line : Option Sent) (since : List Reply)
    → IsPlaced first place aside done sents books → (code ≡ 11 → expected ≡ next_number first books)
    → Waits first waiting place aside line books since
    → Waits first waiting place aside line books (record { to = None; answer = refuses code expected } ∷ since)
waits_said first Nothing place aside done sents books code expected line since placed says waits = tt
waits_said first Once (UnderWay sent) aside done sents books code expected line since placed says waits =
    awaited_said sent books (refuses code expected) line since waits
waits_said first Again (UnderWay sent) aside done sents books code expected line since placed says waits =
    awaited_said sent books (refuses code expected) line since waits
waits_said first (Kept untried again) (UnderWay sent) aside done sents books code expected line since placed says waits =
    probing_said sent aside untried books (refuses code expected) line since waits
waits_said first Number Unknown aside done sents books code expected line since placed says waits =
    ((λ to e. says e ∙ ap (next_number first) placed.none_accepted), waits)
waits_said first waiting place aside done sents books code expected line since placed says waits = elim waits [ ]

-- the server says which number it expects
pub settled_said : (first : ℕ) (w : World) (code expected : ℕ) → IsSettled first w
    → (code ≡ 11 → expected ≡ next_number first w.books)
    → IsSettled first (record w { since = record { to = None; answer = refuses code expected } ∷ w.since })
settled_said first w code expected is says = record {
  order = is.order;
  own = is.own;
  holds = is.holds;
  waits = waits_said first w.station.waiting w.station.file.place w.station.file.aside (done_in w.log) w.sent
      w.books code expected (line_of_request w.log) w.since is.holds.placed says is.waits;
}

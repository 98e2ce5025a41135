-- Whatever befalls the station, and whoever else has the token: the count lasts.
use Rattle.std.proofs.Common.{◌≡◌, ◌∙◌, ℕ, ◌-◌, ◌<◌, ◌≤◌, Bool, true, false, List, [], ◌∷◌, length}
use Rattle.std.proofs.Common.{take, Option, None, Some, refl, sym, ap, subst, inl, inr, arith}
use Rattle.std.proofs.lemmas.Bool.{eqb-true}
use Rattle.std.specs.Prelude.{◌==◌, ◌&&◌, nat_le, nat_lt}
use Rattle.std.specs.List.{AllByRecursion}
use Rattle.seat_core.specs.declared.act.Trouble.TheVariants.{Busy, Stopped, Unsure, Waits}
use Rattle.seat_core.specs.declared.event.Event.{Event}
use Rattle.seat_core.specs.declared.event.Event.TheVariants.{Start, Want, Accept, Refuse, Miss, GiveUp, Look}
use Rattle.seat_core.specs.declared.request.Answered.{Answered}
use Rattle.seat_core.specs.declared.request.Sent.{Sent}
use Rattle.seat_core.specs.declared.request.Stop.{Stop}
use Rattle.seat_core.specs.declared.station.Place.{Place}
use Rattle.seat_core.specs.declared.station.Place.TheVariants.{Unknown, Free, UnderWay}
use Rattle.seat_core.specs.declared.station.Station.{Station}
use Rattle.seat_core.specs.declared.station.Waiting.{Waiting}
use Rattle.seat_core.specs.declared.station.Waiting.TheVariants.{Nothing, Once, Again, Kept, Number}
use Rattle.seat_core.specs.Aside.{aside_with}
use Rattle.seat_core.specs.Steps.{Step, number_after}
use Rattle.seat_core.specs.Starts.{number_at, number_step, request_step, start_step}
use Rattle.seat_core.specs.Replies.{completion, late_copy, patience_step, probe_reply, probe_silence, reply_step, silence_step, untried_request}
use Rattle.seat_core.specs.Refusals.{aside_step, probe_of, probe_refusal, probe_step, refusal_at, request_refusal, stop_step}
use Rattle.seat_core.specs.Events.{step_of}
use Rattle.seat_core.proofs.Safe.{step_safe}
use Rattle.seat_laws.specs.Served.{Answer, Answers, Entry, IsInOrder, accepts, next_number, refuses}
use Rattle.seat_laws.specs.Runs.{IsAmong, IsRun, MayBefall, MayHappen, Move, Reply, World, after_move}
use Rattle.seat_laws.specs.Runs.{after_moves, beginning, befalls, last_sent, noted, probed, says, serves, stops, takes}
use Rattle.seat_laws.specs.Concludes.{IsDoneOnce}
use Rattle.std.proofs.lemmas.List.Elements.{All-from_recursion, recursion_from_All, All-weaker}
use Rattle.seat_laws.proofs.Among.{all_at, at_index}
use Rattle.seat_laws.proofs.Standing.{in_order}
use Rattle.seat_laws.proofs.Serving.{probed_number}
use Rattle.seat_laws.proofs.Acting.{Keeps, cut_holds, either, quiet, shows, step_holds}
use Rattle.seat_laws.proofs.Counts.{CountsAt, CountsIn, HasEntry, HasGrown, answers_grow}
use Rattle.seat_laws.proofs.Counts.{aside_among, counted_after, counted_first, counted_less, counted_once, counted_resumed}
use Rattle.seat_laws.proofs.Counts.{counted_sent, counted_wanted, counts_next, counts_noted, counts_served, counts_taken, has_grows}
use Rattle.seat_laws.proofs.Counts.{least_next, next_grows, next_stays, one_entry, order_grows}
use Rattle.seat_laws.proofs.Running.{same_books}

-- the number was accepted with another request
abbrev IsOthers : List Entry → Sent → Type 0
IsOthers books sent = (request : ℕ) × HasEntry books sent.number request × (request ≡ sent.request → ⊥)

-- what an answer to a request means
abbrev Tells : ℕ → List Entry → Sent → Answer → Type 0
Tells first books sent (accepts reply) =
    (sent.number < next_number first books) × (nat_le sent.number 9007199254740991 ≡ true)
Tells first books sent (refuses code expected) = code ≡ 12 → IsOthers books sent

abbrev TellsOf : ℕ → List Entry → Option Sent → Reply → Type 0
TellsOf first books question reply = (sent : Sent) → question ≡ Some sent → reply.to ≡ Some sent
    → Tells first books sent reply.answer

abbrev SaysNext : ℕ → ℕ → List Entry → Answer → Type 0
SaysNext first least books (accepts reply) = Unit {0}
SaysNext first least books (refuses code expected) =
    code ≡ 11 → (least ≤ expected) × (expected ≤ next_number first books)

abbrev SaysNextOf : ℕ → ℕ → List Entry → Reply → Type 0
SaysNextOf first least books reply = reply.to ≡ None → SaysNext first least books reply.answer

-- what holds of what the station waits for
abbrev WaitsAt : ℕ → Waiting → Place → List ℕ → List Entry → List Reply → Type 0
WaitsAt first Nothing place aside books since = Unit {0}
WaitsAt first Once (UnderWay sent) aside books since = AllByRecursion (TellsOf first books (Some sent)) since
WaitsAt first Again (UnderWay sent) aside books since = AllByRecursion (TellsOf first books (Some sent)) since
WaitsAt first (Kept untried again) (UnderWay sent) aside books since = IsOthers books sent
    × AllByRecursion (TellsOf first books (probed sent.number (untried_request aside untried))) since
WaitsAt first Number place aside books since = AllByRecursion (SaysNextOf first (least_next first place) books) since
WaitsAt first waiting place aside books since = ⊥

abbrev AwaitsIn : ℕ → Station → World → Type 0
AwaitsIn first s w = WaitsAt first s.waiting s.file.place s.file.aside w.books w.since

abbrev Lasting : ℕ → Station → World → Step → Type 0
Lasting first s w step = Keeps (CountsIn first) (AwaitsIn first) s w step

-- a station
abbrev pub of_parts : Place → List ℕ → Option Answered → Option Stop → Waiting → Station
of_parts place aside last stop waiting = record {
  file = record { place = place; aside = aside; last = last; stop = stop };
  waiting = waiting;
}

-- what an answer tells now, and later
tells_now : (first : ℕ) (books : List Entry) (sent : Sent) (answer : Answer) (after : List Entry)
    → IsInOrder first after → first ≤ sent.number → Answers first books sent answer after
    → Tells first after sent answer
tells_now first books sent answer after order from (inl earlier) =
    let lt = earlier.before in absurd (omega arith)
tells_now first books sent (accepts reply) after order from (inr (inl new)) =
    let e = ap (next_number first) new.done in (omega arith, new.number)
tells_now first books sent (accepts reply) after order from (inr (inr again)) =
    let are = again.same ∙ again.are in
    let e = ap (next_number first) are in
    let n = again.number in
    let o : IsInOrder first (again.newest ∷ again.older) = subst (IsInOrder first) are order in
    (omega arith, subst (λ m. nat_le m 9007199254740991 ≡ true) again.number o.1)
tells_now first books sent (refuses code expected) after order from (inr refused) = λ e.
    let o = refused.other e in (
      o.newest.request,
      subst (λ b. HasEntry b sent.number o.newest.request) (sym (refused.same ∙ o.are))
          (inl (o.number, refl)),
      o.other,
    )

others_grow : (first : ℕ) (books after : List Entry) (sent : Sent) → HasGrown first books after
    → IsOthers books sent → IsOthers after sent
others_grow first books after sent grown others =
    (others.0, has_grows first books after sent.number others.0 grown others.1, others.2)

tells_still : (first : ℕ) (books after : List Entry) (sent : Sent) (answer : Answer)
    → HasGrown first books after → Tells first books sent answer → Tells first after sent answer
tells_still first books after sent (accepts reply) grown tells =
    (next_grows first books after sent.number grown tells.0, tells.1)
tells_still first books after sent (refuses code expected) grown tells =
    λ e. others_grow first books after sent grown (tells e)

tells_later : (first : ℕ) (books after : List Entry) (question : Option Sent) (since : List Reply)
    → HasGrown first books after → AllByRecursion (TellsOf first books question) since
    → AllByRecursion (TellsOf first after question) since
tells_later first books after question since grown tells =
    recursion_from_All _ _ (All-weaker (TellsOf first books question) (TellsOf first after question)
    (λ reply tell sent e to. tells_still first books after sent reply.answer grown (tell sent e to)) _
    (All-from_recursion _ since tells))

tells_served : (first : ℕ) (books : List Entry) (sent : Sent) (answer : Answer) (after : List Entry)
    (question : Option Sent) (since : List Reply) → IsInOrder first after
    → ((q : Sent) → question ≡ Some q → first ≤ q.number) → Answers first books sent answer after
    → AllByRecursion (TellsOf first books question) since
    → AllByRecursion (TellsOf first after question) (record { to = Some sent; answer = answer } ∷ since)
tells_served first books sent answer after question since order from answered tells =
    (now, tells_later first books after question since (answers_grow first books sent answer after answered) tells) where
      now : TellsOf first after question (record { to = Some sent; answer = answer })
      now q e to = let same : sent ≡ q = cc in
          let le = from q e in
          let number : sent.number ≡ q.number = ap (λ (s : Sent). s.number) same in
          subst (λ s. Tells first after s answer) same
          (tells_now first books sent answer after order (omega arith) answered)

says_later : (first least : ℕ) (books after : List Entry) (since : List Reply)
    → ((n : ℕ) → n ≤ next_number first books → n ≤ next_number first after)
    → AllByRecursion (SaysNextOf first least books) since → AllByRecursion (SaysNextOf first least after) since
says_later first least books after since grows said =
    recursion_from_All _ _ (All-weaker (SaysNextOf first least books) (SaysNextOf first least after)
    (λ reply say to. later reply.answer (say to)) _ (All-from_recursion _ since said)) where
      later : (answer : Answer) → SaysNext first least books answer → SaysNext first least after answer
      later (accepts reply) say = tt
      later (refuses code expected) say = λ e. let s = say e in (s.0, grows expected s.1)

waits_grow : (first : ℕ) (waiting : Waiting) (place : Place) (aside : List ℕ) (books after : List Entry)
    (since : List Reply) → HasGrown first books after → WaitsAt first waiting place aside books since
    → WaitsAt first waiting place aside after since
waits_grow first Nothing place aside books after since grown waits = tt
waits_grow first Once (UnderWay sent) aside books after since grown waits =
    tells_later first books after (Some sent) since grown waits
waits_grow first Again (UnderWay sent) aside books after since grown waits =
    tells_later first books after (Some sent) since grown waits
waits_grow first (Kept untried again) (UnderWay sent) aside books after since grown waits = (
  others_grow first books after sent grown waits.0,
  tells_later first books after (probed sent.number (untried_request aside untried)) since grown waits.1,
)
waits_grow first Number place aside books after since grown waits =
    says_later first (least_next first place) books after since (λ n le. next_stays first books after n grown le) waits
waits_grow first waiting place aside books after since grown waits = elim waits [ ]

says_served : (first least : ℕ) (books : List Entry) (sent : Sent) (answer : Answer) (since : List Reply)
    → AllByRecursion (SaysNextOf first least books) since
    → AllByRecursion (SaysNextOf first least books) (record { to = Some sent; answer = answer } ∷ since)
says_served first least books sent answer since said = ((λ to. absurd (cc)), said)

from_sent : (first : ℕ) (sent : Sent) → first ≤ sent.number → (q : Sent) → ◌≡◌ {A = Option Sent} (Some sent) (Some q)
    → first ≤ q.number
from_sent first sent le q e =
    let same : sent ≡ q = cc in
    let number : sent.number ≡ q.number = ap (λ (s : Sent). s.number) same in omega arith

from_probed : (first number : ℕ) (found : Option ℕ) → first ≤ number → (q : Sent) → probed number found ≡ Some q
    → first ≤ q.number
from_probed first number found le q e = let same = probed_number number found q e in omega arith

waits_answered : (first : ℕ) (waiting : Waiting) (place : Place) (aside : List ℕ) (books : List Entry) (copy : Sent)
    (answer : Answer) (after : List Entry) (since : List Reply) → IsInOrder first after
    → (sents : List Sent) (wanted : List ℕ) → CountsAt first place aside sents books wanted
    → Answers first books copy answer after → WaitsAt first waiting place aside books since
    → WaitsAt first waiting place aside after (record { to = Some copy; answer = answer } ∷ since)
waits_answered first Nothing place aside books copy answer after since order sents wanted counts answered waits = tt
waits_answered first Once (UnderWay sent) aside books copy answer after since order sents wanted counts answered waits =
    tells_served first books copy answer after (Some sent) since order (from_sent first sent counts.from) answered waits
waits_answered first Again (UnderWay sent) aside books copy answer after since order sents wanted counts answered waits =
    tells_served first books copy answer after (Some sent) since order (from_sent first sent counts.from) answered waits
waits_answered first (Kept untried again) (UnderWay sent) aside books copy answer after since order sents wanted counts answered waits = (
  others_grow first books after sent (answers_grow first books copy answer after answered) waits.0,
  tells_served first books copy answer after (probed sent.number (untried_request aside untried)) since order
      (from_probed first sent.number (untried_request aside untried) counts.from) answered waits.1,
)
waits_answered first Number place aside books copy answer after since order sents wanted counts answered waits =
    says_served first (least_next first place) after copy answer since (says_later first (least_next first place) books after since
    (λ n le. next_stays first books after n (answers_grow first books copy answer after answered) le) waits)
waits_answered first waiting place aside books copy answer after since order sents wanted counts answered waits = elim waits [ ]

tells_said : (first : ℕ) (books : List Entry) (question : Option Sent) (answer : Answer) (since : List Reply)
    → AllByRecursion (TellsOf first books question) since
    → AllByRecursion (TellsOf first books question) (record { to = None; answer = answer } ∷ since)
tells_said first books question answer since tells = ((λ sent e to. absurd (cc)), tells)

waits_told : (first : ℕ) (waiting : Waiting) (place : Place) (aside : List ℕ) (books : List Entry)
    (code expected : ℕ) (since : List Reply) → least_next first place ≤ next_number first books
    → (code ≡ 11 → expected ≡ next_number first books) → WaitsAt first waiting place aside books since
    → WaitsAt first waiting place aside books (record { to = None; answer = refuses code expected } ∷ since)
waits_told first Nothing place aside books code expected since least said waits = tt
waits_told first Once (UnderWay sent) aside books code expected since least said waits =
    tells_said first books (Some sent) (refuses code expected) since waits
waits_told first Again (UnderWay sent) aside books code expected since least said waits =
    tells_said first books (Some sent) (refuses code expected) since waits
waits_told first (Kept untried again) (UnderWay sent) aside books code expected since least said waits = (
  waits.0,
  tells_said first books (probed sent.number (untried_request aside untried)) (refuses code expected) since
      waits.1,
)
waits_told first Number place aside books code expected since least said waits = (
  (λ to e. let s = said e in (omega arith, omega arith)),
  waits,
)
waits_told first waiting place aside books code expected since least said waits = elim waits [ ]

-- it starts
starts : (first : ℕ) (place : Place) (aside : List ℕ) (last : Option Answered) (stop : Option Stop)
    (waiting : Waiting) (w : World) → CountsIn first (of_parts place aside last stop waiting).file w
    → Lasting first (of_parts place aside last stop waiting) w (start_step (of_parts place aside last stop waiting))
starts first place aside last (Some stop) waiting w counts = record { lasts = (counts, counts); waits = tt }
starts first Unknown aside last None waiting w counts = record { lasts = (counts, counts); waits = tt }
starts first (Free number) aside last None waiting w counts = record { lasts = counts; waits = tt }
starts first (UnderWay sent) aside last None waiting w counts = record {
  lasts = (counts, (counts, counted_sent sent.request (inl refl) counts));
  waits = tt;
}

-- a request is wanted
wants : (first : ℕ) (place : Place) (aside : List ℕ) (last : Option Answered) (stop : Option Stop)
    (waiting : Waiting) (w : World) (request : ℕ) → CountsIn first (of_parts place aside last stop waiting).file w
    → AwaitsIn first (of_parts place aside last stop waiting) w
    → Lasting first (of_parts place aside last stop waiting) (noted (Want request) w)
    (request_step (of_parts place aside last stop waiting) request)
wants first place aside last (Some stop) waiting w request counts waits =
    shows (Stopped stop) (counts_noted first place aside w.sent w.books w.wanted request counts) waits
wants first (Free number) aside last None Nothing w request counts waits =
    let now = counted_wanted first number aside w.sent w.books w.wanted request counts in
    record {
      lasts = (
        counts_noted first (Free number) aside w.sent w.books w.wanted request counts,
        (now, (now, counted_sent request (inl refl) now)),
      );
      waits = tt;
    }
wants first place aside last None waiting w request counts waits =
    shows Busy (counts_noted first place aside w.sent w.books w.wanted request counts) waits

-- none of those that are pending next was done with this number
undone_none : (books : List Entry) (number x : ℕ) → IsAmong x [] → HasEntry books number x → ⊥
undone_none books number x among has = elim among [ ]

-- the request under way is done
completes : (first : ℕ) (sent : Sent) (aside : List ℕ) (last : Option Answered) (stop : Option Stop)
    (waiting : Waiting) (w : World) (reply : ℕ)
    → CountsIn first (of_parts (UnderWay sent) aside last stop waiting).file w
    → (sent.number < next_number first w.books) × (nat_le sent.number 9007199254740991 ≡ true)
    → Lasting first (of_parts (UnderWay sent) aside last stop waiting) w
    (completion (of_parts (UnderWay sent) aside last stop waiting) sent reply)
completes first sent aside last stop waiting w reply counts tells =
    let now = counted_after [] tells.1 tells.0 (λ x among. elim among [ ]) (undone_none w.books sent.number) counts in
    record { lasts = (counts, (counts, (now, now))); waits = tt }

-- a late copy had been accepted: what is under way wasn't done with this number
finds : (first : ℕ) (sent : Sent) (aside : List ℕ) (last : Option Answered) (stop : Option Stop)
    (waiting : Waiting) (w : World) (reply request : ℕ) → IsInOrder first w.books
    → CountsIn first (of_parts (UnderWay sent) aside last stop waiting).file w
    → (sent.number < next_number first w.books) × (nat_le sent.number 9007199254740991 ≡ true)
    → IsOthers w.books sent
    → Lasting first (of_parts (UnderWay sent) aside last stop waiting) w
    (late_copy (of_parts (UnderWay sent) aside last stop waiting) sent
    (record { number = number_after sent.number; request = sent.request }) request reply)
finds first sent aside last stop waiting w reply request order counts tells others =
    let now = counted_after (sent.request ∷ []) tells.1 tells.0 pending undone counts in
    record {
      lasts = (counts, (counts, (counts, (counts, (now, (now, (now, counted_sent sent.request (inl refl) now)))))));
      waits = tt;
    } where
      pending : (x : ℕ) → IsAmong x (sent.request ∷ []) → IsAmong x (sent.request ∷ aside)
      pending x (inl e) = inl e
      pending x (inr among) = elim among [ ]

      undone : (x : ℕ) → IsAmong x (sent.request ∷ []) → HasEntry w.books sent.number x → ⊥
      undone x (inl e) has = others.2 (one_entry first w.books sent.number others.0 x order others.1 has ∙ e)
      undone x (inr among) has = elim among [ ]

told_of : (first : ℕ) (books : List Entry) (question : Option Sent) (sent : Sent) (answer : Answer)
    (since : List Reply) → question ≡ Some sent → AllByRecursion (TellsOf first books question) since
    → IsAmong (record { to = question; answer = answer }) since → Tells first books sent answer
told_of first books question sent answer since is tells among =
    all_at (TellsOf first books question) (record { to = question; answer = answer }) since tells among sent is is

probe_replies : (first : ℕ) (sent : Sent) (aside : List ℕ) (last : Option Answered) (stop : Option Stop)
    (untried : ℕ) (again : Bool) (w : World) (reply : ℕ) (found : Option ℕ) → IsInOrder first w.books
    → CountsIn first (of_parts (UnderWay sent) aside last stop (Kept untried again)).file w
    → AwaitsIn first (of_parts (UnderWay sent) aside last stop (Kept untried again)) w
    → untried_request aside untried ≡ found
    → IsAmong (record { to = probed sent.number (untried_request aside untried); answer = accepts reply }) w.since
    → Lasting first (of_parts (UnderWay sent) aside last stop (Kept untried again)) w
    (probe_reply (of_parts (UnderWay sent) aside last stop (Kept untried again)) sent reply found)
probe_replies first sent aside last stop untried again w reply None order counts waits e among = quiet counts waits
probe_replies first sent aside last stop untried again w reply (Some request) order counts waits e among =
    let copy : Sent = record { number = sent.number; request = request } in
    finds first sent aside last stop (Kept untried again) w reply request order counts
    (told_of first w.books (probed sent.number (untried_request aside untried)) copy (accepts reply) w.since
    (ap (probed sent.number) e) waits.1 among) waits.0

silences : (first : ℕ) (place : Place) (aside : List ℕ) (last : Option Answered) (stop : Option Stop)
    (waiting : Waiting) (w : World) → CountsIn first (of_parts place aside last stop waiting).file w
    → AwaitsIn first (of_parts place aside last stop waiting) w
    → Lasting first (of_parts place aside last stop waiting) w (silence_step (of_parts place aside last stop waiting))
silences first place aside last stop Nothing w counts waits = quiet counts waits
silences first (UnderWay sent) aside last stop Once w counts waits = record {
  lasts = (counts, (counts, counted_sent sent.request (inl refl) counts));
  waits = tt;
}
silences first (UnderWay sent) aside last stop Again w counts waits = record {
  lasts = (counts, (counts, counted_sent sent.request (inl refl) counts));
  waits = tt;
}
silences first (UnderWay sent) aside last stop (Kept untried again) w counts waits =
    probes_again (untried_request aside untried) refl where
      probes_again : (found : Option ℕ) → untried_request aside untried ≡ found
          → Lasting first (of_parts (UnderWay sent) aside last stop (Kept untried again)) w
          (probe_silence (of_parts (UnderWay sent) aside last stop (Kept untried again)) sent.number found)
      probes_again None e = quiet counts waits
      probes_again (Some request) e = record {
        lasts = (counts, (counts, counted_sent request (inr (at_index request aside (length aside - untried) e)) counts));
        waits = (waits.0, tt);
      }
silences first place aside last stop Number w counts waits = record { lasts = (counts, (counts, counts)); waits = tt }
silences first place aside last stop waiting w counts waits = elim waits [ ]

replies : (first : ℕ) (place : Place) (aside : List ℕ) (last : Option Answered) (stop : Option Stop)
    (waiting : Waiting) (w : World) (reply : ℕ) → IsInOrder first w.books
    → CountsIn first (of_parts place aside last stop waiting).file w
    → AwaitsIn first (of_parts place aside last stop waiting) w
    → IsAmong (record { to = last_sent waiting place aside; answer = accepts reply }) w.since
    → Lasting first (of_parts place aside last stop waiting) w (reply_step (of_parts place aside last stop waiting) reply)
replies first place aside last stop Nothing w reply order counts waits among = quiet counts waits
replies first (UnderWay sent) aside last stop Once w reply order counts waits among =
    completes first sent aside last stop Once w reply counts
    (told_of first w.books (Some sent) sent (accepts reply) w.since refl waits among)
replies first (UnderWay sent) aside last stop Again w reply order counts waits among =
    completes first sent aside last stop Again w reply counts
    (told_of first w.books (Some sent) sent (accepts reply) w.since refl waits among)
replies first (UnderWay sent) aside last stop (Kept untried again) w reply order counts waits among =
    probe_replies first sent aside last stop untried again w reply (untried_request aside untried) order counts waits
    refl among
replies first place aside last stop Number w reply order counts waits among =
    silences first place aside last stop Number w counts waits
replies first place aside last stop waiting w reply order counts waits among = elim waits [ ]

-- one more is kept aside
asides : (first : ℕ) (sent : Sent) (aside : List ℕ) (last : Option Answered) (stop : Option Stop)
    (waiting : Waiting) (w : World) (code : ℕ)
    → CountsIn first (of_parts (UnderWay sent) aside last stop waiting).file w
    → Lasting first (of_parts (UnderWay sent) aside last stop waiting) w
    (aside_step (of_parts (UnderWay sent) aside last stop waiting) sent code)
asides first sent aside last stop waiting w code counts =
    let now = counted_less (aside_with sent.request aside) (λ x among. aside_among sent.request x aside among) counts in
    record { lasts = (counts, (counts, (now, now))); waits = tt }

halts : (first : ℕ) (sent : Sent) (aside : List ℕ) (last : Option Answered) (stop : Option Stop)
    (waiting : Waiting) (w : World) (again : Bool) (code : ℕ) (why : Stop)
    → CountsIn first (of_parts (UnderWay sent) aside last stop waiting).file w
    → Lasting first (of_parts (UnderWay sent) aside last stop waiting) w
    (stop_step (of_parts (UnderWay sent) aside last stop waiting) sent again code why)
halts first sent aside last stop waiting w true code why counts =
    record { lasts = (counts, (counts, counts)); waits = tt }
halts first sent aside last stop waiting w false code why counts =
    let now = counted_less (aside_with sent.request aside) (λ x among. aside_among sent.request x aside among) counts in
    record { lasts = (counts, (counts, (now, now))); waits = tt }

probes_of : (first : ℕ) (sent : Sent) (aside : List ℕ) (last : Option Answered) (stop : Option Stop)
    (waiting : Waiting) (w : World) (again : Bool) (untried : ℕ) (found : Option ℕ)
    → CountsIn first (of_parts (UnderWay sent) aside last stop waiting).file w → IsOthers w.books sent
    → untried_request aside untried ≡ found
    → Lasting first (of_parts (UnderWay sent) aside last stop waiting) w
    (probe_of (of_parts (UnderWay sent) aside last stop waiting) sent again untried found)
probes_of first sent aside last stop waiting w again untried None counts others e =
    halts first sent aside last stop waiting w again 12 (record { code = 12; expected = 0 }) counts
probes_of first sent aside last stop waiting w again untried (Some request) counts others e = record {
  lasts = (counts, counted_sent request (inr (at_index request aside (length aside - untried) e)) counts);
  waits = (others, tt);
}

probes : (first : ℕ) (sent : Sent) (aside : List ℕ) (last : Option Answered) (stop : Option Stop)
    (waiting : Waiting) (w : World) (again : Bool) (untried : ℕ)
    → CountsIn first (of_parts (UnderWay sent) aside last stop waiting).file w → IsOthers w.books sent
    → Lasting first (of_parts (UnderWay sent) aside last stop waiting) w
    (probe_step (of_parts (UnderWay sent) aside last stop waiting) sent again untried)
probes first sent aside last stop waiting w again untried counts others =
    probes_of first sent aside last stop waiting w again untried (untried_request aside untried) counts others refl

refuses_request : (first : ℕ) (sent : Sent) (aside : List ℕ) (last : Option Answered) (stop : Option Stop)
    (waiting : Waiting) (w : World) (again : Bool) (code expected : ℕ)
    → CountsIn first (of_parts (UnderWay sent) aside last stop waiting).file w
    → AwaitsIn first (of_parts (UnderWay sent) aside last stop waiting) w → (code ≡ 12 → IsOthers w.books sent)
    → Lasting first (of_parts (UnderWay sent) aside last stop waiting) w
    (request_refusal (of_parts (UnderWay sent) aside last stop waiting) sent again
    (record { code = code; expected = expected }))
refuses_request first sent aside last stop waiting w again code expected counts waits tells =
    let s = of_parts (UnderWay sent) aside last stop waiting in
    let refusal : Stop = record { code = code; expected = expected } in
    either (CountsIn first) (AwaitsIn first) s w (code == 11) _ _
    (λ t. halts first sent aside last stop waiting w again 11 refusal counts)
    (λ t11. either (CountsIn first) (AwaitsIn first) s w (code == 12) _ _
    (λ t. probes first sent aside last stop waiting w again (length aside) counts (tells (eqb-true code 12 t)))
    (λ t12. either (CountsIn first) (AwaitsIn first) s w (again && nat_lt code 11) _ _
    (λ t. shows (Unsure code) counts waits)
    (λ t. asides first sent aside last stop waiting w code counts)))

refuses_probe : (first : ℕ) (sent : Sent) (aside : List ℕ) (last : Option Answered) (stop : Option Stop)
    (untried : ℕ) (again : Bool) (w : World) (code expected : ℕ)
    → CountsIn first (of_parts (UnderWay sent) aside last stop (Kept untried again)).file w
    → AwaitsIn first (of_parts (UnderWay sent) aside last stop (Kept untried again)) w
    → Lasting first (of_parts (UnderWay sent) aside last stop (Kept untried again)) w
    (probe_refusal (of_parts (UnderWay sent) aside last stop (Kept untried again)) sent untried again
    (record { code = code; expected = expected }))
refuses_probe first sent aside last stop untried again w code expected counts waits =
    let s = of_parts (UnderWay sent) aside last stop (Kept untried again) in
    let refusal : Stop = record { code = code; expected = expected } in
    either (CountsIn first) (AwaitsIn first) s w (nat_lt code 11) _ _ (λ t. shows (Unsure code) counts waits)
    (λ low. either (CountsIn first) (AwaitsIn first) s w (code == 12) _ _
    (λ t. probes first sent aside last stop (Kept untried again) w again (untried - 1) counts waits.0)
    (λ t. halts first sent aside last stop (Kept untried again) w again 12 refusal counts))

-- it goes on with the number that the server expects
resumes : (first : ℕ) (place : Place) (aside : List ℕ) (last : Option Answered) (stop : Option Stop) (w : World)
    (expected : ℕ) → CountsIn first (of_parts place aside last stop Number).file w
    → (least_next first place ≤ expected) × (expected ≤ next_number first w.books)
    → Lasting first (of_parts place aside last stop Number) w
    (number_at (of_parts place aside last stop Number) place expected)
resumes first Unknown aside last stop w expected counts said = record {
  lasts = (counts, counted_first first expected aside w.sent w.books w.wanted said.0 said.1 counts);
  waits = tt;
}
resumes first (Free number) aside last stop w expected counts said = record {
  lasts = (
    counts,
    (counts, counted_resumed first number expected aside w.sent w.books w.wanted said.0 said.1 counts),
  );
  waits = tt;
}
resumes first (UnderWay sent) aside last stop w expected counts said =
    let now = counted_less (aside_with sent.request aside) (λ x among. aside_among sent.request x aside among) counts in
    record {
      lasts = (
        counts,
        (
          counts,
          counted_resumed first sent.number expected (aside_with sent.request aside) w.sent w.books w.wanted
              said.0 said.1 now,
        ),
      );
      waits = tt;
    }

numbers : (first : ℕ) (place : Place) (aside : List ℕ) (last : Option Answered) (stop : Option Stop) (w : World)
    (code expected : ℕ) → CountsIn first (of_parts place aside last stop Number).file w
    → AwaitsIn first (of_parts place aside last stop Number) w
    → IsAmong (record { to = None; answer = refuses code expected }) w.since
    → Lasting first (of_parts place aside last stop Number) w
    (number_step (of_parts place aside last stop Number) code expected)
numbers first place aside last stop w code expected counts waits among =
    let said : SaysNext first (least_next first place) w.books (refuses code expected) =
    all_at (SaysNextOf first (least_next first place) w.books)
    (record { to = None; answer = refuses code expected }) w.since waits among refl in
    either (CountsIn first) (AwaitsIn first) (of_parts place aside last stop Number) w (code == 11) _ _
    (λ t. resumes first place aside last stop w expected counts (said (eqb-true code 11 t)))
    (λ t. shows (Unsure code) counts waits)

refusals_at : (first : ℕ) (place : Place) (aside : List ℕ) (last : Option Answered) (stop : Option Stop)
    (waiting : Waiting) (w : World) (code expected : ℕ)
    → CountsIn first (of_parts place aside last stop waiting).file w
    → AwaitsIn first (of_parts place aside last stop waiting) w
    → IsAmong (record { to = last_sent waiting place aside; answer = refuses code expected }) w.since
    → Lasting first (of_parts place aside last stop waiting) w
    (refusal_at (of_parts place aside last stop waiting) waiting place
    (record { code = code; expected = expected }))
refusals_at first place aside last stop Nothing w code expected counts waits among = quiet counts waits
refusals_at first (UnderWay sent) aside last stop Once w code expected counts waits among =
    refuses_request first sent aside last stop Once w false code expected counts waits
    (told_of first w.books (Some sent) sent (refuses code expected) w.since refl waits among)
refusals_at first (UnderWay sent) aside last stop Again w code expected counts waits among =
    refuses_request first sent aside last stop Again w true code expected counts waits
    (told_of first w.books (Some sent) sent (refuses code expected) w.since refl waits among)
refusals_at first (UnderWay sent) aside last stop (Kept untried again) w code expected counts waits among =
    refuses_probe first sent aside last stop untried again w code expected counts waits
refusals_at first place aside last stop Number w code expected counts waits among =
    numbers first place aside last stop w code expected counts waits among
refusals_at first place aside last stop waiting w code expected counts waits among = elim waits [ ]

patience : (first : ℕ) (place : Place) (aside : List ℕ) (last : Option Answered) (stop : Option Stop)
    (waiting : Waiting) (w : World) → CountsIn first (of_parts place aside last stop waiting).file w
    → AwaitsIn first (of_parts place aside last stop waiting) w
    → Lasting first (of_parts place aside last stop waiting) w (patience_step (of_parts place aside last stop waiting))
patience first place aside last stop Nothing w counts waits = quiet counts waits
patience first place aside last stop waiting w counts waits = shows Waits counts waits

events : (first : ℕ) (place : Place) (aside : List ℕ) (last : Option Answered) (stop : Option Stop)
    (waiting : Waiting) (w : World) (event : Event) → IsInOrder first w.books
    → CountsIn first (of_parts place aside last stop waiting).file w
    → AwaitsIn first (of_parts place aside last stop waiting) w
    → MayBefall (record w { station = of_parts place aside last stop waiting }) event
    → Lasting first (of_parts place aside last stop waiting) (noted event w)
    (step_of (of_parts place aside last stop waiting) event)
events first place aside last stop waiting w Start order counts waits heard =
    starts first place aside last stop waiting w counts
events first place aside last stop waiting w (Want request) order counts waits heard =
    wants first place aside last stop waiting w request counts waits
events first place aside last stop waiting w (Accept reply) order counts waits heard =
    replies first place aside last stop waiting w reply order counts waits heard
events first place aside last stop waiting w (Refuse code expected) order counts waits heard =
    either (CountsIn first) (AwaitsIn first) (of_parts place aside last stop waiting) w (code == 50) _ _
    (λ t. silences first place aside last stop waiting w counts waits)
    (λ t. refusals_at first place aside last stop waiting w code expected counts waits heard)
events first place aside last stop waiting w Miss order counts waits heard =
    silences first place aside last stop waiting w counts waits
events first place aside last stop waiting w GiveUp order counts waits heard =
    patience first place aside last stop waiting w counts waits
events first place aside last stop waiting w Look order counts waits heard =
    record { lasts = (counts, counts); waits = tt }

-- what holds between two moves
record IsCounting (first : ℕ) (w : World) : Type 0 where
  order : IsInOrder first w.books
  counts : CountsIn first w.station.file w
  waits : AwaitsIn first w.station w

lasting_of : (first : ℕ) (w : World) (event : Event) → IsCounting first w → MayBefall w event
    → Lasting first w.station (noted event w) (step_of w.station event)
lasting_of first w event is heard = events first w.station.file.place w.station.file.aside w.station.file.last
    w.station.file.stop w.station.waiting w event is.order is.counts is.waits heard

move_counts : (first : ℕ) (w : World) (move : Move) → IsCounting first w → MayHappen first w move
    → IsCounting first (after_move move w)
move_counts first w (befalls event) is may =
    let step = step_of w.station event in
    let lasting = lasting_of first w event is may in
    record {
      order = rw (same_books step.acts (noted event w)) is.order;
      counts = step_holds (CountsIn first) (AwaitsIn first) w.station (noted event w) step
          (step_safe w.station event) lasting;
      waits = lasting.waits;
    }
move_counts first w (stops event count) is may =
    let step = step_of w.station event in
    let lasting = lasting_of first w event is may in
    record {
      order = rw (same_books (take count step.acts) (noted event w)) is.order;
      counts = cut_holds (CountsIn first) w.station.file step.left.file step.acts (noted event w) count lasting.lasts;
      waits = tt;
    }
move_counts first w (serves sent answer books) is may = record {
  order = in_order first w.books sent answer books may.1 is.order;
  counts = counts_served first w.station.file.place w.station.file.aside w.sent w.books w.wanted sent answer books
      is.counts may.0 may.1;
  waits = waits_answered first w.station.waiting w.station.file.place w.station.file.aside w.books sent answer books
      w.since (in_order first w.books sent answer books may.1 is.order) w.sent w.wanted is.counts may.1 is.waits;
}
move_counts first w (says code expected) is may = record {
  order = is.order;
  counts = is.counts;
  waits = waits_told first w.station.waiting w.station.file.place w.station.file.aside w.books code expected w.since
      (counts_next first w.station.file.place w.station.file.aside w.sent w.books w.wanted is.order is.counts) may is.waits;
}
move_counts first w (takes entry) is may = record {
  order = order_grows first w.books entry may is.order;
  counts = counts_taken first w.station.file.place w.station.file.aside w.sent w.books w.wanted entry may is.counts;
  waits = waits_grow first w.station.waiting w.station.file.place w.station.file.aside w.books (entry ∷ w.books)
      w.since (inr (entry, may.next, refl)) is.waits;
}

run_counts : (first : ℕ) (w : World) (moves : List Move) → IsCounting first w → IsRun first w moves
    → IsCounting first (after_moves moves w)
run_counts first w [] is run = is
run_counts first w (move ∷ moves) is run =
    run_counts first (after_move move w) moves (move_counts first w move is run.0) run.1

once_of : (first : ℕ) (w : World) (place : Place)
    → CountsAt first place w.station.file.aside w.sent w.books w.wanted → IsDoneOnce w
once_of first w Unknown is = record { once = λ request. rw is.none_own (omega arith) }
once_of first w (Free number) is =
    record { once = counted_once first number w.station.file.aside w.sent w.books w.wanted is }
once_of first w (UnderWay sent) is =
    record { once = counted_once first sent.number (sent.request ∷ w.station.file.aside) w.sent w.books w.wanted is }

-- the law
pub run_once : (first : ℕ) (moves : List Move) → IsRun first beginning moves
    → IsDoneOnce (after_moves moves beginning)
run_once first moves run =
    let w = after_moves moves beginning in
    let is = run_counts first beginning moves (record {
      order = tt;
      counts = record { none_aside = refl; none_sent = refl; none_own = refl };
      waits = tt;
    }) run in
    once_of first w w.station.file.place is.counts

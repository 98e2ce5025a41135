-- Whatever befalls the station, what holds lasts.
use Rattle.std.proofs.Common.{arith, ◌≡◌, ◌∙◌, ℕ, ◌-◌, Bool, List, [], ◌∷◌, length}
use Rattle.std.proofs.Common.{Option, None, Some, refl, sym, ap, subst, inl, inr}
use Rattle.std.specs.List.{AllByRecursion}
use Rattle.seat_core.specs.declared.act.Trouble.TheVariants.{Busy}
use Rattle.seat_core.specs.declared.request.Answered.{Answered}
use Rattle.seat_core.specs.declared.request.Sent.{Sent}
use Rattle.seat_core.specs.declared.station.Place.{Place}
use Rattle.seat_core.specs.declared.station.Place.TheVariants.{Unknown, Free, UnderWay}
use Rattle.seat_core.specs.declared.station.SeatFile.{SeatFile}
use Rattle.seat_core.specs.declared.station.Station.{Station}
use Rattle.seat_core.specs.declared.station.Waiting.{Waiting}
use Rattle.seat_core.specs.declared.station.Waiting.TheVariants.{Nothing, Once, Again, Kept, Number}
use Rattle.seat_core.specs.Steps.{Step, number_after}
use Rattle.seat_core.specs.Starts.{request_step, start_step}
use Rattle.seat_core.specs.Replies.{completion, late_copy, probe_reply, probe_silence, reply_step, silence_step, untried_request}
use Rattle.seat_laws.specs.Served.{Answer, Entry, IsInOrder, accepts, entry_of}
use Rattle.seat_laws.specs.Runs.{IsAmong, Reply, World, last_sent, probed}
use Rattle.seat_laws.specs.Concludes.{AreToldOf, done_in, line_of_request, with_reply}
use Rattle.seat_laws.proofs.Among.{all_at, at_index}
use Rattle.seat_laws.proofs.Told.{before_number, before_other, before_place, told_newest, told_next}
use Rattle.seat_laws.proofs.Standing.{after_number, more_pending, now_ahead, now_logged, one_sent, still_standing, with_own}
use Rattle.seat_laws.proofs.Serving.{Holds, HoldsIn, IsAwaited, IsPlaced, IsProbing, Means, MeansOf, WaitsIn}
use Rattle.seat_laws.proofs.Acting.{Keeps, quiet, shows}

-- what holds in a step, and behind it
abbrev pub After : ℕ → Station → World → Step → Type 0
After first s w step = Keeps (HoldsIn first) (WaitsIn first) s w step

-- a station that hasn't stopped
abbrev pub at : Place → List ℕ → Option Answered → Waiting → Station
at place aside last waiting = record {
  file = record { place = place; aside = aside; last = last; stop = None };
  waiting = waiting;
}

-- the same of another log, and of more that was sent
pub placed_so : {first : ℕ} {f : SeatFile} {done : List Entry} {sents : List Sent} {books : List Entry}
    {told : List Answered} → (now : List Entry) (more : List Sent)
    → IsPlaced first f.place f.aside now more books → Holds first f done sents books told
    → Holds first f now more books told
placed_so now more placed holds = record { stop = holds.stop; placed = placed; told_done = holds.told_done }

-- the same of another place
pub at_place : {first : ℕ} {f : SeatFile} {done : List Entry} {sents : List Sent} {books : List Entry}
    {told : List Answered} → (g : SeatFile) (now : List Entry) (more : List Sent) → g.stop ≡ None
    → IsPlaced first g.place g.aside now more books
    → (AreToldOf (before_place f.place books) told → AreToldOf (before_place g.place books) told)
    → Holds first f done sents books told → Holds first g now more books told
at_place g now more stop placed same holds =
    record { stop = stop; placed = placed; told_done = same holds.told_done }

awaited_anew : {sent : Sent} {line : Option Sent} {books : List Entry} {since : List Reply}
    → IsAwaited sent line books since → IsAwaited sent line books []
awaited_anew awaited = record { last_line = awaited.last_line; heard = tt }

probing_anew : {sent : Sent} {aside : List ℕ} {untried : ℕ} {line : Option Sent} {books : List Entry}
    {since : List Reply} → IsProbing sent aside untried line books since
    → IsProbing sent aside untried line books []
probing_anew probing = record {
  last_line = probing.last_line;
  newest = probing.newest;
  older = probing.older;
  are = probing.are;
  is = probing.is;
  left = probing.left;
  some_left = probing.some_left;
  left_untried = probing.left_untried;
  untried_aside = probing.untried_aside;
  found = probing.found;
  heard = tt;
  unjudged = tt;
}

-- it starts
pub starts : (first : ℕ) (place : Place) (aside : List ℕ) (last : Option Answered) (waiting : Waiting) (w : World)
    → HoldsIn first (at place aside last waiting).file w
    → After first (at place aside last waiting) w (start_step (at place aside last waiting))
starts first Unknown aside last waiting w holds = record { lasts = (holds, holds); waits = tt }
starts first (Free number) aside last waiting w holds = record { lasts = holds; waits = tt }
starts first (UnderWay sent) aside last waiting w holds = record {
  lasts = (
    holds,
    (
      holds,
      placed_so (done_in w.log) (sent ∷ w.sent) (one_sent sent.request (inl refl) holds.placed) holds,
    ),
  );
  waits = record { last_line = refl; heard = tt };
}

-- a request is wanted
pub wants : (first : ℕ) (place : Place) (aside : List ℕ) (last : Option Answered) (waiting : Waiting) (w : World)
    (request : ℕ) → HoldsIn first (at place aside last waiting).file w
    → WaitsIn first (at place aside last waiting) w
    → After first (at place aside last waiting) w (request_step (at place aside last waiting) request)
wants first (Free number) aside last Nothing w request holds waits =
    let sent : Sent = record { number = number; request = request } in
    let h = at_place (at (UnderWay sent) aside last Once).file (done_in w.log) w.sent refl
    (more_pending (request ∷ aside) (λ x among. inr among) holds.placed) (λ told. told) holds in
    record {
      lasts = (
        holds,
        (
          h,
          (
            h,
            placed_so (done_in w.log) (sent ∷ w.sent) (one_sent request (inl refl) h.placed) h,
          ),
        ),
      );
      waits = record { last_line = refl; heard = tt };
    }
wants first place aside last waiting w request holds waits = shows Busy holds waits

-- the reply is told, behind the file's next number
before_next : (first : ℕ) (sent : Sent) (reply : ℕ) (older : List Entry) (w : World) → IsInOrder first w.books
    → w.books ≡ entry_of sent reply ∷ older → AreToldOf (before_number sent.number w.books) w.told
    → AreToldOf (before_number (number_after sent.number) w.books)
    (record { request = sent.request; reply = reply } ∷ w.told)
before_next first sent reply older w order are told =
    let after = after_number first w.books (entry_of sent reply) older order are in
    let all = told_newest sent.number (entry_of sent reply) older w.books
    (record { request = sent.request; reply = reply }) w.told are refl (refl, refl) told in
    let next : before_number (number_after sent.number) w.books ≡ w.books =
    ap (before_number (number_after sent.number)) are
    ∙ (before_other (number_after sent.number) (entry_of sent reply) older (λ e. omega arith) ∙ sym are) in
    subst (λ b. AreToldOf b (record { request = sent.request; reply = reply } ∷ w.told)) (sym next) all

-- the request under way is done
completes : (first : ℕ) (sent : Sent) (aside : List ℕ) (last : Option Answered) (waiting : Waiting) (w : World)
    (reply : ℕ) (older : List Entry) → IsInOrder first w.books
    → HoldsIn first (at (UnderWay sent) aside last waiting).file w → line_of_request w.log ≡ Some sent
    → w.books ≡ entry_of sent reply ∷ older
    → After first (at (UnderWay sent) aside last waiting) w
    (completion (at (UnderWay sent) aside last waiting) sent reply)
completes first sent aside last waiting w reply older order holds line are =
    let now = with_reply sent.number (line_of_request w.log) reply (done_in w.log) in
    let logged : w.books ≡ now =
    now_logged first sent.number (sent.request ∷ aside) (done_in w.log) w.sent w.books sent reply older order
    holds.placed are refl ∙ (sym (with_own sent.number sent reply (done_in w.log) refl)
    ∙ sym (ap (λ l. with_reply sent.number l reply (done_in w.log)) line)) in
    let done = placed_so now w.sent
    (still_standing (entry_of sent reply) older are refl (inl refl) now logged holds.placed) holds in
    let left : SeatFile = (completion (at (UnderWay sent) aside last waiting) sent reply).left.file in
    let after = after_number first w.books (entry_of sent reply) older order are in
    let ahead = at_place left now w.sent refl
    (now_ahead [] (entry_of sent reply) older order are refl now logged holds.placed)
    (told_next sent.number (number_after sent.number) (entry_of sent reply) older w.books w.told are refl after) holds in
    record {
      lasts = (
        holds,
        (
          done,
          (
            ahead,
            record {
              stop = refl;
              placed = ahead.placed;
              told_done = before_next first sent reply older w order are holds.told_done;
            },
          ),
        ),
      );
      waits = tt;
    }

-- a late copy had been accepted
finds : (first : ℕ) (sent : Sent) (aside : List ℕ) (last : Option Answered) (waiting : Waiting) (w : World)
    (reply request : ℕ) (older : List Entry) → IsInOrder first w.books
    → HoldsIn first (at (UnderWay sent) aside last waiting).file w → IsAmong request aside
    → w.books ≡ entry_of (record { number = sent.number; request = request }) reply ∷ older
    → After first (at (UnderWay sent) aside last waiting) w
    (late_copy (at (UnderWay sent) aside last waiting) sent
    (record { number = number_after sent.number; request = sent.request }) request reply)
finds first sent aside last waiting w reply request older order holds among are =
    let copy : Sent = record { number = sent.number; request = request } in
    let next : Sent = record { number = number_after sent.number; request = sent.request } in
    let now = with_reply sent.number (Some copy) reply (done_in w.log) in
    let logged : w.books ≡ now =
    now_logged first sent.number (sent.request ∷ aside) (done_in w.log) w.sent w.books copy reply older order
    holds.placed are refl ∙ sym (with_own sent.number copy reply (done_in w.log) refl) in
    let done = placed_so now w.sent
    (still_standing (entry_of copy reply) older are refl (inr among) now logged holds.placed) holds in
    let left : SeatFile =
    (late_copy (at (UnderWay sent) aside last waiting) sent next request reply).left.file in
    let after = after_number first w.books (entry_of copy reply) older order are in
    let ahead = at_place left now w.sent refl
    (now_ahead (sent.request ∷ []) (entry_of copy reply) older order are refl now logged holds.placed)
    (told_next sent.number (number_after sent.number) (entry_of copy reply) older w.books w.told are refl after) holds in
    record {
      lasts = (
        holds,
        (
          holds,
          (
            holds,
            (
              done,
              (
                ahead,
                (
                  ahead,
                  (
                    ahead,
                    placed_so now (next ∷ w.sent) (one_sent sent.request (inl refl) ahead.placed) ahead,
                  ),
                ),
              ),
            ),
          ),
        ),
      );
      waits = record { last_line = refl; heard = tt };
    }

-- what is heard, of what was sent last
pub heard_answer : (books : List Entry) (question : Option Sent) (sent : Sent) (answer : Answer) (since : List Reply)
    → question ≡ Some sent → AllByRecursion (MeansOf books question) since
    → IsAmong (record { to = question; answer = answer }) since → Means books sent answer
heard_answer books question sent answer since is heard among =
    all_at (MeansOf books question) (record { to = question; answer = answer }) since heard among sent is is

-- a reply to one that was kept aside
probe_replies : (first : ℕ) (sent : Sent) (aside : List ℕ) (last : Option Answered) (untried : ℕ) (again : Bool)
    (w : World) (reply : ℕ) (found : Option ℕ) → IsInOrder first w.books
    → HoldsIn first (at (UnderWay sent) aside last (Kept untried again)).file w
    → IsProbing sent aside untried (line_of_request w.log) w.books w.since
    → untried_request aside untried ≡ found
    → IsAmong (record { to = probed sent.number (untried_request aside untried); answer = accepts reply }) w.since
    → After first (at (UnderWay sent) aside last (Kept untried again)) w
    (probe_reply (at (UnderWay sent) aside last (Kept untried again)) sent reply found)
probe_replies first sent aside last untried again w reply None order holds probing e among = quiet holds probing
probe_replies first sent aside last untried again w reply (Some request) order holds probing e among =
    let copy : Sent = record { number = sent.number; request = request } in
    let means = heard_answer w.books (probed sent.number (untried_request aside untried)) copy (accepts reply) w.since
    (ap (probed sent.number) e) probing.heard among in
    finds first sent aside last (Kept untried again) w reply request means.0 order holds
    (at_index request aside (length aside - untried) e) means.1

pub silences : (first : ℕ) (place : Place) (aside : List ℕ) (last : Option Answered) (waiting : Waiting) (w : World)
    → HoldsIn first (at place aside last waiting).file w → WaitsIn first (at place aside last waiting) w
    → After first (at place aside last waiting) w (silence_step (at place aside last waiting))
silences first place aside last Nothing w holds waits = quiet holds waits
silences first (UnderWay sent) aside last Once w holds waits = record {
  lasts = (
    holds,
    (
      holds,
      placed_so (done_in w.log) (sent ∷ w.sent) (one_sent sent.request (inl refl) holds.placed) holds,
    ),
  );
  waits = awaited_anew waits;
}
silences first (UnderWay sent) aside last Again w holds waits = record {
  lasts = (
    holds,
    (
      holds,
      placed_so (done_in w.log) (sent ∷ w.sent) (one_sent sent.request (inl refl) holds.placed) holds,
    ),
  );
  waits = awaited_anew waits;
}
silences first (UnderWay sent) aside last (Kept untried again) w holds waits =
    probes_again (untried_request aside untried) refl where
      probes_again : (found : Option ℕ) → untried_request aside untried ≡ found
          → After first (at (UnderWay sent) aside last (Kept untried again)) w
          (probe_silence (at (UnderWay sent) aside last (Kept untried again)) sent.number found)
      probes_again None e = quiet holds waits
      probes_again (Some request) e = record {
        lasts = (
          holds,
          (
            holds,
            placed_so (done_in w.log)
                (record { number = sent.number; request = request } ∷ w.sent)
                (one_sent request (inr (at_index request aside (length aside - untried) e)) holds.placed) holds,
          ),
        );
        waits = probing_anew waits;
      }
silences first Unknown aside last Number w holds waits = record { lasts = (holds, (holds, holds)); waits = tt }
silences first place aside last waiting w holds waits = elim waits [ ]

pub replies : (first : ℕ) (place : Place) (aside : List ℕ) (last : Option Answered) (waiting : Waiting) (w : World)
    (reply : ℕ) → IsInOrder first w.books → HoldsIn first (at place aside last waiting).file w
    → WaitsIn first (at place aside last waiting) w
    → IsAmong (record { to = last_sent waiting place aside; answer = accepts reply }) w.since
    → After first (at place aside last waiting) w (reply_step (at place aside last waiting) reply)
replies first place aside last Nothing w reply order holds waits among = quiet holds waits
replies first (UnderWay sent) aside last Once w reply order holds waits among =
    let means = heard_answer w.books (Some sent) sent (accepts reply) w.since refl waits.heard among in
    completes first sent aside last Once w reply means.0 order holds waits.last_line means.1
replies first (UnderWay sent) aside last Again w reply order holds waits among =
    let means = heard_answer w.books (Some sent) sent (accepts reply) w.since refl waits.heard among in
    completes first sent aside last Again w reply means.0 order holds waits.last_line means.1
replies first (UnderWay sent) aside last (Kept untried again) w reply order holds waits among =
    probe_replies first sent aside last untried again w reply (untried_request aside untried) order holds waits refl
    among
replies first Unknown aside last Number w reply order holds waits among =
    silences first Unknown aside last Number w holds waits
replies first place aside last waiting w reply order holds waits among = elim waits [ ]

-- Exchanges of a stream, one after another.
use Rattle.std.proofs.Common.{◌≡◌, ◌≢◌, ◌≤◌, ◌∷◌, ◌++◌, ◌||◌}
use Rattle.text_core.proofs.Kit.{ℕ, List, [], length, Bool, true, false, sym, refl, ap, ◌∙◌, subst, append_assoc, arith, length-append, inl, inr, Option, Some}
use Rattle.text_core.proofs.Kit.{None, append-nil, list_any, flat_map-append, list_any-append, or_parts}
use Rattle.httparse.specs.Grammar.{ReadsRequest}
use Rattle.httparse.specs.Spans.{RequestOverflows}
use Rattle.httparse.proofs.GrammarLemmas.{request_unique, ReadsRequest-append}
use Rattle.http_frames.specs.Prelude.{body_size, Request, LacksHead, HasBadHead, HasRequest, IsRefused, HasRefusedHead, head_limit, field_limit, IsUndecided}
use Rattle.http_frames.specs.Prelude.{IsCutOff, headers_of, KeepsBytes}
use Rattle.http_frames.specs.declared.fields.FrameRefusal.{FrameRefusal}
use Rattle.http_frames.proofs.FrameLemmas.{reads_within, bad_overflowing}
use Rattle.http_frames.specs.Prelude.{Sends, Sending, ending_of_sent, StopsReading, StopsWriting, HttpExchange, answered, refused, BeginsWithExchange, is_last}
use Rattle.http_frames.specs.Prelude.{text_of, texts_of, requests_with_answers, Cuts, IsOpen, Ends, ServesExchanges, ServesBytes, IsOneExchange}
use Rattle.http_frames.specs.declared.serving.Served.{Served}
use Rattle.http_frames.specs.declared.send.Sent.{Sent}
use Rattle.http_replies.specs.Prelude.{Answer, reply_text}
use Rattle.text_core.specs.Prelude.{Machine, Runs}
use Rattle.text_core.proofs.MachineLemmas.{runs_both}

-- a request stays one whatever bytes follow
pub request_more : (rest more : List ℕ) (request : Request) (after : List ℕ) → HasRequest rest request after → HasRequest (rest ++ more) request (after ++ more)
request_more rest more request after has =
    let reads = ReadsRequest-append rest request.head (request.body ++ after) more has.0.0 in
    ((subst (λ (s : List ℕ). ReadsRequest (rest ++ more) request.head s) (append_assoc request.body after more) reads, has.0.1), has.1)

refused_head_more : (rest more : List ℕ) (refusal : FrameRefusal) (is_head : Bool) → HasRefusedHead rest refusal is_head
    → HasRefusedHead (rest ++ more) refusal is_head
refused_head_more rest more refusal is_head has =
    (has.0, has.1 ++ more, (ReadsRequest-append rest has.0 has.1 more has.2.0, has.2.1), has.3, has.4)

-- a full front without a head stays one
lacks_more : (rest more : List ℕ) → head_limit ≤ length rest → LacksHead rest → LacksHead (rest ++ more)
lacks_more rest more full none head after has =
    none head _ (reads_within rest more after head has.0 (omega (arith, has.1.1)), has.1)

overflows_more : (rest more : List ℕ) → RequestOverflows field_limit rest → RequestOverflows field_limit (rest ++ more)
overflows_more rest more over further head after reads =
    over (more ++ further) head after (subst (λ (s : List ℕ). ReadsRequest s head after) (append_assoc rest more further) reads)

bad_head_more : (rest more : List ℕ) → HasBadHead rest → HasBadHead (rest ++ more)
bad_head_more rest more (none, inl full) = (lacks_more rest more full none, inl (omega (arith, length-append rest more)))
bad_head_more rest more (none, inr over) = bad_overflowing (rest ++ more) (overflows_more rest more over)

pub refused_more : (rest more : List ℕ) (refusal : FrameRefusal) (is_head : Bool) → IsRefused rest refusal is_head → IsRefused (rest ++ more) refusal is_head
refused_more rest more refusal is_head (inl has) = inl (refused_head_more rest more refusal is_head has)
refused_more rest more refusal is_head (inr bad) = inr (bad.0, bad.1, omega (arith, bad.2, length-append rest more), bad_head_more rest more bad.3)

one : (before text : List ℕ) → before ++ (text ++ []) ≡ before ++ text
one before text = ap (λ s. before ++ s) (append-nil text)

none_more : (before : List ℕ) → before ≡ before ++ []
none_more before = sym (append-nil before)

-- one exchange is cut
one_cut : (rest after : List ℕ) (exchange : HttpExchange) → BeginsWithExchange rest exchange after → Cuts rest (exchange ∷ []) after
one_cut rest after exchange begins = (after, begins, (λ _. refl), refl)

-- writing stopped at one exchange, where a front of its reply was written
one_part : (before written sent unsent : List ℕ) (exchange : HttpExchange) → text_of exchange ≡ sent ++ unsent → written ≡ before ++ sent
    → StopsWriting (exchange ∷ []) before written
one_part before written sent unsent exchange text written_is = record {
  front = [];
  last = exchange;
  exchanges_are = refl;
  sent = sent;
  unsent = unsent;
  text = text;
  written_is = written_is ∙ ap (λ s. s ++ sent) (none_more before);
}

-- one exchange and its reply, or a front of the reply
exchange_served : (rest after left before written : List ℕ) (exchange : HttpExchange) (last : Bool) (sent : Sent) → is_last exchange ≡ last
    → BeginsWithExchange rest exchange after → Sends before written (text_of exchange) sent
    → ServesExchanges (ending_of_sent sent last) (exchange ∷ []) rest after left before written
exchange_served rest after left before written exchange true Sent.All last begins sends =
    (after, one_cut rest after exchange begins, (ap (λ t. t || false) last, sends ∙ sym (one before (text_of exchange))))
exchange_served rest after left before written exchange false Sent.All last begins sends =
    (one_cut rest after exchange begins, ap (λ t. t || false) last, sends ∙ sym (one before (text_of exchange)))
exchange_served rest after left before written exchange last Sent.Fault last_is begins sends =
    (after, one_cut rest after exchange begins, one_part before written sends.0 sends.1 exchange sends.2 sends.3)
exchange_served rest after left before written exchange last Sent.TurnLimit last_is begins sends =
    (after, one_cut rest after exchange begins, inr (one_part before written sends.0 sends.1 exchange sends.2 sends.3))

-- a refusal always ends the stream, so that nothing is said of what follows
refusal_served : (rest next left before written : List ℕ) (refusal : FrameRefusal) (is_head : Bool) (sent : Sent)
    → IsRefused rest refusal is_head → Sends before written (text_of (refused refusal is_head)) sent
    → ServesExchanges (ending_of_sent sent true) (refused refusal is_head ∷ []) rest next left before written
refusal_served rest next left before written refusal is_head Sent.All is_refused sends =
    exchange_served rest rest left before written (refused refusal is_head) true Sent.All refl (is_refused, refl) sends
refusal_served rest next left before written refusal is_head Sent.Fault is_refused sends =
    exchange_served rest rest left before written (refused refusal is_head) true Sent.Fault refl (is_refused, refl) sends
refusal_served rest next left before written refusal is_head Sent.TurnLimit is_refused sends =
    exchange_served rest rest left before written (refused refusal is_head) true Sent.TurnLimit refl (is_refused, refl) sends

-- no exchange is served, and nothing is written
quiet : (front window next : List ℕ) (left_old left_new written : Option (List ℕ)) (ended : Type 0) (result : Option Served)
    → KeepsBytes front left_old window left_new ended
    → ((left after before : List ℕ) → front ++ left ≡ window ++ after → (ended → after ≡ [])
    → ServesExchanges result [] (front ++ left) (next ++ after) after before before)
    → ServesBytes front left_old next left_new written written result []
quiet front window next None left_new written ended result keeps serves = tt
quiet front window next (Some left) None None ended result keeps serves = tt
quiet front window next (Some left) None (Some before) ended result keeps serves = absurd keeps
quiet front window next (Some left) (Some after) None ended result keeps serves = tt
quiet front window next (Some left) (Some after) (Some before) ended result keeps serves = serves left after before keeps.0 keeps.1

-- a reply is written, or a front of it
told : (front window next text : List ℕ) (left_old left_new written_old written_new : Option (List ℕ)) (ended : Type 0) (sent : Sent) (result : Option Served)
    (exchanges : List HttpExchange)
    → KeepsBytes front left_old window left_new ended → Sending written_old written_new text sent
    → ((left after before written : List ℕ) → front ++ left ≡ window ++ after → Sends before written text sent
    → ServesExchanges result exchanges (front ++ left) (next ++ after) after before written)
    → ServesBytes front left_old next left_new written_old written_new result exchanges
told front window next text None left_new written_old written_new ended sent result exchanges keeps sends serves = tt
told front window next text (Some left) left_new None written_new ended sent result exchanges keeps sends serves = tt
told front window next text (Some left) None (Some before) written_new ended sent result exchanges keeps sends serves = absurd keeps
told front window next text (Some left) (Some after) (Some before) None ended sent result exchanges keeps sends serves = absurd sends
told front window next text (Some left) (Some after) (Some before) (Some written) ended sent result exchanges keeps sends serves =
    serves left after before written keeps.0 sends

-- the bytes ended inside a request
pub cycle_cut : (front window next : List ℕ) (left_old left_new written : Option (List ℕ))
    → KeepsBytes front left_old window left_new (Unit {0}) → IsCutOff window
    → ServesBytes front left_old next left_new written written (Some Served.Cut) []
cycle_cut front window next left_old left_new written keeps cut =
    quiet front window next left_old left_new written (Unit {0}) (Some Served.Cut) keeps
    (λ left after before same ended.
    let answered : window ≡ front ++ left = sym (same ∙ ap (λ s. window ++ s) (ended tt) ∙ append-nil window) in
    (front ++ left, refl, (refl, subst IsCutOff answered cut, none_more before)))

-- no exchange was cut, and reading stopped
stops : (front window left after before : List ℕ) → front ++ left ≡ window ++ after → IsUndecided window → StopsReading [] (front ++ left) after before before
stops front window left after before same undecided =
    record { open_exchanges = refl; held = window; rest_is = same; undecided = undecided; written_is = none_more before }

-- the reader failed
pub cycle_fault : (front window next : List ℕ) (left_old left_new written : Option (List ℕ)) → KeepsBytes front left_old window left_new ⊥ → IsUndecided window
    → ServesBytes front left_old next left_new written written (Some Served.ReadFault) []
cycle_fault front window next left_old left_new written keeps undecided =
    quiet front window next left_old left_new written ⊥ (Some Served.ReadFault) keeps
    (λ left after before same ended. (front ++ left, refl, stops front window left after before same undecided))

-- no call was left to read by
pub cycle_limit : (front window next : List ℕ) (left_old left_new written : Option (List ℕ)) → KeepsBytes front left_old window left_new ⊥ → IsUndecided window
    → ServesBytes front left_old next left_new written written (Some Served.TurnLimit) []
cycle_limit front window next left_old left_new written keeps undecided =
    quiet front window next left_old left_new written ⊥ (Some Served.TurnLimit) keeps
    (λ left after before same ended. (front ++ left, refl, inl (stops front window left after before same undecided)))

-- a refusal and its reply, or a front of the reply
pub cycle_refused : (front window next : List ℕ) (left_old left_new written_old written_new : Option (List ℕ)) (refusal : FrameRefusal) (is_head : Bool)
    (sent : Sent)
    → KeepsBytes front left_old window left_new ⊥ → IsRefused window refusal is_head → Sending written_old written_new (text_of (refused refusal is_head)) sent
    → ServesBytes front left_old next left_new written_old written_new (ending_of_sent sent true) (refused refusal is_head ∷ [])
cycle_refused front window next left_old left_new written_old written_new refusal is_head sent keeps is_refused sends =
    told front window next (text_of (refused refusal is_head)) left_old left_new written_old written_new ⊥ sent (ending_of_sent sent true)
    (refused refusal is_head ∷ []) keeps sends
    (λ left after before written same sends.
    refusal_served (front ++ left) (next ++ after) after before written refusal is_head sent
    (subst (λ (s : List ℕ). IsRefused s refusal is_head) (sym same) (refused_more window after refusal is_head is_refused)) sends)

-- a request and its reply, or a front of the reply
pub cycle_answered : (front window next : List ℕ)
    (left_old left_new written_old written_new : Option (List ℕ)) (request : Request)
    (answer : Answer) (last : Bool)
    (sent : Sent)
    → KeepsBytes front left_old window left_new ⊥ → HasRequest window request next → last ≡ is_last (answered request answer)
    → Sending written_old written_new (text_of (answered request answer)) sent
    → ServesBytes front left_old next left_new written_old written_new (ending_of_sent sent last) (answered request answer ∷ [])
cycle_answered front window next left_old left_new written_old written_new request answer last sent keeps has last_is sends =
    told front window next (text_of (answered request answer)) left_old left_new written_old written_new ⊥ sent (ending_of_sent sent last)
    (answered request answer ∷ []) keeps sends
    (λ left after before written same sends.
    exchange_served (front ++ left) (next ++ after) after before written (answered request answer) last sent (sym last_is)
    (subst (λ (s : List ℕ). HasRequest s request (next ++ after)) (sym same) (request_more window after request next has)) sends)

-- whatever became of the reply, one exchange is served
pub is_one_exchange : (sent : Sent) (last : Bool) (exchange : HttpExchange) → IsOneExchange (ending_of_sent sent last) (exchange ∷ [])
is_one_exchange Sent.All true exchange = omega arith
is_one_exchange Sent.All false exchange = refl
is_one_exchange Sent.Fault last exchange = omega arith
is_one_exchange Sent.TurnLimit last exchange = omega arith

list_any_both : (p q : List HttpExchange) (a b : Bool) → list_any is_last p ≡ a → list_any is_last q ≡ b → list_any is_last (p ++ q) ≡ (a || b)
list_any_both p q a b e f = list_any-append is_last p q ∙ (λ i. e i || f i)

texts_both : (p q : List HttpExchange) (before middle written : List ℕ) → middle ≡ before ++ texts_of p → written ≡ middle ++ texts_of q
    → written ≡ before ++ texts_of (p ++ q)
texts_both p q before middle written e f =
    f ∙ ap (λ s. s ++ texts_of q) e ∙ append_assoc before (texts_of p) (texts_of q) ∙ ap (λ s. before ++ s) (sym (flat_map-append text_of p q))

-- some exchanges, and then others
cuts_both : (stream : List ℕ) (exchanges : List HttpExchange) (rest : List ℕ) (others : List HttpExchange) (after : List ℕ)
    → Cuts stream exchanges rest → IsOpen exchanges → Cuts rest others after → Cuts stream (exchanges ++ others) after
cuts_both stream [] rest others after cut open_exchanges more = subst (λ (s : List ℕ). Cuts s others after) cut more
cuts_both stream (p ∷ exchanges) rest others after cut open_exchanges more =
    let closed = or_parts (is_last p) (list_any is_last exchanges) open_exchanges in
    (cut.0, cut.1, (λ yes. let no = closed.0 in absurd cc), cuts_both cut.0 exchanges rest others after cut.3 closed.1 more)

reading_both : (p q : List HttpExchange) (rest left before middle written : List ℕ) → IsOpen p → middle ≡ before ++ texts_of p
    → StopsReading q rest left middle written → StopsReading (p ++ q) rest left before written
reading_both p q rest left before middle written open_exchanges told stop = record {
  open_exchanges = list_any_both p q false false open_exchanges stop.open_exchanges;
  held = stop.held;
  rest_is = stop.rest_is;
  undecided = stop.undecided;
  written_is = texts_both p q before middle written told stop.written_is;
}

writing_both : (p q : List HttpExchange) (before middle written : List ℕ) → middle ≡ before ++ texts_of p → StopsWriting q middle written
    → StopsWriting (p ++ q) before written
writing_both p q before middle written told stop = record {
  front = p ++ stop.front;
  last = stop.last;
  exchanges_are = ap (λ s. p ++ s) stop.exchanges_are ∙ sym (append_assoc p stop.front (stop.last ∷ []));
  sent = stop.sent;
  unsent = stop.unsent;
  text = stop.text;
  written_is = stop.written_is ∙ ap (λ s. s ++ stop.sent) (texts_both p stop.front before middle (middle ++ texts_of stop.front) told refl);
}

ends_both : (served : Served) (p q : List HttpExchange) (rest left before middle written : List ℕ) → IsOpen p → middle ≡ before ++ texts_of p
    → served ≢ Served.NoMemory
    → Ends served q rest left middle written → Ends served (p ++ q) rest left before written
ends_both Served.Ended p q rest left before middle written open_exchanges told some ends =
    (list_any_both p q false false open_exchanges ends.0, ends.1, texts_both p q before middle written told ends.2)
ends_both Served.Closed p q rest left before middle written open_exchanges told some ends =
    (list_any_both p q false true open_exchanges ends.0, texts_both p q before middle written told ends.1)
ends_both Served.Cut p q rest left before middle written open_exchanges told some ends =
    (list_any_both p q false false open_exchanges ends.0, ends.1, texts_both p q before middle written told ends.2)
ends_both Served.ReadFault p q rest left before middle written open_exchanges told some ends =
    reading_both p q rest left before middle written open_exchanges told ends
ends_both Served.WriteFault p q rest left before middle written open_exchanges told some ends = writing_both p q before middle written told ends
ends_both Served.TurnLimit p q rest left before middle written open_exchanges told some (inl ends) =
    inl (reading_both p q rest left before middle written open_exchanges told ends)
ends_both Served.TurnLimit p q rest left before middle written open_exchanges told some (inr ends) = inr (writing_both p q before middle written told ends)
ends_both Served.NoMemory p q rest left before middle written open_exchanges told some ends = absurd (some refl)

-- some exchanges, and then others that are served
takes_both : (result : Option Served) (p q : List HttpExchange) (stream rest next left before middle written : List ℕ) → result ≢ Some Served.NoMemory
    → Cuts stream p rest → IsOpen p → middle ≡ before ++ texts_of p → ServesExchanges result q rest next left middle written
    → ServesExchanges result (p ++ q) stream next left before written
takes_both None p q stream rest next left before middle written some cut open_exchanges told serves = (
  cuts_both stream p rest q next cut open_exchanges serves.0,
  list_any_both p q false false open_exchanges serves.1,
  texts_both p q before middle written told serves.2,
)
takes_both (Some served) p q stream rest next left before middle written some cut open_exchanges told serves = (
  serves.0,
  cuts_both stream p rest q serves.0 cut open_exchanges serves.1,
  ends_both served p q serves.0 left before middle written open_exchanges told (λ none. some (ap Some none)) serves.2,
)

-- exchanges that are served one part after the other, where the reader and the writer tell their bytes
pub cycles_both : (result : Option Served) (p q : List HttpExchange) (front next further : List ℕ)
    (left_old left_mid left_new written_old written_mid written_new : Option (List ℕ)) → result ≢ Some Served.NoMemory
    → ServesBytes front left_old next left_mid written_old written_mid None p → ServesBytes next left_mid further left_new written_mid written_new result q
    → ServesBytes front left_old further left_new written_old written_new result (p ++ q)
cycles_both result p q front next further None lm ln wo wm wn some first second = tt
cycles_both result p q front next further (Some left) lm ln None wm wn some first second = tt
cycles_both result p q front next further (Some left) None ln (Some before) wm wn some first second = absurd first
cycles_both result p q front next further (Some left) (Some mid) ln (Some before) None wn some first second = absurd first
cycles_both result p q front next further (Some left) (Some mid) None (Some before) (Some told) wn some first second = second
cycles_both result p q front next further (Some left) (Some mid) (Some after) (Some before) (Some told) None some first second = second
cycles_both result p q front next further (Some left) (Some mid) (Some after) (Some before) (Some told) (Some written) some first second =
    takes_both result p q (front ++ left) (next ++ mid) (further ++ after) after before told written some first.0 first.1 first.2 second

-- the requests of some exchanges and then others
requests_both : (p q : List HttpExchange) → requests_with_answers (p ++ q) ≡ requests_with_answers p ++ requests_with_answers q
requests_both [] q = refl
requests_both (answered request answer ∷ p) q = ap (λ exchanges. (request, answer) ∷ exchanges) (requests_both p q)
requests_both (refused refusal is_head ∷ p) q = requests_both p q

-- the requests of some exchanges, and then of others
pub runs_on : {S : Type 0} (step : Machine S Request Answer) (old : S) (p : List HttpExchange) (middle : S) (q : List HttpExchange) (new : S)
    → Runs step old (requests_with_answers p) middle → Runs step middle (requests_with_answers q) new → Runs step old (requests_with_answers (p ++ q)) new
runs_on step old p middle q new first second =
    subst (λ exchanges.
    Runs step old exchanges new) (sym (requests_both p q))
    (runs_both step old (requests_with_answers p) middle (requests_with_answers q)
    new first second)

-- equal parts make equal replies
pub reply_same : (a b : Answer) (h i l m : Bool) → a ≡ b → h ≡ i → l ≡ m → reply_text a h l ≡ reply_text b i m
reply_same a b h i l m p q r = λ j. reply_text (p j) (q j) (r j)

-- two texts of one length in front of others
same_front : (p q a b : List ℕ) → length p ≡ length q → p ++ a ≡ q ++ b → (p ≡ q) × (a ≡ b)
same_front [] [] a b e f = (refl, f)
same_front [] (y ∷ q) a b e f = absurd (omega arith)
same_front (x ∷ p) [] a b e f = absurd (omega arith)
same_front (x ∷ p) (y ∷ q) a b e f =
    let head : x ≡ y = cc in
    let tail : p ++ a ≡ q ++ b = cc in
    let same = same_front p q a b (omega arith) tail in
    ((λ i. head i ∷ same.0 i), same.1)

pub one_request : (rest : List ℕ) (request other : Request) (after later : List ℕ) → HasRequest rest request after → HasRequest rest other later
    → (request ≡ other) × (after ≡ later)
one_request rest request other after later has had =
    let heads = request_unique rest request.head other.head (request.body ++ after) (other.body ++ later) has.0.0 had.0.0 in
    let sizes = sym has.1 ∙ ap (λ h. body_size (headers_of h)) heads.0 ∙ had.1 in
    let same : length request.body ≡ length other.body = cc in
    let parts = same_front request.body other.body after later same heads.1 in
    ((λ i. record { head = heads.0 i; body = parts.0 i }), parts.1)

-- A refusal came.
use Rattle.std.proofs.Common.{◌≡◌, ◌≢◌, ◌⊎◌, ◌∙◌, ℕ, suc, ◌-◌, ◌<◌, ◌≤◌, Bool, true, false, List, ◌∷◌}
use Rattle.std.proofs.Common.{length, get_or, Option, None, Some, refl, sym, ap, subst, inl, inr, arith}
use Rattle.std.proofs.lemmas.Bool.{eqb-true, lt-ltb}
use Rattle.std.proofs.lemmas.Bool.Decides.{eqb_tells, leb_tells}
use Rattle.std.proofs.lemmas.Option.{slice_get_within, slice_get-get_or}
use Rattle.std.proofs.Math.Dec.{eqb, leb}
use Rattle.std.specs.Prelude.{◌==◌, ◌&&◌, nat_lt, slice_get}
use Rattle.std.specs.List.{AllByRecursion}
use Rattle.seat_core.specs.declared.act.Trouble.TheVariants.{Unsure}
use Rattle.seat_core.specs.declared.request.Answered.{Answered}
use Rattle.seat_core.specs.declared.request.Sent.{Sent}
use Rattle.seat_core.specs.declared.request.Stop.{Stop}
use Rattle.seat_core.specs.declared.station.Place.{Place}
use Rattle.seat_core.specs.declared.station.Place.TheVariants.{Unknown, UnderWay}
use Rattle.seat_core.specs.declared.station.SeatFile.{SeatFile}
use Rattle.seat_core.specs.declared.station.Waiting.{Waiting}
use Rattle.seat_core.specs.declared.station.Waiting.TheVariants.{Nothing, Once, Again, Kept, Number}
use Rattle.seat_core.specs.Aside.{aside_with}
use Rattle.seat_core.specs.Starts.{number_at, number_step}
use Rattle.seat_core.specs.Replies.{untried_request}
use Rattle.seat_core.specs.Refusals.{aside_step, probe_of, probe_refusal, probe_step, refusal_at, refusal_step, request_refusal}
use Rattle.seat_laws.specs.Served.{Entry, IsOther, next_number, refuses}
use Rattle.seat_laws.specs.Runs.{HasRoom, IsAmong, Reply, World, last_sent, probed}
use Rattle.seat_laws.proofs.Told.{before_number}
use Rattle.seat_laws.specs.Concludes.{AreToldOf, done_in, line_of_request}
use Rattle.seat_laws.proofs.Among.{all_at, at_index, index_of, kept_among}
use Rattle.seat_laws.proofs.Standing.{IsAhead, IsBehind, more_pending, one_sent}
use Rattle.seat_laws.proofs.Serving.{HoldsIn, IsProbing, IsUnjudged, SaysFirst, SaysFirstOf, UnjudgedOf, WaitsIn}
use Rattle.seat_laws.proofs.Acting.{either, quiet, shows}
use Rattle.seat_laws.proofs.Events.{After, at, at_place, heard_answer, placed_so, silences}

-- one more is kept aside
asides : (first : ℕ) (sent : Sent) (aside : List ℕ) (last : Option Answered) (waiting : Waiting) (w : World)
    (code : ℕ) → HoldsIn first (at (UnderWay sent) aside last waiting).file w → HasRoom (UnderWay sent) aside
    → After first (at (UnderWay sent) aside last waiting) w
    (aside_step (at (UnderWay sent) aside last waiting) sent code)
asides first sent aside last waiting w code holds room =
    let left : SeatFile = (aside_step (at (UnderWay sent) aside last waiting) sent code).left.file in
    let h = at_place left (done_in w.log) w.sent refl (more_pending (aside_with sent.request aside)
    (λ x among. kept_among sent.request x aside room among) holds.placed) (λ told. told) holds in
    record { lasts = (holds, (holds, (h, h))); waits = tt }

-- The newest is aside, and one of those that weren't tried yet: one of them is sent.
pub record IsFound (sent : Sent) (aside : List ℕ) (untried : ℕ) (books : List Entry) : Type 0 where
  pub newest : Entry
  pub older : List Entry
  pub are : books ≡ newest ∷ older
  pub is : newest.number ≡ sent.number
  pub left : ℕ
  pub some_left : 0 < left
  pub left_untried : left ≤ untried
  pub untried_aside : untried ≤ length aside
  pub found : slice_get aside (length aside - left) ≡ Some newest.request

probes_of : (first : ℕ) (sent : Sent) (aside : List ℕ) (last : Option Answered) (waiting : Waiting) (w : World)
    (again : Bool) (untried : ℕ) (found : Option ℕ)
    → HoldsIn first (at (UnderWay sent) aside last waiting).file w → line_of_request w.log ≡ Some sent
    → IsFound sent aside untried w.books → untried_request aside untried ≡ found
    → After first (at (UnderWay sent) aside last waiting) w
    (probe_of (at (UnderWay sent) aside last waiting) sent again untried found)
probes_of first sent aside last waiting w again untried None holds line is e =
    let some = is.some_left in
    let more = is.left_untried in
    let few = is.untried_aside in
    let at_it : slice_get aside (length aside - untried) ≡ Some (get_or aside (length aside - untried) 0) =
    slice_get-get_or aside (length aside - untried) 0 (omega arith) in
    absurd (cc)
probes_of first sent aside last waiting w again untried (Some request) holds line is e = record {
  lasts = (
    holds,
    placed_so (done_in w.log) (record { number = sent.number; request = request } ∷ w.sent)
        (one_sent request (inr (at_index request aside (length aside - untried) e)) holds.placed) holds,
  );
  waits = record {
    last_line = line;
    newest = is.newest;
    older = is.older;
    are = is.are;
    is = is.is;
    left = is.left;
    some_left = is.some_left;
    left_untried = is.left_untried;
    untried_aside = is.untried_aside;
    found = is.found;
    heard = tt;
    unjudged = tt;
  };
}

probes : (first : ℕ) (sent : Sent) (aside : List ℕ) (last : Option Answered) (waiting : Waiting) (w : World)
    (again : Bool) (untried : ℕ) → HoldsIn first (at (UnderWay sent) aside last waiting).file w
    → line_of_request w.log ≡ Some sent → IsFound sent aside untried w.books
    → After first (at (UnderWay sent) aside last waiting) w
    (probe_step (at (UnderWay sent) aside last waiting) sent again untried)
probes first sent aside last waiting w again untried holds line is =
    probes_of first sent aside last waiting w again untried (untried_request aside untried) holds line is refl

-- where another request has the number, it is one of those aside
other_aside : (first : ℕ) (sent : Sent) (aside : List ℕ) (done books : List Entry) → IsOther books sent
    → IsAhead first sent.number done books ⊎ IsBehind sent.number (sent.request ∷ aside) done books
    → IsFound sent aside (length aside) books
other_aside first sent aside done books other (inl ahead) =
    let e = ap (next_number first) other.are in
    let n = other.number in
    let m = ahead.next in absurd (omega arith)
other_aside first sent aside done books other (inr behind) = among_aside behind.among where
  same : behind.newest ≡ other.newest
  same = let a = behind.are in let b = other.are in cc

  among_aside : IsAmong behind.newest.request (sent.request ∷ aside) → IsFound sent aside (length aside) books
  among_aside (inl e) = absurd (other.other (ap (λ (x : Entry). x.request) (sym same) ∙ e))
  among_aside (inr among) =
      let i = index_of behind.newest.request aside among in
      let within : i.0 < length aside = slice_get_within aside i.0 behind.newest.request i.1 in
      let back : length aside - (length aside - i.0) ≡ i.0 = omega arith in
      record {
        newest = behind.newest;
        older = behind.older;
        are = behind.are;
        is = behind.is;
        left = length aside - i.0;
        some_left = omega arith;
        left_untried = omega arith;
        untried_aside = omega arith;
        found = rw back i.1;
      }

-- the request under way was refused
refuses_request : (first : ℕ) (sent : Sent) (aside : List ℕ) (last : Option Answered) (waiting : Waiting)
    (w : World) (again : Bool) (code expected : ℕ)
    → HoldsIn first (at (UnderWay sent) aside last waiting).file w
    → WaitsIn first (at (UnderWay sent) aside last waiting) w → HasRoom (UnderWay sent) aside
    → line_of_request w.log ≡ Some sent → (code ≡ 11 → ⊥) × (code ≡ 12 → IsOther w.books sent)
    → After first (at (UnderWay sent) aside last waiting) w
    (request_refusal (at (UnderWay sent) aside last waiting) sent again
    (record { code = code; expected = expected }))
refuses_request first sent aside last waiting w again code expected holds waits room line means =
    let s = at (UnderWay sent) aside last waiting in
    let refusal : Stop = record { code = code; expected = expected } in
    either (HoldsIn first) (WaitsIn first) s w (code == 11) _ _ (λ t. absurd (means.0 (eqb-true code 11 t)))
    (λ t11. either (HoldsIn first) (WaitsIn first) s w (code == 12) _ _
    (λ t. probes first sent aside last waiting w again (length aside) holds line
    (other_aside first sent aside (done_in w.log) w.books (means.1 (eqb-true code 12 t)) holds.placed.stands))
    (λ t12. either (HoldsIn first) (WaitsIn first) s w (again && nat_lt code 11) _ _
    (λ t. shows (Unsure code) holds waits)
    (λ t. asides first sent aside last waiting w code holds room)))

-- one that was kept aside was refused as 12: it isn't the one that was accepted
one_less : (sent : Sent) (aside : List ℕ) (untried request : ℕ) (line : Option Sent) (books : List Entry)
    (since : List Reply) → IsProbing sent aside untried line books since
    → untried_request aside untried ≡ Some request
    → IsOther books (record { number = sent.number; request = request })
    → IsFound sent aside (untried - 1) books
one_less sent aside untried request line books since probing e other =
    let few = probing.untried_aside in
    let some = probing.some_left in
    let more = probing.left_untried in
    record {
      newest = probing.newest;
      older = probing.older;
      are = probing.are;
      is = probing.is;
      left = probing.left;
      some_left = probing.some_left;
      left_untried = less (eqb_tells probing.left untried);
      untried_aside = omega arith;
      found = probing.found;
    } where
      same : probing.newest ≡ other.newest
      same = let a = probing.are in let b = other.are in cc

      less : ((eqb probing.left untried ≡ true) × (probing.left ≡ untried))
          ⊎ ((eqb probing.left untried ≡ false) × (probing.left ≢ untried)) → probing.left ≤ untried - 1
      less (inl is) =
          let it : slice_get aside (length aside - untried) ≡ Some probing.newest.request =
          subst (λ n. slice_get aside (length aside - n) ≡ Some probing.newest.request) is.1 probing.found in
          let here : probing.newest.request ≡ request = cc in
          absurd (other.other (ap (λ (x : Entry). x.request) (sym same) ∙ here))
      less (inr apart) =
          let some = probing.some_left in
          let more = probing.left_untried in
          let differ = apart.1 in omega arith

above : (code : ℕ) → (nat_lt code 11) ≡ false → (code ≡ 11 → ⊥) → (code == 12) ≡ false → nat_lt 12 code ≡ true
above code low not_11 not_12 = lt-ltb 12 code (over (leb_tells (suc code) 11) (eqb_tells code 12)) where
  over : ((leb (suc code) 11 ≡ true) × (suc code ≤ 11)) ⊎ ((leb (suc code) 11 ≡ false) × (11 < suc code))
      → ((eqb code 12 ≡ true) × (code ≡ 12)) ⊎ ((eqb code 12 ≡ false) × (code ≢ 12)) → 12 < code
  over (inl is) tells = absurd (cc)
  over (inr is) (inl same) = absurd (cc)
  over (inr is) (inr other) =
      let a = is.1 in
      let b = other.1 in
      let c : code ≢ 11 = not_11 in omega arith

refuses_probe : (first : ℕ) (sent : Sent) (aside : List ℕ) (last : Option Answered) (untried : ℕ) (again : Bool)
    (w : World) (code expected : ℕ) (found : Option ℕ)
    → HoldsIn first (at (UnderWay sent) aside last (Kept untried again)).file w
    → IsProbing sent aside untried (line_of_request w.log) w.books w.since
    → untried_request aside untried ≡ found → (code == 50) ≡ false
    → IsAmong (record { to = probed sent.number (untried_request aside untried); answer = refuses code expected })
    w.since
    → After first (at (UnderWay sent) aside last (Kept untried again)) w
    (probe_refusal (at (UnderWay sent) aside last (Kept untried again)) sent untried again
    (record { code = code; expected = expected }))
refuses_probe first sent aside last untried again w code expected None holds probing e kept among =
    let some = probing.some_left in
    let more = probing.left_untried in
    let few = probing.untried_aside in
    let at_it : slice_get aside (length aside - untried) ≡ Some (get_or aside (length aside - untried) 0) =
    slice_get-get_or aside (length aside - untried) 0 (omega arith) in
    absurd (cc)
refuses_probe first sent aside last untried again w code expected (Some request) holds probing e kept among =
    let s = at (UnderWay sent) aside last (Kept untried again) in
    let copy : Sent = record { number = sent.number; request = request } in
    let question = probed sent.number (untried_request aside untried) in
    let is : question ≡ Some copy = ap (probed sent.number) e in
    let means = heard_answer w.books question copy (refuses code expected) w.since is probing.heard among in
    let unjudged : IsUnjudged (refuses code expected) = all_at (UnjudgedOf question)
    (record { to = question; answer = refuses code expected }) w.since probing.unjudged among copy is is in
    either (HoldsIn first) (WaitsIn first) s w (nat_lt code 11) _ _ (λ t. shows (Unsure code) holds probing)
    (λ low. either (HoldsIn first) (WaitsIn first) s w (code == 12) _ _
    (λ t. probes first sent aside last (Kept untried again) w again (untried - 1) holds probing.last_line
    (one_less sent aside untried request (line_of_request w.log) w.books w.since probing e
    (means.1 (eqb-true code 12 t))))
    (λ t12. absurd (unjudged (above code low means.0 t12) kept)))

-- the server said which number comes first
numbers : (first : ℕ) (aside : List ℕ) (last : Option Answered) (w : World) (code expected : ℕ)
    → HoldsIn first (at Unknown aside last Number).file w → WaitsIn first (at Unknown aside last Number) w
    → IsAmong (record { to = None; answer = refuses code expected }) w.since
    → After first (at Unknown aside last Number) w (number_step (at Unknown aside last Number) code expected)
numbers first aside last w code expected holds waits among =
    let s = at Unknown aside last Number in
    let fresh = holds.placed in
    let says : SaysFirst first (refuses code expected) = all_at (SaysFirstOf first)
    (record { to = None; answer = refuses code expected }) w.since waits among refl in
    either (HoldsIn first) (WaitsIn first) s w (code == 11) _ _
    (λ t. record {
      lasts = (
        holds,
        at_place (number_at s Unknown expected).left.file (done_in w.log) w.sent refl (record {
          stands = inl (record {
            next = says (eqb-true code 11 t) ∙ sym (ap (next_number first) fresh.none_accepted);
            logged = fresh.none_accepted ∙ sym fresh.none_done;
          });
          old = subst (AllByRecursion _) (sym fresh.none_sent) tt;
        }) (λ told. subst (λ b. AreToldOf (before_number expected b) w.told) (sym fresh.none_accepted)
            (subst (λ b. AreToldOf b w.told) fresh.none_accepted told)) holds,
      );
      waits = tt;
    })
    (λ t. shows (Unsure code) holds waits)

refusals_at : (first : ℕ) (place : Place) (aside : List ℕ) (last : Option Answered) (waiting : Waiting) (w : World)
    (code expected : ℕ) → HoldsIn first (at place aside last waiting).file w
    → WaitsIn first (at place aside last waiting) w → HasRoom place aside → (code == 50) ≡ false
    → IsAmong (record { to = last_sent waiting place aside; answer = refuses code expected }) w.since
    → After first (at place aside last waiting) w (refusal_at (at place aside last waiting) waiting place
    (record { code = code; expected = expected }))
refusals_at first place aside last Nothing w code expected holds waits room kept among = quiet holds waits
refusals_at first (UnderWay sent) aside last Once w code expected holds waits room kept among =
    refuses_request first sent aside last Once w false code expected holds waits room waits.last_line
    (heard_answer w.books (Some sent) sent (refuses code expected) w.since refl waits.heard among)
refusals_at first (UnderWay sent) aside last Again w code expected holds waits room kept among =
    refuses_request first sent aside last Again w true code expected holds waits room waits.last_line
    (heard_answer w.books (Some sent) sent (refuses code expected) w.since refl waits.heard among)
refusals_at first (UnderWay sent) aside last (Kept untried again) w code expected holds waits room kept among =
    refuses_probe first sent aside last untried again w code expected (untried_request aside untried) holds waits
    refl kept among
refusals_at first Unknown aside last Number w code expected holds waits room kept among =
    numbers first aside last w code expected holds waits among
refusals_at first place aside last waiting w code expected holds waits room kept among = elim waits [ ]

pub refusals : (first : ℕ) (place : Place) (aside : List ℕ) (last : Option Answered) (waiting : Waiting) (w : World)
    (code expected : ℕ) → HoldsIn first (at place aside last waiting).file w
    → WaitsIn first (at place aside last waiting) w → HasRoom place aside
    → IsAmong (record { to = last_sent waiting place aside; answer = refuses code expected }) w.since
    → After first (at place aside last waiting) w (refusal_step (at place aside last waiting) code expected)
refusals first place aside last waiting w code expected holds waits room among =
    either (HoldsIn first) (WaitsIn first) (at place aside last waiting) w (code == 50) _ _
    (λ t. silences first place aside last waiting w holds waits)
    (λ kept. refusals_at first place aside last waiting w code expected holds waits room kept among)

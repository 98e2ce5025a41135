-- The office answers a copy as the number's rule allows, and the seat's row is of the newest.
use Rattle.std.proofs.Common.{◌≡◌, ◌+◌, ◌<◌, ◌≤◌, ◌⊎◌, ◌∷◌}
use Rattle.text_core.proofs.Kit.{◌∙◌, ℕ, inl, inr, Bool, true, false, List, []}
use Rattle.text_core.proofs.Kit.{Option, Some, None, refl, sym, ap, subst, bytes_eq, find, eq-eqb, ne_eqb, text_itself}
use Rattle.text_core.proofs.Kit.{arith}
use Rattle.text_core.proofs.Kit.{option_map, unwrap_or, AllByRecursion, ltb-true}
use Rattle.std.specs.Prelude.{◌==◌, nat_lt, if◌then◌else◌}
use Rattle.std.proofs.lemmas.Bool.{le-leb}
use Rattle.text_core.specs.Prelude.{first_that_holds}
use Rattle.http_replies.specs.Prelude.{Answer as Response}
use Rattle.site_core.specs.Prelude.{Section}
use Rattle.office_tables.specs.declared.rows.SeatState.{SeatState}
use Rattle.office_tables.specs.Prelude.{with_row}
use Rattle.office_commands.specs.declared.command.Command.{Command}
use Rattle.office_commands.specs.declared.command.Command.TheVariants.{Change, Show}
use Rattle.office_commands.specs.declared.command.Change.{Change as Changing}
use Rattle.office_commands.specs.declared.command.Request.{Request}
use Rattle.office_commands.specs.declared.refusal.Refusal.{Refusal}
use Rattle.office_commands.specs.declared.refusal.Refusal.TheVariants.{OtherBody, WrongNumber}
use Rattle.office_commands.specs.Prelude.{acceptance, refusal, refusal_number, unkept}
use Rattle.office_rules.specs.declared.retry.Retry.{Retry}
use Rattle.office_rules.specs.declared.retry.Retry.TheVariants.{Differs, Next, Repeats, Skips}
use Rattle.office_rules.specs.Prelude.{Effect, Refusals, Response as Responding, Sight, decide, effect, kept_of}
use Rattle.office_rules.specs.Prelude.{refusals, respond_by_retry, respond_to, retry_of}
use Rattle.office_laws.specs.Prelude.{SoloState, is_change, last_number_of_seat, seat_named, solo_sight, with_puts}
use Rattle.office_laws.proofs.Lowest.{above, refusals_ascend}
use Rattle.office_laws.proofs.OwnPlaces.{solo_seat_cmp}
use Rattle.office_laws.proofs.OwnRetries.{LeaveSeats, effect_leaves, retry_next, row_found, seats_after}
use Rattle.seat_core.specs.declared.request.Sent.{Sent}
use Rattle.seat_laws.specs.Prelude.{Answer, Answers, Entry, HasNumber, IsRefused}
use Rattle.seat_laws.specs.Prelude.{accepts, next_number, refuses}
use Rattle.seat_runs.specs.Prelude.{IsRowOf, Names, expected_in, with_accepted}
use Rattle.seat_runs.proofs.Retries.{IsDifferent, IsLast, IsSame, IsSkipped, is_different, is_same, is_skipped}

-- what comes next is after the row's number
pub row_next : (v : Names) (first : ℕ) (row : Option SeatState) (books : List Entry) → IsRowOf v first row books
    → next_number first books ≡ last_number_of_seat row + 1
row_next v first row [] is = is
row_next v first row (newest ∷ older) is =
    let e = ap last_number_of_seat is.1 in
    let n = is.2 in omega arith

-- the newest has the row's number
newest_last : (v : Names) (first number : ℕ) (row : Option SeatState) (books : List Entry)
    → IsRowOf v first row books → HasNumber books number → IsLast row number
newest_last v first number row [] is has = let a = has.are in absurd (cc)
newest_last v first number row (newest ∷ older) is has =
    let a = has.are in
    let same : newest ≡ has.newest = cc in
    record { row = is.0; there = is.1; last = is.2 ∙ (ap (λ (e : Entry). e.number) same ∙ has.is) }

-- a copy is answered, with these books then, and this row
pub record Follows (v : Names) (first : ℕ) (sent : Sent) (books : List Entry) (answer : Answer)
    (after : List Entry) (row : Option SeatState) : Type 0 where
  pub answers : Answers first books sent answer after
  pub row_of : IsRowOf v first row after

-- a refusal that isn't 11 or 12, and is one of the next number where it is judged
refused_other : (first : ℕ) (books : List Entry) (sent : Sent) (code expected : ℕ) → (code ≡ 11 → ⊥)
    → (code ≡ 12 → ⊥)
    → (nat_lt 12 code ≡ true → (code == 50) ≡ false → sent.number ≡ next_number first books)
    → IsRefused first books sent code expected books
refused_other first books sent code expected not_11 not_12 judged = record {
  same = refl;
  not_next = λ e _. not_11 e;
  not_newest = λ e _. not_11 e;
  next = λ e. absurd (not_11 e);
  other = λ e. absurd (not_12 e);
  judged = judged;
}

low_unjudged : (code : ℕ) → (code < 11) ⊎ (code ≡ 50) → nat_lt 12 code ≡ true → (code == 50) ≡ false → ⊥
low_unjudged code (inl low) t kept = let a = ltb-true 12 code t in omega arith
low_unjudged code (inr is) t kept = let e : (code == 50) ≡ true = eq-eqb code 50 is in cc

pub low_not : (code n : ℕ) → (code < 11) ⊎ (code ≡ 50) → 11 ≤ n → n < 50 → code ≡ n → ⊥
low_not code n (inl low) more less e = omega arith
low_not code n (inr is) more less e = omega arith

-- no refusal but 11 says a number
pub few_expected : (reason : Refusal) → (refusal_number reason ≡ 11 → ⊥) → expected_in reason ≤ 9007199254740991
few_expected (WrongNumber expected) other = absurd (other refl)
few_expected _ other = omega arith

-- a refusal of what came, or for now
pub came_refused : (v : Names) (first : ℕ) (sent : Sent) (books : List Entry) (row : Option SeatState)
    (code expected : ℕ) → (code < 11) ⊎ (code ≡ 50) → IsRowOf v first row books
    → Follows v first sent books (refuses code expected) books row
came_refused v first sent books row code expected low is = record {
  answers = inr (refused_other first books sent code expected (low_not code 11 low (omega arith) (omega arith))
      (low_not code 12 low (omega arith) (omega arith)) (λ t kept. absurd (low_unjudged code low t kept)));
  row_of = is;
}

module _ (v : Names) (first : ℕ) (sent : Sent) where
  abbrev its : Request
  its = v.request_of sent.request sent.number

  -- with a number that isn't the next one nothing is added
  not_added : (reply : ℕ) (books : List Entry) → (sent.number ≡ next_number first books → ⊥)
      → with_accepted first sent (accepts reply) books ≡ books
  not_added reply books other = let t : (sent.number == next_number first books) ≡ false = ne_eqb _ _ other in rw t refl

  -- the newest of the books has another digest, or the same name
  abbrev pub IsApart : List Entry → Type 0
  IsApart books = (newest : Entry) (older : List Entry) → books ≡ newest ∷ older
      → (v.request_of newest.request newest.number).digest ≡ its.digest → newest.request ≡ sent.request

  repeated_answers : (row : Option SeatState) (body : List ℕ) (books : List Entry) → IsApart books
      → IsRowOf v first row books
      → IsSame row its.number its.digest body → Answers first books sent (accepts (v.name_of body)) books
  repeated_answers row body [] apart is same =
      let n = v.numbered sent.request sent.number in
      let l = same.last in
      let e = ap last_number_of_seat same.there in
      let f : first ≡ last_number_of_seat row + 1 = is in
      inl (record { before = omega arith; unchanged = refl })
  repeated_answers row body (newest ∷ older) apart is same =
      let there = same.there in
      let found = is.1 in
      let one : is.0 ≡ same.row = cc in
      let number : newest.number ≡ sent.number = sym is.2 ∙ (ap (λ (r : SeatState). r.last) one
      ∙ (same.last ∙ v.numbered sent.request sent.number)) in
      let digest : (v.request_of newest.request newest.number).digest ≡ its.digest =
      sym is.3 ∙ (ap (λ (r : SeatState). r.digest) one ∙ sym same.digest_of) in
      inr (inr (record {
        newest = newest;
        older = older;
        are = refl;
        number = number;
        request = apart newest older refl digest;
        reply_of = is.4 ∙ ap v.name_of (ap (λ (r : SeatState). r.reply) one ∙ same.reply);
        same = refl;
      }))

  repeated : (row : Option SeatState) (body : List ℕ) (books : List Entry) → IsApart books → IsRowOf v first row books
      → IsSame row its.number its.digest body
      → Follows v first sent books (accepts (v.name_of body))
      (with_accepted first sent (accepts (v.name_of body)) books) row
  repeated row body books apart is same =
      let n = v.numbered sent.request sent.number in
      let l = same.last in
      let e = ap last_number_of_seat same.there in
      let next = row_next v first row books is in
      rw (not_added (v.name_of body) books (λ q. omega arith))
      (record { answers = repeated_answers row body books apart is same; row_of = is })

  other_answers : (row : Option SeatState) (books : List Entry) → IsRowOf v first row books
      → IsDifferent row its.number its.digest → Answers first books sent (refuses 12 0) books
  other_answers row [] is differs =
      let n = v.numbered sent.request sent.number in
      let l = differs.last in
      let e = ap last_number_of_seat differs.there in
      let f : first ≡ last_number_of_seat row + 1 = is in
      inl (record { before = omega arith; unchanged = refl })
  other_answers row (newest ∷ older) is differs =
      let there = differs.there in
      let found = is.1 in
      let one : is.0 ≡ differs.row = cc in
      let number : newest.number ≡ sent.number = sym is.2 ∙ (ap (λ (r : SeatState). r.last) one
      ∙ (differs.last ∙ v.numbered sent.request sent.number)) in
      inr (record {
        same = refl;
        not_next = λ e _. omega arith;
        not_newest = λ e _. omega arith;
        next = λ e. absurd (omega arith);
        other = λ _. record {
          newest = newest;
          older = older;
          are = refl;
          number = number;
          other = λ request.
              let digest : its.digest ≡ differs.row.digest =
              ap (λ m. (v.request_of m sent.number).digest) (sym request)
              ∙ (ap (λ n. (v.request_of newest.request n).digest) (sym number)
              ∙ (sym is.3 ∙ ap (λ (r : SeatState). r.digest) one)) in
              let t : bytes_eq its.digest differs.row.digest ≡ true = text_itself _ _ digest in
              let f = differs.other in cc;
        };
        judged = λ t _. absurd (cc);
      })

  skipped : (row : Option SeatState) (expected : ℕ) (books : List Entry) → IsRowOf v first row books
      → IsSkipped row its.number expected → Follows v first sent books (refuses 11 expected) books row
  skipped row expected books is skips =
      let n = v.numbered sent.request sent.number in
      let next = row_next v first row books is in
      let expects = skips.next in
      record {
        answers = inr (record {
          same = refl;
          not_next = λ _ e. skips.not_next (omega arith);
          not_newest = λ _ has. skips.not_last (subst (IsLast row) (sym n)
              (newest_last v first sent.number row books is has));
          next = λ _. expects ∙ sym next;
          other = λ e. absurd (omega arith);
          judged = λ t _. absurd (cc);
        });
        row_of = is;
      }

  -- the next one is refused
  denied : (row : Option SeatState) (books : List Entry) (code expected : ℕ) → IsRowOf v first row books
      → its.number ≡ last_number_of_seat row + 1 → 12 < code
      → Follows v first sent books (refuses code expected) books row
  denied row books code expected is next more =
      let n = v.numbered sent.request sent.number in
      let after = row_next v first row books is in
      record {
        answers = inr (refused_other first books sent code expected (λ e. omega arith) (λ e. omega arith)
            (λ _ _. omega arith));
        row_of = is;
      }

  -- the next one is done
  accepted : (row : Option SeatState) (mid : Option SeatState) (seat body : List ℕ) (books : List Entry)
      → IsRowOf v first row books → its.number ≡ last_number_of_seat row + 1
      → mid ≡ Some (kept_of seat its body) → sent.number ≤ 9007199254740991
      → Follows v first sent books (accepts (v.name_of body))
      (with_accepted first sent (accepts (v.name_of body)) books) mid
  accepted row mid seat body books is next there few =
      let n = v.numbered sent.request sent.number in
      let after = row_next v first row books is in
      let now : sent.number ≡ next_number first books = omega arith in
      let t : (sent.number == next_number first books) ≡ true = eq-eqb _ _ now in
      rw t (record {
        answers = inr (inl (record { next = now; number = le-leb _ _ few; done = refl }));
        row_of = (kept_of seat its body, there, n, refl, refl);
      })

-- the first refusal that holds is above those of the number
found_above : (n : ℕ) (cs : Refusals) (reason : Refusal)
    → AllByRecursion (λ (c : Bool × Refusal). n < refusal_number c.1) cs → first_that_holds cs ≡ Some reason
    → n < refusal_number reason
found_above n [] reason all e = cc
found_above n (c ∷ cs) reason all e = by c.0 (found_above n cs reason all.1) e
  where
    by : (holds : Bool) → (first_that_holds cs ≡ Some reason → n < refusal_number reason)
        → (if holds then Some c.1 else first_that_holds cs) ≡ Some reason → n < refusal_number reason
    by true later e = let same : c.1 ≡ reason = cc in subst (λ r. n < refusal_number r) same all.0
    by false later e = later e

-- what refuses a command is above those of the number
pub command_above : (c : Section) (v : Sight) (change : Changing) (reason : Refusal)
    → first_that_holds (refusals c v change) ≡ Some reason → 12 < refusal_number reason
command_above c v change reason holds =
    found_above 12 (refusals c v change) reason
    (above 12 12 (refusals c v change) (omega arith) (refusals_ascend c v change)) holds

-- how the office's answer to a copy is read
module _ (v : Names) (first : ℕ) (sent : Sent) (c : Section) (seat : List ℕ) (s mid : SoloState)
    (reply : Response) (books : List Entry) (is : IsRowOf v first (seat_named seat s) books)
    (few : last_number_of_seat (seat_named seat mid) + 1 < 9007199254740991) (apart : IsApart v first sent books) where
  abbrev asked : Request
  asked = v.request_of sent.request sent.number

  -- the reply and the state after it are those of what the machine responds
  abbrev Performs : Option Responding → Type 0
  Performs made = ◌≡◌ {A = Response × SoloState} (reply, mid)
      (unwrap_or (option_map (λ r. (r.reply, with_puts r.puts s)) made) (refusal unkept, s))

  abbrev Read : Type 0
  Read = Follows v first sent books (v.read reply) (with_accepted first sent (v.read reply) books)
      (seat_named seat mid)

  same_state : (other : Response) → ◌≡◌ {A = Response × SoloState} (reply, mid) (other, s)
      → seat_named seat mid ≡ seat_named seat s
  same_state other e = ap (λ (p : Response × SoloState). seat_named seat p.1) e

  read_as : (other : Response) (after : SoloState) (answer : Answer)
      → ◌≡◌ {A = Response × SoloState} (reply, mid) (other, after) → v.read other ≡ answer → v.read reply ≡ answer
  read_as other after answer e read = ap (λ (p : Response × SoloState). v.read p.0) e ∙ read

  read_same : (other : Response) (answer : Answer) → ◌≡◌ {A = Response × SoloState} (reply, mid) (other, s)
      → v.read other ≡ answer
      → Follows v first sent books answer (with_accepted first sent answer books) (seat_named seat s) → Read
  read_same other answer e read follows =
      rw (read_as other s answer e read, same_state other e) follows

  of_found : (change : Changing) (found : Option Refusal) (made : Option Effect)
      → first_that_holds (refusals c (solo_sight c seat s) change) ≡ found
      → LeaveSeats c seat (solo_sight c seat s) made
      → asked.number ≡ last_number_of_seat (seat_named seat s) + 1
      → Performs (decide seat asked found made) → Read
  of_found change (Some reason) made holds leave next e =
      let more = command_above c (solo_sight c seat s) change reason holds in
      read_same (refusal reason) (refuses (refusal_number reason) (expected_in reason)) e
      (v.reads_refusal reason (few_expected reason (λ q. omega arith)))
      (denied v first sent (seat_named seat s) books (refusal_number reason) (expected_in reason) is next more)
  of_found change None None holds leave next e =
      read_same (refusal unkept) (refuses 50 0) e (v.reads_refusal unkept (omega arith))
      (came_refused v first sent books (seat_named seat s) 50 0 (inr refl) is)
  of_found change None (Some made) holds leave next e =
      let row : SeatState = kept_of seat asked made.body in
      let seats : mid.seats ≡ with_row solo_seat_cmp row s.seats =
      ap (λ (p : Response × SoloState). p.1.seats) e ∙ seats_after made.puts row s leave in
      let there : seat_named seat mid ≡ Some row =
      ap (find (λ q. bytes_eq seat q.name)) seats ∙ row_found row s.seats in
      let last : last_number_of_seat (seat_named seat mid) ≡ asked.number = ap last_number_of_seat there in
      let n = v.numbered sent.request sent.number in
      rw (read_as (acceptance made.body) _ (accepts (v.name_of made.body)) e (v.reads_reply made.body))
      (accepted v first sent (seat_named seat s) (seat_named seat mid) seat made.body books is next there (omega arith))

  of_retry : (change : Changing) (retry : Retry)
      → retry_of (seat_named seat s) asked.number asked.digest ≡ retry
      → Performs (respond_by_retry c seat (solo_sight c seat s) asked change retry) → Read
  of_retry change (Repeats body) rule e =
      read_same (acceptance body) (accepts (v.name_of body)) e (v.reads_reply body)
      (repeated v first sent (seat_named seat s) body books apart is (is_same (seat_named seat s) _ _ body rule))
  of_retry change Differs rule e =
      read_same (refusal OtherBody) (refuses 12 0) e (v.reads_refusal OtherBody (omega arith)) (record {
        answers = other_answers v first sent (seat_named seat s) books is (is_different (seat_named seat s) _ _ rule);
        row_of = is;
      })
  of_retry change (Skips expected) rule e =
      let skips = is_skipped (seat_named seat s) _ _ expected rule in
      let n = skips.next in
      let same = ap last_number_of_seat (same_state (refusal (WrongNumber expected)) e) in
      read_same (refusal (WrongNumber expected)) (refuses 11 expected) e
      (v.reads_refusal (WrongNumber expected) (omega arith))
      (skipped v first sent (seat_named seat s) expected books is skips)
  of_retry change Next rule e =
      of_found change (first_that_holds (refusals c (solo_sight c seat s) change))
      (effect c seat (solo_sight c seat s) change) refl (effect_leaves c seat (solo_sight c seat s) change)
      (retry_next (seat_named seat s) asked.number asked.digest rule) e

  pub of_copy : (command : Command) → is_change command ≡ true
      → Performs (respond_to c seat (solo_sight c seat s) asked command) → Read
  of_copy (Show showing) changes e = cc
  of_copy (Change change) changes e =
      of_retry change (retry_of (seat_named seat s) asked.number asked.digest) refl e

  -- it was refused as it came, or for now
  pub of_refused : (reason : Refusal) → (refusal_number reason < 11) ⊎ (refusal_number reason ≡ 50)
      → ◌≡◌ {A = Response × SoloState} (reply, mid) (refusal reason, s) → Read
  of_refused reason low e =
      read_same (refusal reason) (refuses (refusal_number reason) (expected_in reason)) e
      (v.reads_refusal reason (few_expected reason (low_not _ 11 low (omega arith) (omega arith))))
      (came_refused v first sent books (seat_named seat s) (refusal_number reason) (expected_in reason) low is)

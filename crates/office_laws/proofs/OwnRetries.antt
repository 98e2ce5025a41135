-- What a call does to the seats of the customer's own machine.
use Rattle.std.proofs.Common.{◌≡◌, ◌+◌, ◌==◌, ◌++◌, ◌⊎◌, ◌∷◌, ◌&&◌, if◌then◌else◌}
use Rattle.text_core.proofs.Kit.{◌∙◌, ℕ, inl, inr, true, false, List, [], Option, Some, None, Equal, refl, sym, ap, Bool, bytes_eq, find, is_some, map}
use Rattle.text_core.proofs.Kit.{MatchBool, option_and_then, option_map, result_ok, AllByRecursion, eqb-true, nat_list_cmp_total, tied_itself, unwrap_or}
use Rattle.text_core.proofs.Kit.{same_text, text_itself}
use Rattle.sha2.specs.Sha256.{sha256}
use Rattle.http_replies.specs.Prelude.{Answer, code_of}
use Rattle.office_laws.proofs.Types.{ImportRow, SeatState, Change as Changing, MakeOrder, ImportMap, RegisterDevice, Act, Identify, Import, Command, Request}
use Rattle.office_laws.proofs.Types.{Refusal, Unkept, Show, Repeats, Next, unkept}
use Rattle.office_rules.specs.declared.retry.Retry.TheVariants.{Differs, Skips}
use Rattle.site_core.specs.Prelude.{Section}
use Rattle.office_tables.specs.Prelude.{with_row}
use Rattle.office_tables.proofs.Finding.{other_placed}
use Rattle.office_tables.proofs.Places.{same_place}
use Rattle.office_commands.specs.Prelude.{refusal_status, acceptance, refusal}
use Rattle.office_commands.specs.declared.command.Command.TheVariants.{Change}
use Rattle.office_rules.specs.Prelude.{rule_of, StepRule, Effect, Put, map_put, record_put, seat_put, step_effect, merged_rows, row_of_import, Response, accept}
use Rattle.office_rules.specs.Prelude.{effect, reply_only, respond_to, kept_of, retry_of, Sight, map_in_sight}
use Rattle.office_laws.specs.Prelude.{SoloState, seat_named, solo_sight, with_put, with_puts, Call, Exchange, Wanted, asks, reports, refused, alone, alone_on}
use Rattle.office_laws.specs.Prelude.{last_number_of_seat, is_accepted, is_change, number_of_wanted, writes}
use Rattle.office_laws.proofs.OwnPlaces.{solo_seat_cmp}
use Rattle.office_laws.proofs.Placed.{found_replaced}
use Rattle.office_laws.proofs.Responses.{of_change}

-- no refusal is answered 200
pub not_success : (reason : Refusal) → (code_of (refusal_status reason) == 200) ≡ false
not_success (Unkept _) = refl
not_success _ = refl

-- a put of another row leaves the seats
abbrev pub LeavesSeats : Put → Type 0
LeavesSeats p = (s : SoloState) → (with_put p s).seats ≡ s.seats

-- the puts of a command leave the seats: the seat's own row is put after them
module _ (c : Section) (seat : List ℕ) (v : Sight) where
  abbrev pub LeaveSeats : Option Effect → Type 0
  LeaveSeats None = Unit {0}
  LeaveSeats (Some made) = AllByRecursion LeavesSeats made.puts

  after_some : {A : Type 0} (o : Option A) (f : A → Option Effect) → ((x : A) → LeaveSeats (f x))
      → LeaveSeats (option_and_then f o)
  after_some None f leaves = tt
  after_some (Some x) f leaves = leaves x

  step_leaves : (does : StepRule) (chip : List ℕ) → LeaveSeats (step_effect seat v does chip)
  step_leaves does chip =
      after_some (v.device chip) _ (λ d. after_some (map_in_sight v d.map) _ (λ m. (λ _. refl, tt)))

  records_leave : (issuer : List ℕ) (rows : List ImportRow)
      → AllByRecursion LeavesSeats (map (λ r. record_put (row_of_import issuer r)) rows)
  records_leave issuer [] = tt
  records_leave issuer (r ∷ rs) = (λ _. refl, records_leave issuer rs)

  map_leaves : (text : List ℕ) (there : Bool)
      → AllByRecursion LeavesSeats (if there then [] else map_put text ∷ [])
  map_leaves text true = tt
  map_leaves text false = (λ _. refl, tt)

  pub effect_leaves : (change : Changing) → LeaveSeats (effect c seat v change)
  effect_leaves (MakeOrder n) = after_some (v.issuer n.issuer) _ (λ given. (λ _. refl, tt))
  effect_leaves (ImportMap text) = map_leaves text (is_some (v.text (sha256 text)))
  effect_leaves (RegisterDevice n) =
      after_some (map_in_sight v n.map) _ (λ m. (λ _. refl, tt))
  effect_leaves (Act chip action) = step_leaves (rule_of action).does chip
  effect_leaves (Identify n) =
      after_some (v.device n.chip) _ (λ d. after_some (map_in_sight v d.map) _ (λ m.
      after_some (v.order d.order) _ (λ o. after_some o.next _ (λ next.
      (λ _. refl, (λ _. refl, tt))))))
  effect_leaves (Import n) =
      after_some (option_and_then result_ok (merged_rows v n)) _ (λ i. records_leave n.issuer i.added)

-- after puts that leave the seats, and the seat's row, the seats are those of before with the row in its place
pub seats_after : (ps : List Put) (row : SeatState) (s : SoloState) → AllByRecursion LeavesSeats ps
    → (with_puts (ps ++ seat_put row ∷ []) s).seats ≡ with_row solo_seat_cmp row s.seats
seats_after [] row s leave = refl
seats_after (p ∷ ps) row s leave =
    seats_after ps row (with_put p s) leave.1 ∙ ap (with_row solo_seat_cmp row) (leave.0 s)

-- a repeat is of the number of the seat's row, whose reply is kept
pub retry_repeats : (found : Option SeatState) (n : ℕ) (digest body : List ℕ)
    → retry_of found n digest ≡ Repeats body
    → (r : SeatState) × (found ≡ Some r) × (r.last ≡ n) × (r.reply ≡ body)
retry_repeats None n digest body e = by (n == 1) e
  where
    by : (first : Bool) → (if first then Next else Skips 1) ≡ Repeats body → (r : SeatState)
        × (None ≡ Some r) × (r.last ≡ n) × (r.reply ≡ body)
    by true e = cc
    by false e = cc
retry_repeats (Some s) n digest body e =
    by (n == s.last) (bytes_eq digest s.digest) (n == s.last + 1) refl e
  where
    by : (last same next : Bool) → (n == s.last) ≡ last
        → (if last then (if same then Repeats s.reply else Differs) else
        (if next then Next else Skips (s.last + 1))) ≡ Repeats body
        → (r : SeatState) × (Some s ≡ Some r) × (r.last ≡ n) × (r.reply ≡ body)
    by true true next is e = (s, refl, sym (eqb-true n s.last is), (cc))
    by true false next is e = cc
    by false same true is e = cc
    by false same false is e = cc

-- what is next has the number after it
pub retry_next : (found : Option SeatState) (n : ℕ) (digest : List ℕ) → retry_of found n digest ≡ Next
    → n ≡ last_number_of_seat found + 1
retry_next None n digest e = by (n == 1) refl e
  where
    by : (first : Bool) → (n == 1) ≡ first → (if first then Next else Skips 1) ≡ Next → n ≡ 1
    by true is e = eqb-true n 1 is
    by false is e = cc
retry_next (Some s) n digest e =
    by (n == s.last) (bytes_eq digest s.digest) (n == s.last + 1) refl e
  where
    by : (last same next : Bool) → (n == s.last + 1) ≡ next
        → (if last then (if same then Repeats s.reply else Differs) else
        (if next then Next else Skips (s.last + 1))) ≡ Next → n ≡ s.last + 1
    by false same true is e = eqb-true n (s.last + 1) is
    by false same false is e = cc
    by true true next is e = cc
    by true false next is e = cc

-- what an accepted command does: the seat's row has its number and its reply. It is the last one
-- again, and nothing changes, or the next one; and each other seat's row stays
pub record Accepts (seat : List ℕ) (number : ℕ) (reply : Answer) (s mid : SoloState) : Type 0 where
  pub row : SeatState
  pub there : seat_named seat mid ≡ Some row
  pub last : row.last ≡ number
  pub shown : reply ≡ acceptance row.reply
  pub before : ((number ≡ last_number_of_seat (seat_named seat s)) × (mid ≡ s))
      ⊎ (number ≡ last_number_of_seat (seat_named seat s) + 1)
  pub others : (other : List ℕ) → bytes_eq other seat ≡ false
      → seat_named other mid ≡ seat_named other s

-- a reply by its status
at_accepted : (reply : Answer) (body : List ℕ) (P Q : Type 0) → reply ≡ acceptance body → P
    → MatchBool (code_of reply.status == 200) P Q
at_accepted reply body P Q e p = rw e p

at_refused : (reply : Answer) (reason : Refusal) (P Q : Type 0) → reply ≡ refusal reason → Q
    → MatchBool (code_of reply.status == 200) P Q
at_refused reply reason P Q e q = rw (e, not_success reason) q

-- the seat's row in its place
module _ (row : SeatState) where
  tied : (rows : List SeatState)
      → AllByRecursion (λ y. bytes_eq row.name y.name ≡ true → solo_seat_cmp row y ≡ Equal) rows
  tied [] = tt
  tied (y ∷ ys) = (
    λ its. rw (← same_text row.name y.name its)
        (tied_itself nat_list_cmp_total row.name),
    tied ys,
  )

  fails : (other : List ℕ) → bytes_eq other row.name ≡ false → (rows : List SeatState)
      → AllByRecursion (λ y. solo_seat_cmp row y ≡ Equal → bytes_eq other y.name ≡ false) rows
  fails other differs [] = tt
  fails other differs (y ∷ ys) =
      (λ same. rw (← same_place row.name y.name same) differs, fails other differs ys)

  pub row_found : (rows : List SeatState)
      → find (λ r. bytes_eq row.name r.name) (with_row solo_seat_cmp row rows) ≡ Some row
  row_found rows =
      found_replaced solo_seat_cmp row (λ r. bytes_eq row.name r.name) rows
      (text_itself row.name row.name refl) (tied rows)

  pub row_other : (other : List ℕ) → bytes_eq other row.name ≡ false → (rows : List SeatState)
      → find (λ r. bytes_eq other r.name) (with_row solo_seat_cmp row rows)
      ≡ find (λ r. bytes_eq other r.name) rows
  row_other other differs rows =
      other_placed (λ r. bytes_eq other r.name) solo_seat_cmp row rows differs
      (fails other differs rows)

module _ (c : Section) (seat : List ℕ) (s mid : SoloState) (reply : Answer) where
  abbrev v : Sight
  v = solo_sight c seat s

  -- the reply and the state after it are those of what the machine responds
  abbrev Performed : Option Response → Type 0
  Performed made =
      ◌≡◌ {A = Answer × SoloState} (reply, mid)
      (unwrap_or (option_map (λ r. (r.reply, with_puts r.puts s)) made) (refusal unkept, s))

  abbrev Does : Request → Option Response → Type 0
  Does r made = Performed made
      → MatchBool (code_of reply.status == 200) (Accepts seat r.number reply s mid) (mid ≡ s)

  repeated : (r : Request) (body : List ℕ)
      → retry_of (seat_named seat s) r.number r.digest ≡ Repeats body
      → Does r (Some (reply_only (acceptance body)))
  repeated r body is e =
      let kept = retry_repeats (seat_named seat s) r.number r.digest body is in
      let same : mid ≡ s = ap (λ (p : Answer × SoloState). p.1) e in
      at_accepted reply body _ _ (ap (λ (p : Answer × SoloState). p.0) e) (record {
        row = kept.0;
        there = ap (seat_named seat) same ∙ kept.1;
        last = kept.2;
        shown = ap (λ (p : Answer × SoloState). p.0) e ∙ ap acceptance (sym kept.3);
        before = inl (sym kept.2 ∙ ap last_number_of_seat (sym kept.1), same);
        others = λ other _. ap (seat_named other) same;
      })

  denied : (r : Request) (reason : Refusal) → Does r (Some (reply_only (refusal reason)))
  denied r reason e = at_refused reply reason _ _ (ap (λ (p : Answer × SoloState). p.0) e)
      (ap (λ (p : Answer × SoloState). p.1) e)

  accepted : (r : Request) → r.number ≡ last_number_of_seat (seat_named seat s) + 1
      → (made : Option Effect) → LeaveSeats c seat v made → Does r (option_map (accept seat r) made)
  accepted r next None leave e = denied r unkept e
  accepted r next (Some made) leave e =
      let row : SeatState = kept_of seat r made.body in
      let seats : mid.seats ≡ with_row solo_seat_cmp row s.seats =
      ap (λ (p : Answer × SoloState). p.1.seats) e ∙ seats_after made.puts row s leave in
      at_accepted reply made.body _ _ (ap (λ (p : Answer × SoloState). p.0) e) (record {
        row = row;
        there = ap (find (λ q. bytes_eq seat q.name)) seats ∙ row_found row s.seats;
        last = refl;
        shown = ap (λ (p : Answer × SoloState). p.0) e;
        before = inr next;
        others = λ other differs. ap (find (λ q. bytes_eq other q.name)) seats
            ∙ row_other row other differs s.seats;
      })

  on_command : (r : Request) (command : Command) → Performed (respond_to c seat v r command)
      → MatchBool (is_change command && code_of reply.status == 200)
      (Accepts seat r.number reply s mid) (mid ≡ s)
  on_command r (Show asked) e = ap (λ (p : Answer × SoloState). p.1) e
  on_command r (Change change) e =
      of_change c seat v r (Does r) change (repeated r) (λ reason _. denied r reason)
      (λ is _. accepted r (retry_next (seat_named seat s) r.number r.digest is)
      (effect c seat v change) (effect_leaves c seat v change)) e

on_wanted : (c : Call) (s mid : SoloState) (reply : Answer) (w : Wanted)
    → ◌≡◌ {A = Answer × SoloState} (reply, mid) (alone_on c s w)
    → MatchBool (writes w && code_of reply.status == 200) (Accepts c.seat (number_of_wanted w) reply s mid)
    (mid ≡ s)
on_wanted c s mid reply reports e = ap (λ (p : Answer × SoloState). p.1) e
on_wanted c s mid reply (refused reason) e = ap (λ (p : Answer × SoloState). p.1) e
on_wanted c s mid reply (asks r) e = on_command c.section c.seat s mid reply r r.command e

-- an exchange of the own machine: an accepted command, or nothing changes
pub takes : (x : Exchange) (s mid : SoloState) → ◌≡◌ {A = Answer × SoloState} (x.1, mid) (alone x.0 s)
    → MatchBool (is_accepted x) (Accepts x.0.seat (number_of_wanted x.0.wanted) x.1 s mid) (mid ≡ s)
takes x s mid e = on_wanted x.0 s mid x.1 x.0.wanted e

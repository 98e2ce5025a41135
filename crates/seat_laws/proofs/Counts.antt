-- What the station sent of a request was done at most as often as the request was wanted: what holds.
use Rattle.std.proofs.Common.{◌≡◌, ◌⊎◌, ◌∙◌, ℕ, suc, zero, ◌+◌, ◌<◌, ◌≤◌, Bool, true, false, List, [], ◌∷◌, ◌++◌}
use Rattle.std.proofs.Common.{drop, cond, filter, refl, sym, ap, subst, inl, inr}
use Rattle.std.proofs.Common.{arith}
use Rattle.std.proofs.lemmas.Bool.{eq-eqb, ne_eqb}
use Rattle.std.proofs.lemmas.Bool.Decides.{eqb_tells}
use Rattle.std.proofs.Math.Dec.{eqb, leb}
use Rattle.std.specs.Prelude.{◌==◌, ◌≢◌, not, nat_le, if◌then◌else◌}
use Rattle.std.specs.List.{AllByRecursion}
use Rattle.seat_core.specs.declared.request.Sent.{Sent}
use Rattle.seat_core.specs.declared.station.Place.{Place}
use Rattle.seat_core.specs.declared.station.Place.TheVariants.{Unknown, Free, UnderWay}
use Rattle.seat_core.specs.declared.station.SeatFile.{SeatFile}
use Rattle.seat_core.specs.Aside.{aside_with, newest_of}
use Rattle.seat_core.specs.Steps.{number_after}
use Rattle.seat_laws.specs.Served.{Answer, Answers, Entry, IsInOrder, IsTaken, accepts, entry_of, next_number, refuses}
use Rattle.seat_laws.specs.Runs.{IsAmong, World}
use Rattle.seat_laws.specs.Concludes.{own_requests, times}
use Rattle.std.proofs.lemmas.List.Elements.{All-from_recursion, recursion_from_All, All-weaker}
use Rattle.seat_laws.proofs.Among.{all_at}
use Rattle.seat_laws.proofs.Standing.{first_next}

-- a request of this name was accepted with this number
abbrev pub HasEntry : List Entry → ℕ → ℕ → Type 0
HasEntry [] number request = ⊥
HasEntry (entry ∷ books) number request =
    ((entry.number ≡ number) × (entry.request ≡ request)) ⊎ HasEntry books number request

-- the books are the same, or have one more
abbrev pub HasGrown : ℕ → List Entry → List Entry → Type 0
HasGrown first books after = (after ≡ books)
    ⊎ ((entry : Entry) × (entry.number ≡ next_number first books) × (after ≡ entry ∷ books))

pub answers_grow : (first : ℕ) (books : List Entry) (sent : Sent) (answer : Answer) (after : List Entry)
    → Answers first books sent answer after → HasGrown first books after
answers_grow first books sent answer after (inl earlier) = inl earlier.unchanged
answers_grow first books sent (accepts reply) after (inr (inl new)) = inr (entry_of sent reply, new.next, new.done)
answers_grow first books sent (accepts reply) after (inr (inr again)) = inl again.same
answers_grow first books sent (refuses code expected) after (inr refused) = inl refused.same

-- an accepted number is below the next one
below_next : (first : ℕ) (books : List Entry) (number request : ℕ) → IsInOrder first books
    → HasEntry books number request → number < next_number first books
below_next first [] number request order has = elim has [ ]
below_next first (entry ∷ books) number request order (inl is) = let e = is.0 in omega arith
below_next first (entry ∷ books) number request order (inr has) =
    let lt = below_next first books number request order.2 has in
    let e = order.0 in omega arith

-- a number is accepted with one request
pub one_entry : (first : ℕ) (books : List Entry) (number x y : ℕ) → IsInOrder first books
    → HasEntry books number x → HasEntry books number y → x ≡ y
one_entry first [] number x y order has other = elim has [ ]
one_entry first (entry ∷ books) number x y order (inl is) (inl same) = sym is.1 ∙ same.1
one_entry first (entry ∷ books) number x y order (inl is) (inr has) =
    let lt = below_next first books number y order.2 has in
    let e = order.0 in
    let n = is.0 in absurd (omega arith)
one_entry first (entry ∷ books) number x y order (inr has) (inl is) =
    let lt = below_next first books number x order.2 has in
    let e = order.0 in
    let n = is.0 in absurd (omega arith)
one_entry first (entry ∷ books) number x y order (inr has) (inr other) =
    one_entry first books number x y order.2 has other

pub next_grows : (first : ℕ) (books after : List Entry) (number : ℕ) → HasGrown first books after
    → number < next_number first books → number < next_number first after
next_grows first books after number (inl same) lt = rw same lt
next_grows first books after number (inr more) lt =
    let e = ap (next_number first) more.2 in
    let n = more.1 in omega arith

pub next_stays : (first : ℕ) (books after : List Entry) (number : ℕ) → HasGrown first books after
    → number ≤ next_number first books → number ≤ next_number first after
next_stays first books after number (inl same) le = rw same le
next_stays first books after number (inr more) le =
    let e = ap (next_number first) more.2 in
    let n = more.1 in omega arith

pub has_grows : (first : ℕ) (books after : List Entry) (number request : ℕ) → HasGrown first books after
    → HasEntry books number request → HasEntry after number request
has_grows first books after number request (inl same) has =
    subst (λ b. HasEntry b number request) (sym same) has
has_grows first books after number request (inr more) has =
    subst (λ b. HasEntry b number request) (sym more.2) (inr has)

pub order_grows : (first : ℕ) (books : List Entry) (entry : Entry) → IsTaken first books entry
    → IsInOrder first books → IsInOrder first (entry ∷ books)
order_grows first books entry taken order = (taken.next, taken.number, order)

-- a copy has an older number, or is one of these
abbrev pub IsOlder : ℕ → List ℕ → Sent → Type 0
IsOlder number all sent = (sent.number < number) ⊎ ((sent.number ≡ number) × IsAmong sent.request all)

-- no copy with this number was done yet
pub record IsClear (first number : ℕ) (base : List ℕ) (books : List Entry) : Type 0 where
  pub next : number ≤ next_number first books
  pub own : own_requests books ≡ base

-- a copy with this number was done
pub record IsHere (first number : ℕ) (all base : List ℕ) (books : List Entry) : Type 0 where
  pub request : ℕ
  pub past : number < next_number first books
  pub own : own_requests books ≡ request ∷ base
  pub among : IsAmong request all
  pub has : HasEntry books number request

-- What was done with older numbers was wanted as often. What was sent, or may be, with this one was
-- wanted once more.
pub record IsCounted (first number : ℕ) (pending : List ℕ) (sents : List Sent) (books : List Entry)
    (wanted : List ℕ) : Type 0 where
  pub from : first ≤ number
  pub all : List ℕ
  pub covers : (x : ℕ) → IsAmong x pending → IsAmong x all
  pub old : AllByRecursion (IsOlder number all) sents
  pub base : List ℕ
  pub stands : IsClear first number base books ⊎ IsHere first number all base books
  pub fits : (x : ℕ) → times x base ≤ times x wanted
  pub more : (x : ℕ) → IsAmong x all → times x base < times x wanted

-- nothing was sent yet
pub record IsUnsent (aside : List ℕ) (sents : List Sent) (books : List Entry) : Type 0 where
  pub none_aside : aside ≡ []
  pub none_sent : sents ≡ []
  pub none_own : own_requests books ≡ []

abbrev pub CountsAt : ℕ → Place → List ℕ → List Sent → List Entry → List ℕ → Type 0
CountsAt first Unknown aside sents books wanted = IsUnsent aside sents books
CountsAt first (Free number) aside sents books wanted = IsCounted first number aside sents books wanted
CountsAt first (UnderWay sent) aside sents books wanted =
    IsCounted first sent.number (sent.request ∷ aside) sents books wanted

abbrev pub CountsIn : ℕ → SeatFile → World → Type 0
CountsIn first f w = CountsAt first f.place f.aside w.sent w.books w.wanted

-- one more is wanted
test_more : (b : Bool) (n : ℕ) → n ≤ (if b then suc n else n)
test_more true n = omega arith
test_more false n = omega arith

test_most : (b : Bool) (n : ℕ) → (if b then suc n else n) ≤ suc n
test_most true n = omega arith
test_most false n = omega arith

times_more : (x y : ℕ) (ys : List ℕ) → times x ys ≤ times x (y ∷ ys)
times_more x y ys = test_more (y == x) (times x ys)

times_same : (x : ℕ) (ys : List ℕ) → times x (x ∷ ys) ≡ suc (times x ys)
times_same x ys = let t : (x == x) ≡ true = eq-eqb x x refl in rw t refl

times_other : (x y : ℕ) (ys : List ℕ) → (y ≡ x → ⊥) → times x (y ∷ ys) ≡ times x ys
times_other x y ys other = let t : (y == x) ≡ false = ne_eqb y x other in rw t refl

counted_noted : (first number : ℕ) (pending : List ℕ) (sents : List Sent) (books : List Entry) (wanted : List ℕ)
    (request : ℕ) → IsCounted first number pending sents books wanted
    → IsCounted first number pending sents books (request ∷ wanted)
counted_noted first number pending sents books wanted request is = record {
  from = is.from;
  all = is.all;
  covers = is.covers;
  old = is.old;
  base = is.base;
  stands = is.stands;
  fits = λ x. let a = is.fits x in let b = times_more x request wanted in omega arith;
  more = λ x among. let a = is.more x among in let b = times_more x request wanted in omega arith;
}

pub counts_noted : (first : ℕ) (place : Place) (aside : List ℕ) (sents : List Sent) (books : List Entry)
    (wanted : List ℕ) (request : ℕ) → CountsAt first place aside sents books wanted
    → CountsAt first place aside sents books (request ∷ wanted)
counts_noted first Unknown aside sents books wanted request is = is
counts_noted first (Free number) aside sents books wanted request is =
    counted_noted first number aside sents books wanted request is
counts_noted first (UnderWay sent) aside sents books wanted request is =
    counted_noted first sent.number (sent.request ∷ aside) sents books wanted request is

older_more : (number request : ℕ) (all : List ℕ) (sent : Sent) → IsOlder number all sent
    → IsOlder number (request ∷ all) sent
older_more number request all sent (inl lt) = inl lt
older_more number request all sent (inr is) = inr (is.0, inr is.1)

stands_wider : (first number request : ℕ) (all base : List ℕ) (books : List Entry)
    → IsClear first number base books ⊎ IsHere first number all base books
    → IsClear first number base books ⊎ IsHere first number (request ∷ all) base books
stands_wider first number request all base books (inl clear) = inl clear
stands_wider first number request all base books (inr here) = inr (record {
  request = here.request;
  past = here.past;
  own = here.own;
  among = inr here.among;
  has = here.has;
})

-- a request that is wanted is under way
pub counted_wanted : (first number : ℕ) (pending : List ℕ) (sents : List Sent) (books : List Entry)
    (wanted : List ℕ) (request : ℕ) → IsCounted first number pending sents books wanted
    → IsCounted first number (request ∷ pending) sents books (request ∷ wanted)
counted_wanted first number pending sents books wanted request is = record {
  from = is.from;
  all = request ∷ is.all;
  covers = covers;
  old = recursion_from_All _ _
      (All-weaker _ _ (older_more number request is.all) _ (All-from_recursion _ sents is.old));
  base = is.base;
  stands = stands_wider first number request is.all is.base books is.stands;
  fits = λ x. let a = is.fits x in let b = times_more x request wanted in omega arith;
  more = more;
} where
  covers : (x : ℕ) → IsAmong x (request ∷ pending) → IsAmong x (request ∷ is.all)
  covers x (inl e) = inl e
  covers x (inr among) = inr (is.covers x among)

  more : (x : ℕ) → IsAmong x (request ∷ is.all) → times x is.base < times x (request ∷ wanted)
  more x (inl e) =
      let s : times x (request ∷ wanted) ≡ suc (times x wanted) =
      subst (λ r. times x (r ∷ wanted) ≡ suc (times x wanted)) e (times_same x wanted) in
      let a = is.fits x in omega arith
  more x (inr among) = let a = is.more x among in let b = times_more x request wanted in omega arith

-- fewer are pending
pub counted_less : {first number : ℕ} {pending : List ℕ} {sents : List Sent} {books : List Entry}
    {wanted : List ℕ} → (others : List ℕ) → ((x : ℕ) → IsAmong x others → IsAmong x pending)
    → IsCounted first number pending sents books wanted → IsCounted first number others sents books wanted
counted_less others less is = record {
  from = is.from;
  all = is.all;
  covers = λ x among. is.covers x (less x among);
  old = is.old;
  base = is.base;
  stands = is.stands;
  fits = is.fits;
  more = is.more;
}

-- what is pending is sent
pub counted_sent : {first number : ℕ} {pending : List ℕ} {sents : List Sent} {books : List Entry}
    {wanted : List ℕ} → (request : ℕ) → IsAmong request pending
    → IsCounted first number pending sents books wanted
    → IsCounted first number pending (record { number = number; request = request } ∷ sents) books wanted
counted_sent request among is = record {
  from = is.from;
  all = is.all;
  covers = is.covers;
  old = (inr (refl, is.covers request among), is.old);
  base = is.base;
  stands = is.stands;
  fits = is.fits;
  more = is.more;
}

-- the number after, where this one was accepted
step_number : (number : ℕ) → nat_le number 9007199254740991 ≡ true → number_after number ≡ number + 1
step_number number t = rw t refl

older_after : (number later : ℕ) (all others : List ℕ) → number < later → (sent : Sent) → IsOlder number all sent
    → IsOlder later others sent
older_after number later all others past sent (inl lt) = inl (omega arith)
older_after number later all others past sent (inr is) = let e = is.0 in inl (omega arith)

-- what was done with older numbers, and with this one
abbrev base_after : (first number : ℕ) (all base : List ℕ) (books : List Entry)
    → IsClear first number base books ⊎ IsHere first number all base books → List ℕ
base_after first number all base books (inl clear) = base
base_after first number all base books (inr here) = here.request ∷ base

own_base : (first number : ℕ) (all base : List ℕ) (books : List Entry)
    → (stands : IsClear first number base books ⊎ IsHere first number all base books)
    → own_requests books ≡ base_after first number all base books stands
own_base first number all base books (inl clear) = clear.own
own_base first number all base books (inr here) = here.own

fits_after : (first number : ℕ) (all base : List ℕ) (books : List Entry) (wanted : List ℕ)
    → (stands : IsClear first number base books ⊎ IsHere first number all base books)
    → ((x : ℕ) → times x base ≤ times x wanted) → ((x : ℕ) → IsAmong x all → times x base < times x wanted)
    → (x : ℕ) → times x (base_after first number all base books stands) ≤ times x wanted
fits_after first number all base books wanted (inl clear) fits more x = fits x
fits_after first number all base books wanted (inr here) fits more x = here_fits (eqb_tells here.request x) where
  here_fits : ((eqb here.request x ≡ true) × (here.request ≡ x)) ⊎ ((eqb here.request x ≡ false) × (here.request ≢ x))
      → times x (here.request ∷ base) ≤ times x wanted
  here_fits (inl same) =
      let a : times x base < times x wanted = more x (subst (λ y. IsAmong y all) same.1 here.among) in
      let b = test_most (here.request == x) (times x base) in omega arith
  here_fits (inr other) = rw (times_other x here.request base other.1) (fits x)

-- those that are pending with the next number weren't done with this one
more_after : (first number : ℕ) (all base : List ℕ) (books : List Entry) (wanted : List ℕ) (x : ℕ)
    → (stands : IsClear first number base books ⊎ IsHere first number all base books)
    → (HasEntry books number x → ⊥) → times x base < times x wanted
    → times x (base_after first number all base books stands) < times x wanted
more_after first number all base books wanted x (inl clear) undone more = more
more_after first number all base books wanted x (inr here) undone more =
    rw (times_other x here.request base (λ e. undone (subst (HasEntry books number) e here.has))) more

-- The number was accepted: a later one has these pending, which weren't done with this one.
pub counted_past : {first number : ℕ} {pending : List ℕ} {sents : List Sent} {books : List Entry}
    {wanted : List ℕ} → (later : ℕ) (others : List ℕ) → number < later → later ≤ next_number first books
    → ((x : ℕ) → IsAmong x others → IsAmong x pending)
    → ((x : ℕ) → IsAmong x others → HasEntry books number x → ⊥)
    → IsCounted first number pending sents books wanted → IsCounted first later others sents books wanted
counted_past {first} {number} {pending} {sents} {books} {wanted} later others past next less undone is =
    let le = is.from in
    record {
      from = omega arith;
      all = others;
      covers = λ x among. among;
      old = recursion_from_All _ _
          (All-weaker _ _ (older_after number later is.all others past) _ (All-from_recursion _ sents is.old));
      base = base_after first number is.all is.base books is.stands;
      stands = inl (record { next = next; own = own_base first number is.all is.base books is.stands });
      fits = fits_after first number is.all is.base books wanted is.stands is.fits is.more;
      more = λ x among. more_after first number is.all is.base books wanted x is.stands (undone x among)
          (is.more x (is.covers x (less x among)));
    }

pub counted_after : {first number : ℕ} {pending : List ℕ} {sents : List Sent} {books : List Entry}
    {wanted : List ℕ} → (others : List ℕ) → nat_le number 9007199254740991 ≡ true
    → number < next_number first books → ((x : ℕ) → IsAmong x others → IsAmong x pending)
    → ((x : ℕ) → IsAmong x others → HasEntry books number x → ⊥)
    → IsCounted first number pending sents books wanted
    → IsCounted first (number_after number) others sents books wanted
counted_after {first} {number} others bound past less undone is =
    rw (step_number number bound) (counted_past (number + 1) others (omega arith) (omega arith) less undone is)

-- the station goes on with the number that the server expects
pub counted_resumed : (first number expected : ℕ) (pending : List ℕ) (sents : List Sent) (books : List Entry)
    (wanted : List ℕ) → number ≤ expected → expected ≤ next_number first books
    → IsCounted first number pending sents books wanted
    → IsCounted first expected (if number == expected then pending else []) sents books wanted
counted_resumed first number expected pending sents books wanted from next is = by (eqb_tells number expected) where
  none : (x : ℕ) → IsAmong x [] → ⊥
  none x among = elim among [ ]

  by : ((eqb number expected ≡ true) × (number ≡ expected)) ⊎ ((eqb number expected ≡ false) × (number ≢ expected))
      → IsCounted first expected (if number == expected then pending else []) sents books wanted
  by (inl same) = rw same.0 (subst (λ n. IsCounted first n pending sents books wanted) same.1 is)
  by (inr other) = rw other.0 (counted_past expected [] (below (other.1)) next (λ x among. absurd (none x among))
      (λ x among has. none x among) is)
    where
      below : (number ≢ expected) → number < expected
      below ne = omega arith

-- the least number that the server may expect
abbrev pub least_next : ℕ → Place → ℕ
least_next first Unknown = first
least_next first (Free number) = number
least_next first (UnderWay sent) = sent.number

counted_next : (first number : ℕ) (pending : List ℕ) (sents : List Sent) (books : List Entry) (wanted : List ℕ)
    → IsCounted first number pending sents books wanted → number ≤ next_number first books
counted_next first number pending sents books wanted is = by is.stands where
  by : IsClear first number is.base books ⊎ IsHere first number is.all is.base books
      → number ≤ next_number first books
  by (inl clear) = clear.next
  by (inr here) = let lt = here.past in omega arith

pub counts_next : (first : ℕ) (place : Place) (aside : List ℕ) (sents : List Sent) (books : List Entry)
    (wanted : List ℕ) → IsInOrder first books → CountsAt first place aside sents books wanted
    → least_next first place ≤ next_number first books
counts_next first Unknown aside sents books wanted order is = first_next first books order
counts_next first (Free number) aside sents books wanted order is =
    counted_next first number aside sents books wanted is
counts_next first (UnderWay sent) aside sents books wanted order is =
    counted_next first sent.number (sent.request ∷ aside) sents books wanted is

-- the server answers a copy
clear_served : (first number : ℕ) (all base : List ℕ) (books : List Entry) (sent : Sent) (answer : Answer)
    (after : List Entry) → IsClear first number base books → IsOlder number all sent
    → Answers first books sent answer after
    → IsClear first number base after ⊎ IsHere first number all base after
clear_served first number all base books sent answer after clear old (inl earlier) =
    inl (subst (IsClear first number base) (sym earlier.unchanged) clear)
clear_served first number all base books sent (accepts reply) after clear (inl lt) (inr (inl new)) =
    let a = clear.next in
    let b = new.next in absurd (omega arith)
clear_served first number all base books sent (accepts reply) after clear (inr is) (inr (inl new)) =
    let e = ap (next_number first) new.done in
    let n = is.0 in
    inr (record {
      request = sent.request;
      past = omega arith;
      own = ap own_requests new.done ∙ ap (λ b. sent.request ∷ b) clear.own;
      among = is.1;
      has = subst (λ b. HasEntry b number sent.request) (sym new.done) (inl (is.0, refl));
    })
clear_served first number all base books sent (accepts reply) after clear old (inr (inr again)) =
    inl (subst (IsClear first number base) (sym again.same) clear)
clear_served first number all base books sent (refuses code expected) after clear old (inr refused) =
    inl (subst (IsClear first number base) (sym refused.same) clear)

here_served : (first number : ℕ) (all base : List ℕ) (books : List Entry) (sent : Sent) (answer : Answer)
    (after : List Entry) → IsHere first number all base books → IsOlder number all sent
    → Answers first books sent answer after → IsHere first number all base after
here_served first number all base books sent answer after here old (inl earlier) =
    subst (IsHere first number all base) (sym earlier.unchanged) here
here_served first number all base books sent (accepts reply) after here (inl lt) (inr (inl new)) =
    let a = here.past in
    let b = new.next in absurd (omega arith)
here_served first number all base books sent (accepts reply) after here (inr is) (inr (inl new)) =
    let a = here.past in
    let b = new.next in
    let c = is.0 in absurd (omega arith)
here_served first number all base books sent (accepts reply) after here old (inr (inr again)) =
    subst (IsHere first number all base) (sym again.same) here
here_served first number all base books sent (refuses code expected) after here old (inr refused) =
    subst (IsHere first number all base) (sym refused.same) here

stands_answered : (first number : ℕ) (all base : List ℕ) (books : List Entry) (sent : Sent) (answer : Answer)
    (after : List Entry) → IsClear first number base books ⊎ IsHere first number all base books
    → IsOlder number all sent → Answers first books sent answer after
    → IsClear first number base after ⊎ IsHere first number all base after
stands_answered first number all base books sent answer after (inl clear) old answered =
    clear_served first number all base books sent answer after clear old answered
stands_answered first number all base books sent answer after (inr here) old answered =
    inr (here_served first number all base books sent answer after here old answered)

counted_served : (first number : ℕ) (pending : List ℕ) (sents : List Sent) (books : List Entry)
    (wanted : List ℕ) (sent : Sent) (answer : Answer) (after : List Entry)
    → IsCounted first number pending sents books wanted → IsAmong sent sents
    → Answers first books sent answer after → IsCounted first number pending sents after wanted
counted_served first number pending sents books wanted sent answer after is among answered = record {
  from = is.from;
  all = is.all;
  covers = is.covers;
  old = is.old;
  base = is.base;
  stands = stands_answered first number is.all is.base books sent answer after is.stands
      (all_at (IsOlder number is.all) sent sents is.old among) answered;
  fits = is.fits;
  more = is.more;
}

pub counts_served : (first : ℕ) (place : Place) (aside : List ℕ) (sents : List Sent) (books : List Entry)
    (wanted : List ℕ) (sent : Sent) (answer : Answer) (after : List Entry)
    → CountsAt first place aside sents books wanted → IsAmong sent sents → Answers first books sent answer after
    → CountsAt first place aside sents after wanted
counts_served first Unknown aside sents books wanted sent answer after is among answered =
    let none : IsAmong sent [] = subst (IsAmong sent) is.none_sent among in elim none [ ]
counts_served first (Free number) aside sents books wanted sent answer after is among answered =
    counted_served first number aside sents books wanted sent answer after is among answered
counts_served first (UnderWay under) aside sents books wanted sent answer after is among answered =
    counted_served first under.number (under.request ∷ aside) sents books wanted sent answer after is among answered

-- somebody else's request is done
own_taken : (entry : Entry) (books : List Entry) → entry.own ≡ false
    → own_requests (entry ∷ books) ≡ own_requests books
own_taken entry books other = rw other refl

stands_taken : (first number : ℕ) (all base : List ℕ) (books : List Entry) (entry : Entry)
    → IsTaken first books entry → IsClear first number base books ⊎ IsHere first number all base books
    → IsClear first number base (entry ∷ books) ⊎ IsHere first number all base (entry ∷ books)
stands_taken first number all base books entry taken (inl clear) =
    let a = clear.next in
    let b = taken.next in
    inl (record { next = omega arith; own = own_taken entry books taken.own ∙ clear.own })
stands_taken first number all base books entry taken (inr here) =
    let a = here.past in
    let b = taken.next in
    inr (record {
      request = here.request;
      past = omega arith;
      own = own_taken entry books taken.own ∙ here.own;
      among = here.among;
      has = inr here.has;
    })

counted_taken : (first number : ℕ) (pending : List ℕ) (sents : List Sent) (books : List Entry)
    (wanted : List ℕ) (entry : Entry) → IsTaken first books entry
    → IsCounted first number pending sents books wanted
    → IsCounted first number pending sents (entry ∷ books) wanted
counted_taken first number pending sents books wanted entry taken is = record {
  from = is.from;
  all = is.all;
  covers = is.covers;
  old = is.old;
  base = is.base;
  stands = stands_taken first number is.all is.base books entry taken is.stands;
  fits = is.fits;
  more = is.more;
}

pub counts_taken : (first : ℕ) (place : Place) (aside : List ℕ) (sents : List Sent) (books : List Entry)
    (wanted : List ℕ) (entry : Entry) → IsTaken first books entry
    → CountsAt first place aside sents books wanted → CountsAt first place aside sents (entry ∷ books) wanted
counts_taken first Unknown aside sents books wanted entry taken is = record {
  none_aside = is.none_aside;
  none_sent = is.none_sent;
  none_own = own_taken entry books taken.own ∙ is.none_own;
}
counts_taken first (Free number) aside sents books wanted entry taken is =
    counted_taken first number aside sents books wanted entry taken is
counts_taken first (UnderWay under) aside sents books wanted entry taken is =
    counted_taken first under.number (under.request ∷ aside) sents books wanted entry taken is

-- the server said which number comes next
pub counted_first : (first expected : ℕ) (aside : List ℕ) (sents : List Sent) (books : List Entry)
    (wanted : List ℕ) → first ≤ expected → expected ≤ next_number first books → IsUnsent aside sents books
    → IsCounted first expected aside sents books wanted
counted_first first expected aside sents books wanted from le is = record {
  from = from;
  all = [];
  covers = λ x among. subst (IsAmong x) is.none_aside among;
  old = subst (AllByRecursion _) (sym is.none_sent) tt;
  base = [];
  stands = inl (record { next = le; own = is.none_own });
  fits = λ x. omega arith;
  more = λ x among. elim among [ ];
}

-- those aside are those of before, and the one that is kept
drop_among : (x k : ℕ) (xs : List ℕ) → IsAmong x (drop k xs) → IsAmong x xs
drop_among x zero xs among = among
drop_among x (suc k) [] among = among
drop_among x (suc k) (y ∷ ys) among = inr (drop_among x k ys among)

test_among : (x y : ℕ) (ys : List ℕ) (b : Bool) → IsAmong x (cond b (y ∷ ys) ys) → IsAmong x (y ∷ ys)
test_among x y ys true among = among
test_among x y ys false among = inr among

among_rest : (x y : ℕ) (zs ys : List ℕ) → (IsAmong x zs → IsAmong x ys) → IsAmong x (y ∷ zs) → IsAmong x (y ∷ ys)
among_rest x y zs ys more (inl e) = inl e
among_rest x y zs ys more (inr among) = inr (more among)

filter_among : (x : ℕ) (test : ℕ → Bool) (xs : List ℕ) → IsAmong x (filter test xs) → IsAmong x xs
filter_among x test [] among = among
filter_among x test (y ∷ ys) among = among_rest x y (filter test ys) ys (λ rest. filter_among x test ys rest)
    (test_among x y (filter test ys) (test y) among)

last_among : (x y : ℕ) (xs : List ℕ) → IsAmong x (xs ++ y ∷ []) → (x ≡ y) ⊎ IsAmong x xs
last_among x y [] (inl e) = inl e
last_among x y [] (inr among) = elim among [ ]
last_among x y (z ∷ zs) (inl e) = inr (inl e)
last_among x y (z ∷ zs) (inr among) = among_last (last_among x y zs among) where
  among_last : (x ≡ y) ⊎ IsAmong x zs → (x ≡ y) ⊎ IsAmong x (z ∷ zs)
  among_last (inl e) = inl e
  among_last (inr among) = inr (inr among)

pub aside_among : (request x : ℕ) (aside : List ℕ) → IsAmong x (aside_with request aside)
    → IsAmong x (request ∷ aside)
aside_among request x aside among = among_of (last_among x request _ among) where
  among_of : (x ≡ request) ⊎ IsAmong x (newest_of (filter (λ kept. not (kept == request)) aside))
      → IsAmong x (request ∷ aside)
  among_of (inl e) = inl e
  among_of (inr among) = inr (filter_among x (λ kept. not (kept == request)) aside
      (drop_among x _ (filter (λ kept. not (kept == request)) aside) among))

-- what was done was wanted as often
pub counted_once : (first number : ℕ) (pending : List ℕ) (sents : List Sent) (books : List Entry)
    (wanted : List ℕ) → IsCounted first number pending sents books wanted
    → (x : ℕ) → times x (own_requests books) ≤ times x wanted
counted_once first number pending sents books wanted is x =
    rw (own_base first number is.all is.base books is.stands)
    (fits_after first number is.all is.base books wanted is.stands is.fits is.more x)

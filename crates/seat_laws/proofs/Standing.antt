-- How the seat's next number, what is pending, the log and the books stand to each other.
use Rattle.std.proofs.Common.{Some, ◌≡◌, ◌⊎◌, ◌∙◌, ℕ, ◌+◌, ◌<◌, ◌≤◌, Bool, true, false, List, [], ◌∷◌}
use Rattle.std.proofs.Common.{refl, sym, ap, subst, inl, inr, arith}
use Rattle.std.proofs.lemmas.Bool.{eq-eqb, ne_eqb}
use Rattle.std.specs.Prelude.{◌==◌}
use Rattle.std.specs.List.{AllByRecursion}
use Rattle.seat_core.specs.declared.request.Sent.{Sent}
use Rattle.seat_core.specs.Steps.{number_after}
use Rattle.seat_laws.specs.Served.{Answer, Answers, Entry, HasNumber, IsInOrder, accepts}
use Rattle.seat_laws.specs.Served.{entry_of, next_number, refuses}
use Rattle.seat_laws.specs.Runs.{IsAmong}
use Rattle.seat_laws.specs.Concludes.{with_entry, with_reply}
use Rattle.std.proofs.lemmas.List.Elements.{All-from_recursion, recursion_from_All, All-weaker}
use Rattle.seat_laws.proofs.Among.{all_at}

-- the number is the next one, and the log has what was accepted
pub record IsAhead (first number : ℕ) (done books : List Entry) : Type 0 where
  pub next : number ≡ next_number first books
  pub logged : books ≡ done

-- the number was accepted, with what is pending, and the log has it or not
pub record IsBehind (number : ℕ) (pending : List ℕ) (done books : List Entry) : Type 0 where
  pub newest : Entry
  pub older : List Entry
  pub are : books ≡ newest ∷ older
  pub is : newest.number ≡ number
  pub among : IsAmong newest.request pending
  pub logged : (older ≡ done) ⊎ (books ≡ done)

-- a copy has an older number, or is of what is pending
abbrev pub IsOld : ℕ → List ℕ → Sent → Type 0
IsOld number pending sent = (sent.number < number)
    ⊎ ((sent.number ≡ number) × IsAmong sent.request pending)

pub record IsStanding (first number : ℕ) (pending : List ℕ) (done : List Entry) (sents : List Sent)
    (books : List Entry) : Type 0 where
  pub stands : IsAhead first number done books ⊎ IsBehind number pending done books
  pub old : AllByRecursion (IsOld number pending) sents

old_more : (number : ℕ) (pending others : List ℕ)
    → ((x : ℕ) → IsAmong x pending → IsAmong x others) → (sent : Sent)
    → IsOld number pending sent → IsOld number others sent
old_more number pending others more sent (inl lt) = inl lt
old_more number pending others more sent (inr old) = inr (old.0, more sent.request old.1)

stands_more : (first number : ℕ) (pending others : List ℕ) (done books : List Entry)
    → ((x : ℕ) → IsAmong x pending → IsAmong x others)
    → IsAhead first number done books ⊎ IsBehind number pending done books
    → IsAhead first number done books ⊎ IsBehind number others done books
stands_more first number pending others done books more (inl ahead) = inl ahead
stands_more first number pending others done books more (inr behind) = inr (record {
  newest = behind.newest;
  older = behind.older;
  are = behind.are;
  is = behind.is;
  among = more behind.newest.request behind.among;
  logged = behind.logged;
})

-- more is pending
pub more_pending : {first number : ℕ} {pending : List ℕ} {done : List Entry} {sents : List Sent}
    {books : List Entry} → (others : List ℕ) → ((x : ℕ) → IsAmong x pending → IsAmong x others)
    → IsStanding first number pending done sents books → IsStanding first number others done sents books
more_pending {first} {number} {pending} {done} {sents} {books} others more standing = record {
  stands = stands_more first number pending others done books more standing.stands;
  old = recursion_from_All _ _
      (All-weaker _ _ (old_more number pending others more) _ (All-from_recursion _ sents standing.old));
}

-- what is pending is sent
pub one_sent : {first number : ℕ} {pending : List ℕ} {done : List Entry} {sents : List Sent}
    {books : List Entry} → (request : ℕ) → IsAmong request pending
    → IsStanding first number pending done sents books
    → IsStanding first number pending done (record { number = number; request = request } ∷ sents) books
one_sent request among standing = record {
  stands = standing.stands;
  old = (inr (refl, among), standing.old);
}

-- where the newest has this number, the next one is the one after
next_after : (first number : ℕ) (books : List Entry) → HasNumber books number
    → next_number first books ≡ number + 1
next_after first number books has =
    let e = ap (next_number first) has.are in
    let i = has.is in omega arith

-- no number of the books is before the first
pub first_next : (first : ℕ) (books : List Entry) → IsInOrder first books → first ≤ next_number first books
first_next first [] order = omega arith
first_next first (entry ∷ books) order =
    let le = first_next first books order.2 in
    let e = order.0 in omega arith

pub first_standing : (first number : ℕ) (pending : List ℕ) (done books : List Entry) → IsInOrder first books
    → IsAhead first number done books ⊎ IsBehind number pending done books → first ≤ number
first_standing first number pending done books order (inl ahead) =
    let le = first_next first books order in
    let e = ahead.next in omega arith
first_standing first number pending done books order (inr behind) =
    let o : IsInOrder first (behind.newest ∷ behind.older) = subst (IsInOrder first) behind.are order in
    let le = first_next first behind.older o.2 in
    let e = o.0 in
    let n = behind.is in omega arith

pub first_has : (first number : ℕ) (books : List Entry) → IsInOrder first books → HasNumber books number
    → first ≤ number
first_has first number books order has =
    let o : IsInOrder first (has.newest ∷ has.older) = subst (IsInOrder first) has.are order in
    let le = first_next first has.older o.2 in
    let e = o.0 in
    let n = has.is in omega arith

-- a copy of an older number, or of this one, changes nothing then
pub settled : (first number : ℕ) (pending : List ℕ) (books : List Entry) (sent : Sent) (answer : Answer)
    (after : List Entry) → HasNumber books number → IsOld number pending sent
    → Answers first books sent answer after → after ≡ books
settled first number pending books sent answer after has old (inl earlier) = earlier.unchanged
settled first number pending books sent (accepts reply) after has (inl lt) (inr (inl done)) =
    let e = next_after first number books has in
    let n = done.next in absurd (omega arith)
settled first number pending books sent (accepts reply) after has (inr old) (inr (inl done)) =
    let e = next_after first number books has in
    let n = done.next in
    let o = old.0 in absurd (omega arith)
settled first number pending books sent (accepts reply) after has old (inr (inr again)) = again.same
settled first number pending books sent (refuses code expected) after has old (inr refused) = refused.same

has_number : {number : ℕ} {pending : List ℕ} {done books : List Entry} → IsBehind number pending done books
    → HasNumber books number
has_number behind = record {
  newest = behind.newest;
  older = behind.older;
  are = behind.are;
  is = behind.is;
}

-- a copy is done: it is of what is pending
now_done : (first number : ℕ) (pending : List ℕ) (done books : List Entry) (sent : Sent) (reply : ℕ)
    (after : List Entry) → IsAhead first number done books → sent.number ≡ next_number first books
    → after ≡ entry_of sent reply ∷ books → IsOld number pending sent
    → IsBehind number pending done after
now_done first number pending done books sent reply after ahead next is (inl lt) =
    let e = ahead.next in absurd (omega arith)
now_done first number pending done books sent reply after ahead next is (inr old) = record {
  newest = entry_of sent reply;
  older = books;
  are = is;
  is = old.0;
  among = old.1;
  logged = inl ahead.logged;
}

stands_served : (first number : ℕ) (pending : List ℕ) (done books : List Entry) (sent : Sent)
    (answer : Answer) (after : List Entry)
    → IsAhead first number done books ⊎ IsBehind number pending done books
    → IsOld number pending sent → Answers first books sent answer after
    → IsAhead first number done after ⊎ IsBehind number pending done after
stands_served first number pending done books sent answer after (inl ahead) old (inl earlier) =
    inl (subst (IsAhead first number done) (sym earlier.unchanged) ahead)
stands_served first number pending done books sent (accepts reply) after (inl ahead) old (inr (inl new)) =
    inr (now_done first number pending done books sent reply after ahead new.next new.done old)
stands_served first number pending done books sent (accepts reply) after (inl ahead) old (inr (inr again)) =
    inl (subst (IsAhead first number done) (sym again.same) ahead)
stands_served first number pending done books sent (refuses code expected) after (inl ahead) old (inr refused) =
    inl (subst (IsAhead first number done) (sym refused.same) ahead)
stands_served first number pending done books sent answer after (inr behind) old answered =
    inr (subst (IsBehind number pending done)
    (sym (settled first number pending books sent answer after (has_number behind) old answered)) behind)

-- the server answers a copy
pub served : (first number : ℕ) (pending : List ℕ) (done : List Entry) (sents : List Sent)
    (books : List Entry) (sent : Sent) (answer : Answer) (after : List Entry)
    → IsStanding first number pending done sents books → IsAmong sent sents
    → Answers first books sent answer after → IsStanding first number pending done sents after
served first number pending done sents books sent answer after standing among answered = record {
  stands = stands_served first number pending done books sent answer after standing.stands
      (all_at (IsOld number pending) sent sents standing.old among) answered;
  old = standing.old;
}

-- all are copies of the station's
abbrev pub IsOwn : List Entry → Type 0
IsOwn [] = Unit {0}
IsOwn (entry ∷ books) = (entry.own ≡ true) × IsOwn books

entry_parts : (number request reply : ℕ) (own : Bool) (sent : Sent) (is : ℕ) → number ≡ sent.number
    → request ≡ sent.request → reply ≡ is → own ≡ true
    → ◌≡◌ {A = Entry} (record { number = number; request = request; reply = reply; own = own }) (entry_of sent is)
entry_parts number request reply own sent is a b c d = cc

entry_same : (entry : Entry) (sent : Sent) (reply : ℕ) → entry.number ≡ sent.number → entry.request ≡ sent.request
    → entry.reply ≡ reply → entry.own ≡ true → entry ≡ entry_of sent reply
entry_same entry sent reply number request is own =
    entry_parts entry.number entry.request entry.reply entry.own sent reply number request is own

-- the newest of them, by what it is
pub newest_same : (books : List Entry) (newest : Entry) (older : List Entry) (sent : Sent) (reply : ℕ)
    → IsOwn books → books ≡ newest ∷ older → newest.number ≡ sent.number → newest.request ≡ sent.request
    → newest.reply ≡ reply → books ≡ entry_of sent reply ∷ older
newest_same books newest older sent reply own are number request is =
    let all : IsOwn (newest ∷ older) = subst IsOwn are own in
    let e = entry_same newest sent reply number request is all.0 in
    are ∙ ap (λ n. n ∷ older) e

pub own_after : (first : ℕ) (books : List Entry) (sent : Sent) (answer : Answer) (after : List Entry)
    → Answers first books sent answer after → IsOwn books → IsOwn after
own_after first books sent answer after (inl earlier) own = subst IsOwn (sym earlier.unchanged) own
own_after first books sent (accepts reply) after (inr (inl new)) own = subst IsOwn (sym new.done) (refl, own)
own_after first books sent (accepts reply) after (inr (inr again)) own = subst IsOwn (sym again.same) own
own_after first books sent (refuses code expected) after (inr refused) own = subst IsOwn (sym refused.same) own

pub in_order : (first : ℕ) (books : List Entry) (sent : Sent) (answer : Answer) (after : List Entry)
    → Answers first books sent answer after → IsInOrder first books → IsInOrder first after
in_order first books sent answer after (inl earlier) order = subst (IsInOrder first) (sym earlier.unchanged) order
in_order first books sent (accepts reply) after (inr (inl new)) order =
    subst (IsInOrder first) (sym new.done) (new.next, new.number, order)
in_order first books sent (accepts reply) after (inr (inr again)) order =
    subst (IsInOrder first) (sym again.same) order
in_order first books sent (refuses code expected) after (inr refused) order =
    subst (IsInOrder first) (sym refused.same) order

-- the newest is not in the log, or it is
with_newest : (first : ℕ) (newest : Entry) (older : List Entry) → IsInOrder first (newest ∷ older)
    → with_entry newest older ≡ newest ∷ older
with_newest first newest [] order = refl
with_newest first newest (entry ∷ older) order =
    let n = order.0 in
    let t : (entry.number == newest.number) ≡ false = ne_eqb entry.number newest.number (λ e. omega arith) in
    rw t refl

with_same : (newest : Entry) (older : List Entry) → with_entry newest (newest ∷ older) ≡ newest ∷ older
with_same newest older =
    rw (
      eq-eqb newest.number newest.number refl,
      eq-eqb newest.request newest.request refl,
      eq-eqb newest.reply newest.reply refl,
    ) refl

-- a line of the reply to a request, with its number
pub with_own : (number : ℕ) (sent : Sent) (reply : ℕ) (done : List Entry) → sent.number ≡ number
    → with_reply number (Some sent) reply done ≡ with_entry (entry_of sent reply) done
with_own number sent reply done is =
    let t : (sent.number == number) ≡ true = eq-eqb sent.number number is in rw t refl

with_logged : (first : ℕ) (newest : Entry) (older done : List Entry) → IsInOrder first (newest ∷ older)
    → (older ≡ done) ⊎ ((newest ∷ older) ≡ done) → (newest ∷ older) ≡ with_entry newest done
with_logged first newest older done order (inl e) =
    subst (λ d. (newest ∷ older) ≡ with_entry newest d) e (sym (with_newest first newest older order))
with_logged first newest older done order (inr e) =
    subst (λ d. (newest ∷ older) ≡ with_entry newest d) e (sym (with_same newest older))

logged_of : (first number : ℕ) (pending : List ℕ) (done books : List Entry) (newest : Entry)
    (older : List Entry) → IsAhead first number done books ⊎ IsBehind number pending done books
    → books ≡ newest ∷ older → newest.number ≡ number → (older ≡ done) ⊎ ((newest ∷ older) ≡ done)
logged_of first number pending done books newest older (inl ahead) are is =
    let e = ap (next_number first) are in
    let n = ahead.next in absurd (omega arith)
logged_of first number pending done books newest older (inr behind) are is =
    logs behind.logged where
      logs : (behind.older ≡ done) ⊎ (books ≡ done) → (older ≡ done) ⊎ ((newest ∷ older) ≡ done)
      logs (inl e) = let a = behind.are in inl (cc)
      logs (inr e) = inr (sym are ∙ e)

-- the log's line of the reply makes the log the books
pub now_logged : (first number : ℕ) (pending : List ℕ) (done : List Entry) (sents : List Sent)
    (books : List Entry) (sent : Sent) (reply : ℕ) (older : List Entry) → IsInOrder first books
    → IsStanding first number pending done sents books → books ≡ entry_of sent reply ∷ older
    → sent.number ≡ number → books ≡ with_entry (entry_of sent reply) done
now_logged first number pending done sents books sent reply older order standing are is =
    are ∙ with_logged first (entry_of sent reply) older done (subst (IsInOrder first) are order)
    (logged_of first number pending done books (entry_of sent reply) older standing.stands are is)

-- the file is behind the log
pub still_standing : {first number : ℕ} {pending : List ℕ} {done : List Entry} {sents : List Sent}
    {books : List Entry} → (newest : Entry) (older : List Entry) → books ≡ newest ∷ older
    → newest.number ≡ number → IsAmong newest.request pending → (now : List Entry) → books ≡ now
    → IsStanding first number pending done sents books → IsStanding first number pending now sents books
still_standing newest older are is among now logged standing = record {
  stands = inr (record {
    newest = newest;
    older = older;
    are = are;
    is = is;
    among = among;
    logged = inr logged;
  });
  old = standing.old;
}

old_after : (number : ℕ) (pending others : List ℕ) (sent : Sent) → IsOld number pending sent
    → IsOld (number + 1) others sent
old_after number pending others sent (inl lt) = inl (omega arith)
old_after number pending others sent (inr old) = let e = old.0 in inl (omega arith)

pub after_number : (first : ℕ) (books : List Entry) (newest : Entry) (older : List Entry) → IsInOrder first books
    → books ≡ newest ∷ older → number_after newest.number ≡ newest.number + 1
after_number first books newest older order are =
    let o : IsInOrder first (newest ∷ older) = subst (IsInOrder first) are order in rw o.1 refl

-- the file has the number after
pub now_ahead : {first number : ℕ} {pending : List ℕ} {done : List Entry} {sents : List Sent}
    {books : List Entry} → (others : List ℕ) (newest : Entry) (older : List Entry) → IsInOrder first books
    → books ≡ newest ∷ older → newest.number ≡ number → (now : List Entry) → books ≡ now
    → IsStanding first number pending done sents books
    → IsStanding first (number_after number) others now sents books
now_ahead {first} {number} {pending} {done} {sents} {books} others newest older order are is now logged standing =
    let a : number_after number ≡ number + 1 = subst (λ n. number_after n ≡ n + 1) is
    (after_number first books newest older order are) in
    rw a (record {
      stands = inl (record {
        next = (let e = ap (next_number first) are in omega arith);
        logged = logged;
      });
      old = recursion_from_All _ _
          (All-weaker _ _ (old_after number pending others) _ (All-from_recursion _ sents standing.old));
    })

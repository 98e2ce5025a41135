-- A judgement that is carried out, with its reply kept.
use Rattle.std.proofs.Common.{◌≡◌, ◌≤◌, ◌+◌, ◌⊎◌, inl, inr, ℕ, List, [], ◌∷◌, ◌++◌, length, Some, sym, ◌∙◌, ap, subst, IfOk, MatchResult, Result, Ok, Err}
use Rattle.std.proofs.Common.{string_bytes, arith, length-append}
use Rattle.text_core.specs.Prelude.{first_that_holds}
use Rattle.http_replies.specs.Prelude.{Answer, answer_of}
use Rattle.http_replies.specs.declared.Reply.{Reply}
use Rattle.site_core.specs.Prelude.{Section}
use Rattle.office_tables.specs.declared.rows.OfCustomer.{OfCustomer}
use Rattle.office_tables.specs.declared.rows.SeatState.{SeatState}
use Rattle.office_tables.specs.declared.rows.Write.TheVariants.{PutSeat}
use Rattle.office_tables.specs.Prelude.{Tables, Written, with_seat}
use Rattle.office_tables.specs.declared.keep.Keep.{Ghosts}
use Rattle.office_tables.specs.declared.unkept.Unkept.{Unkept}
use Rattle.office_tables.proofs.Writing.{Written_last}
use Rattle.office_commands.specs.declared.command.Request.{Request}
use Rattle.office_commands.specs.Prelude.{acceptance, refusal}
use Rattle.office_commands.specs.declared.refusal.Refusal.{Refusal}
use Rattle.office_commands.specs.declared.command.Change.{Change}
use Rattle.office_commands.specs.declared.command.Command.TheVariants.{Show}
use Rattle.office_commands.specs.declared.command.Show.{Show as Showing}
use Rattle.office_judges.specs.declared.judgement.Accepted.{Accepted}
use Rattle.office_judges.specs.Prelude.{IsJudged}
use Rattle.office_rules.specs.Prelude.{seat_put, reply_only, response, show_reply, office_sight, refusals, seat_row_after, kept_of, Performs, Step}
use Rattle.office_rules.proofs.Fulfilled.{last_put, puts_made}
use Rattle.office_core.specs.Prelude.{CommitsReply, IsLastCall, PutsSome, new_response}

-- the row of a seat whose request has this number and this reply
abbrev row_with : List ℕ → List ℕ → Request → ℕ → List ℕ → OfCustomer SeatState
row_with customer seat r number reply = record {
  customer = customer;
  row = record { name = seat; last = number; digest = r.digest; reply = reply };
}

-- the writes of a judgement with the seat's row behind them commit its reply
pub commits_reply : (customer seat : List ℕ) (r : Request) (judged : Accepted) (number : ℕ)
    (reply : List ℕ) (t t2 : Tables) → number ≡ r.number → reply ≡ string_bytes judged.body
    → Written (judged.writes.items ++ PutSeat (row_with customer seat r number reply) ∷ []) t t2
    → CommitsReply customer seat r judged t t2
commits_reply customer seat r judged number reply t t2 is said all =
    let last = Written_last judged.writes.items
    (PutSeat (row_with customer seat r number reply)) t t2 all in
    (last.0, last.1, last.2 ∙ (λ i. with_seat (row_with customer seat r (is i) (said i)) last.0))

-- what is accepted is what the machine responds where nothing refuses
pub decides : (s : Section) (seat : List ℕ) (r : Request) (t : Tables) (c : Change) (a : Accepted)
    (t2 : Tables) → IsJudged s seat t c (Ok a) → CommitsReply s.name seat r a t t2
    → Performs s (new_response s seat r c t) t (acceptance (string_bytes a.body)) t2
decides s seat r t c a t2 (free, (can, made, is, body, writes)) (mid, written, last) =
    let row : SeatState = kept_of seat r made.body in (
      made.puts ++ seat_put row ∷ [],
      rw (free, is) (λ i. Some (record {
        reply = acceptance (body i);
        puts = made.puts ++ seat_put row ∷ [];
      })),
      last_put s made.puts (seat_put row) t mid t2
          (puts_made s t made.puts a.writes.items mid writes written)
          (last ∙ ap (λ b. with_seat (seat_row_after s.name seat r b) mid) (sym body)),
    )

-- what is refused
pub refuses : (s : Section) (seat : List ℕ) (r : Request) (t : Tables) (c : Change)
    (reason : Refusal) (reply : Answer) (t2 : Tables)
    → first_that_holds (refusals s (office_sight s seat t) c) ≡ Some reason → reply ≡ refusal reason → t2 ≡ t
    → Performs s (new_response s seat r c t) t reply t2
refuses s seat r t c reason reply t2 ruled said same =
    ([], rw ruled (λ i. Some (record { reply = sym said i; puts = [] })), same)

-- a reply that changes nothing
pub replies : (s : Section) (said reply : Answer) (t t2 : Tables) → reply ≡ said → t2 ≡ t
    → Performs s (Some (reply_only said)) t reply t2
replies s said reply t t2 is same =
    ([], (λ i. Some (record { reply = sym is i; puts = [] })), same)

-- a step of a seat by other names
pub of_caller : {s s2 : Section} {seat seat2 : List ℕ} (t t2 : Tables) (r : Request)
    (reply : Answer) → s ≡ s2 → seat ≡ seat2 → Step s seat t r reply t2
    → Step s2 seat2 t r reply t2
of_caller {s} {s2} {seat} {seat2} t t2 r reply is same step =
    subst (λ (name : List ℕ). Step s2 name t r reply t2) same
    (subst (λ (c : Section). Step c seat t r reply t2) is step)

-- what is shown
pub shows : (s : Section) (seat : List ℕ) (t t2 : Tables) (r : Request) (asked : Showing)
    (result : Result Reply Unkept) → r.command ≡ Show asked → t2 ≡ t
    → IfOk result (λ reply. (seat : List ℕ)
    → answer_of reply ≡ show_reply (office_sight s seat t) asked)
    → MatchResult result (λ reply. Step s seat t r (answer_of reply) t2) (λ _. t2 ≡ t)
shows s seat t t2 r asked (Ok reply) command same said =
    rw command (replies s (show_reply (office_sight s seat t) asked) (answer_of reply) t t2
    (said seat) same)
shows s seat t t2 r asked (Err e) command same said = same

-- what is replied where it is carried out, or the tables as they were
pub carries_out : (s : Section) (seat : List ℕ) (r : Request) (c : Change) (a : Accepted)
    (t mid t2 : Tables) (name : List ℕ) (result : Result Reply Unkept)
    → IsJudged s seat t c (Ok a) → name ≡ s.name → mid ≡ t
    → MatchResult result (λ reply. CommitsReply name seat r a mid t2
    × (answer_of reply ≡ acceptance (string_bytes a.body))) (λ _. t2 ≡ mid)
    → MatchResult result (λ reply. Performs s
    (new_response s seat r c t) t (answer_of reply) t2) (λ _. t2 ≡ t)
carries_out s seat r c a t mid t2 name (Ok reply) ruled is same (made, said) =
    let commits_reply : CommitsReply s.name seat r a t t2 =
    subst (λ (n : List ℕ). CommitsReply n seat r a t t2) is
    (subst (λ (m : Tables). CommitsReply name seat r a m t2) same made) in
    subst (λ (answer : Answer). Performs s (new_response s seat r c t) t answer t2) (sym said)
    (decides s seat r t c a t2 ruled commits_reply)
carries_out s seat r c a t mid t2 name (Err e) ruled is same made = made ∙ same

pub or_then : {A B C : Type 0} → A ⊎ B → (B → C) → A ⊎ C
or_then (inl a) f = inl a
or_then (inr b) f = inr (f b)

-- what is accepted puts something into the books
pub decides_puts : (s : Section) (seat : List ℕ) (r : Request) (t : Tables) (c : Change)
    (a : Accepted) → IsJudged s seat t c (Ok a)
    → PutsSome (new_response s seat r c t)
decides_puts s seat r t c a (free, (can, made, is, body, writes)) =
    let enough : 1 ≤ length (made.puts ++ seat_put (kept_of seat r made.body) ∷ []) =
    omega (arith, length-append made.puts (seat_put (kept_of seat r made.body) ∷ [])) in
    rw (free, is) enough

-- a commit behind reads
pub last_behind : {K : Type 0} (k : Ghosts K) (old mid new : K) (Puts PutsFirst : Tables → Type 0)
    → k.commits mid ≡ k.commits old → IsLastCall k mid new Puts
    → (k.is_open mid → Puts (k.tables mid) → k.is_open old × PutsFirst (k.tables old))
    → IsLastCall k old new PutsFirst
last_behind k old mid new Puts PutsFirst same (inl none) before = inl (none ∙ same)
last_behind k old mid new Puts PutsFirst same (inr made) before = inr (record {
  once = subst (λ (n : ℕ). k.commits new ≤ n + 1) same made.once;
  last = made.last;
  puts = λ honest. let put = made.puts honest in before put.0 put.1;
})

-- what a seat puts by other names
pub last_of_caller : {K : Type 0} (k : Ghosts K) {s s2 : Section} {seat seat2 : List ℕ} (old new : K)
    (r : Request) → s ≡ s2 → seat ≡ seat2
    → IsLastCall k old new (λ t. PutsSome (response s seat (office_sight s seat t) r))
    → IsLastCall k old new (λ t. PutsSome (response s2 seat2 (office_sight s2 seat2 t) r))
last_of_caller k {s} {s2} {seat} {seat2} old new r is same last =
    subst (λ (name : List ℕ). IsLastCall k old new (λ t. PutsSome (response s2 name (office_sight s2 name t) r))) same
    (subst (λ (c : Section). IsLastCall k old new (λ t. PutsSome (response c seat (office_sight c seat t) r))) is last)

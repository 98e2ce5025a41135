-- A run with stops is one run.
use Rattle.std.proofs.Common.{◌≡◌, ◌∙◌, inl, inr, true, List, [], ◌∷◌, ◌++◌, refl, ap, IfSome, MatchBool}
use Rattle.std.specs.List.{AllByRecursion}
use Rattle.http_replies.specs.Prelude.{is_unavailable}
use Rattle.text_core.proofs.MachineLemmas.{runs_both}
use Rattle.site_core.specs.Prelude.{PoolsDisjoint, Ownership, OwnershipGrows}
use Rattle.office_tables.specs.Prelude.{Tables}
use Rattle.office_commands.specs.Prelude.{refusal, unkept}
use Rattle.office_laws.specs.Prelude.{Call, Exchange, IsRun, FulfilsWanted, Passes, Wanted, asks, reports, refused, calls_of, AreSeats, IsSeat, AreSessions}
use Rattle.office_laws.specs.Prelude.{IsInDoubt, IsLeft, IsStoppedRun, Session, WasUnavailable, is_request}
use Rattle.office_laws.proofs.Grown.{growth_itself, growth_more}
use Rattle.office_laws.proofs.Served.{answers}

-- a step is an exchange of a run
step_passes : (x : Exchange) (t t2 : Tables) → is_request x.0.wanted ≡ true
    → FulfilsWanted x.0 x.0.wanted t x.1 t2 → Passes t x.0 x.1 t2
step_passes x t t2 is made = passes x.0.wanted is made
  where
    passes : (w : Wanted) → is_request w ≡ true → FulfilsWanted x.0 w t x.1 t2
        → MatchBool (is_unavailable x.1.status) ((x.1 ≡ refusal unkept) × (t2 ≡ t))
        (FulfilsWanted x.0 w t x.1 t2)
    passes (asks r) is made = answers x.0.section x.0.seat t r x.1 t2 made
    passes reports is made = cc
    passes (refused reason) is made = cc

-- what a stop leaves is a run more
left_runs : (InDoubt : Call → Type 0) (t : Tables) (more : List Exchange) (left : Tables)
    → IsLeft InDoubt t more left → IsRun more t left
left_runs InDoubt t [] left is = is
left_runs InDoubt t (x ∷ []) left is = (left, step_passes x t left is.1 is.2, refl)
left_runs InDoubt t (x ∷ y ∷ others) left is = absurd is

-- a run with stops is one run
pub stopped_runs : (ss : List Session) (all : List Exchange) (t t2 : Tables)
    → IsStoppedRun ss all t t2 → IsRun all t t2
stopped_runs [] all t t2 run = rw run.0 run.1
stopped_runs (s ∷ ss) all t t2 run =
    let later : IsRun run.5 run.3 t2 = stopped_runs ss run.5 run.3 t2 run.6 in
    rw run.7 (runs_both Passes t s.exchanges run.0 (run.2 ++ run.5) t2 run.1
    (runs_both Passes run.0 run.2 run.3 run.5 t2
    (left_runs (IsInDoubt s) run.0 run.2 run.3 run.4) later))

-- calls of a site's seats, before others
seats_joined : (site : Ownership) → PoolsDisjoint site → (cs ds : List Call) (last : Ownership)
    → AllByRecursion (IsSeat site) cs → AreSeats site ds last → AreSeats site (cs ++ ds) last
seats_joined site apart [] ds last all later = later
seats_joined site apart (c ∷ cs) ds last all later =
    (site, growth_itself site, apart, all.0, seats_joined site apart cs ds last all.1 later)

-- the seats of a site that grew from one are reached from that one
pub seats_grown : (first site : Ownership) → OwnershipGrows first site → (cs : List Call) (last : Ownership)
    → AreSeats site cs last → AreSeats first cs last
seats_grown first site growth [] last seats = growth_more first site last growth seats
seats_grown first site growth (c ∷ cs) last seats =
    (seats.0, growth_more first site seats.0 growth seats.1, seats.2, seats.3, seats.4)

-- the calls of exchanges and then others
pub calls_joined : (xs ys : List Exchange) → calls_of (xs ++ ys) ≡ calls_of xs ++ calls_of ys
calls_joined [] ys = refl
calls_joined (x ∷ xs) ys = ap (λ (cs : List Call). x.0 ∷ cs) (calls_joined xs ys)

-- what is in doubt is a call of the session
unavailable_seat : (site : Ownership) (xs : List Exchange) (c : Call)
    → AllByRecursion (IsSeat site) (calls_of xs) → WasUnavailable xs c → IsSeat site c
unavailable_seat site [] c all is = absurd is
unavailable_seat site (x ∷ xs) c all (inl here) = rw here.0 all.0
unavailable_seat site (x ∷ xs) c all (inr later) = unavailable_seat site xs c all.1 later

in_doubt_seat : (site : Ownership) (s : Session)
    → AllByRecursion (IsSeat site) (calls_of s.exchanges) → IfSome s.cut_off (IsSeat site)
    → (c : Call) → IsInDoubt s c → IsSeat site c
in_doubt_seat site s all seat c (inl cut) = rw cut at seat
in_doubt_seat site s all seat c (inr unavailable) =
    unavailable_seat site s.exchanges c all unavailable

left_seats : (site : Ownership) (InDoubt : Call → Type 0) (t : Tables) (more : List Exchange)
    (left : Tables)
    → ((c : Call) → InDoubt c → IsSeat site c) → IsLeft InDoubt t more left
    → AllByRecursion (IsSeat site) (calls_of more)
left_seats site InDoubt t [] left seat is = tt
left_seats site InDoubt t (x ∷ []) left seat is = (seat x.0 is.0, tt)
left_seats site InDoubt t (x ∷ y ∷ others) left seat is = absurd is

-- the callers of all exchanges of a run with stops are seats
pub stopped_seats : (first : Ownership) (ss : List Session) (all : List Exchange) (last : Ownership)
    (t t2 : Tables)
    → AreSessions first ss last → IsStoppedRun ss all t t2 → AreSeats first (calls_of all) last
stopped_seats first [] all last t t2 sessions run = rw run.0 sessions
stopped_seats first (s ∷ ss) all last t t2 sessions run =
    let later : AreSeats sessions.0 (calls_of run.5) last =
    stopped_seats sessions.0 ss run.5 last run.3 t2 sessions.5 run.6 in
    let joined : calls_of all ≡ calls_of s.exchanges ++ (calls_of run.2 ++ calls_of run.5) =
    ap calls_of run.7 ∙ (calls_joined s.exchanges (run.2 ++ run.5)
    ∙ ap (λ (cs : List Call). calls_of s.exchanges ++ cs) (calls_joined run.2 run.5)) in
    rw joined (seats_grown first sessions.0 sessions.1
    (calls_of s.exchanges ++ (calls_of run.2 ++ calls_of run.5)) last
    (seats_joined sessions.0 sessions.2 (calls_of s.exchanges)
    (calls_of run.2 ++ calls_of run.5) last sessions.3
    (seats_joined sessions.0 sessions.2 (calls_of run.2) (calls_of run.5) last
    (left_seats sessions.0 (IsInDoubt s) run.0 run.2 run.3
    (in_doubt_seat sessions.0 s sessions.3 sessions.4) run.4) later)))

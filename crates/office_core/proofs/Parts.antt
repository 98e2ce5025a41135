-- Parts of a run, each under its own site.
use Rattle.std.proofs.Common.{◌≡◌, ◌+◌, ◌<◌, ◌++◌, ◌∷◌, get_or, drop-cons}
use Rattle.text_core.proofs.Kit.{◌∙◌, ℕ, List, [], length, map, drop, add-one, refl, ap, zip, AllByRecursion, flat_map-append, append-nil, length-append}
use Rattle.text_core.proofs.Kit.{length-map}
use Rattle.http_replies.specs.Prelude.{answer_of}
use Rattle.http_replies.specs.declared.Reply.{Reply}
use Rattle.text_core.proofs.MachineLemmas.{runs_both}
use Rattle.site_core.specs.Prelude.{Ownership, ownership_of, IsSite}
use Rattle.site_core.proofs.Kept.{owners_grown}
use Rattle.office_tables.specs.Prelude.{Tables}
use Rattle.office_tables.specs.declared.keep.Keep.{Ghosts}
use Rattle.office_laws.specs.Prelude.{Call, Exchange, Passes, AreSeats}
use Rattle.office_laws.proofs.Grown.{growth_itself}
use Rattle.office_laws.proofs.Leaving.{leaves_joined}
use Rattle.office_laws.proofs.Seats.{IsSeatOf}
use Rattle.office_laws.proofs.Stopping.{seats_grown}
use Rattle.office_core.specs.Prelude.{Answered, AreGrown, BeginGrown, call_of, calls_in, calls_of_parts, last_owners, sites_of}
use Rattle.office_core.specs.declared.requests.Part.{Part}

-- the calls of one part more
pub parts_more : (parts : List Part) (part : Part)
    → calls_of_parts (parts ++ part ∷ [])
    ≡ calls_of_parts parts ++ calls_in part.site.now part.requests.now
parts_more parts part =
    flat_map-append (λ p. calls_in p.site.now p.requests.now) parts (part ∷ [])
    ∙ ap (λ (cs : List Call). calls_of_parts parts ++ cs) (append-nil (calls_in part.site.now part.requests.now))

-- the requests that are left before a part and after it
pub left_over : (parts : List Part) (i : ℕ) (part : Part) → i < length parts
    → part ≡ get_or parts i part
    → length (calls_of_parts (drop i parts))
    ≡ length part.requests.now + length (calls_of_parts (drop (i + 1) parts))
left_over parts i part low is =
    let first : calls_of_parts (drop i parts) ≡ calls_in part.site.now part.requests.now
    ++ calls_of_parts (drop (i + 1) parts) =
    rw (add-one, drop-cons parts i part low, ← is) refl in
    ap length first ∙ (length-append (calls_in part.site.now part.requests.now) (calls_of_parts (drop (i + 1) parts))
    ∙ ap (λ n. n + length (calls_of_parts (drop (i + 1) parts))) (length-map part.requests.now (call_of part.site.now)))

-- the exchanges of some calls and then others
pub exchanges_joined : (cs ds : List Call) (rs qs : List Reply) → length rs ≡ length cs
    → zip (cs ++ ds) (map answer_of (rs ++ qs))
    ≡ zip cs (map answer_of rs) ++ zip ds (map answer_of qs)
exchanges_joined [] ds [] qs same = refl
exchanges_joined [] ds (r ∷ rs) qs same = cc
exchanges_joined (c ∷ cs) ds [] qs same = cc
exchanges_joined (c ∷ cs) ds (r ∷ rs) qs same =
    ap (λ (xs : List Exchange). (c, answer_of r) ∷ xs) (exchanges_joined cs ds rs qs (cc))

-- what is answered after something else
pub answered_joined : {K : Type 0} (k : Ghosts K) (a b c : K) (xs ys : List Exchange)
    (t mid t2 : Tables) → (k.is_honest c → k.is_honest b)
    → Answered k a b xs t mid → Answered k b c ys mid t2 → Answered k a c (xs ++ ys) t t2
answered_joined k a b c xs ys t mid t2 was_honest one two = record {
  run = runs_both Passes t xs mid ys t2 one.run two.run;
  crash = leaves_joined xs ys (k.may_leave a) (k.may_leave b) (k.may_leave c) t mid t2 one.crash two.crash;
  text = λ honest text told. two.text honest text (one.text (was_honest honest) text told);
  stands = two.stands;
}

-- the callers of a part are seats of its site
pub record HasSeats (part : Part) : Type 0 where
  pub site : IsSite part.site.now
  pub seats : AllByRecursion (IsSeatOf (ownership_of part.site.now)) (calls_in part.site.now part.requests.now)

pub has_seats_more : (parts : List Part) (part : Part) → AllByRecursion HasSeats parts
    → HasSeats part → AllByRecursion HasSeats (parts ++ part ∷ [])
has_seats_more [] part all is = (is, tt)
has_seats_more (p ∷ ps) part all is = (all.0, has_seats_more ps part all.1 is)

-- calls of a site's seats, before others
before_others : (site : Ownership) (cs ds : List Call) (last : Ownership)
    → AllByRecursion (IsSeatOf site) cs → AreSeats site ds last → AreSeats site (cs ++ ds) last
before_others site [] ds last all later = later
before_others site (c ∷ cs) ds last all later =
    (site, growth_itself site, all.0.0, all.0.1, before_others site cs ds last all.1 later)

-- where each site grew from the one before it, the next one grew from the first
next_grown : (part : Part) (parts : List Part) → AreGrown (sites_of (part ∷ parts))
    → AllByRecursion HasSeats parts
    → AreGrown (sites_of parts) × BeginGrown (ownership_of part.site.now) (sites_of parts)
next_grown part [] grown all = (tt, tt)
next_grown part (p ∷ ps) grown all =
    (grown.1, owners_grown part.site.now p.site.now all.0.site grown.0)

-- the callers of all parts are seats of the sites as they grew
pub seats_of_parts : (first : Ownership) (parts : List Part) → AreGrown (sites_of parts)
    → AllByRecursion HasSeats parts → BeginGrown first (sites_of parts)
    → AreSeats first (calls_of_parts parts) (last_owners first (sites_of parts))
seats_of_parts first [] grown all begun = growth_itself first
seats_of_parts first (p ∷ ps) grown all begun =
    let site = ownership_of p.site.now in
    let last = last_owners site (sites_of ps) in
    let next = next_grown p ps grown all.1 in
    let calls = calls_in p.site.now p.requests.now in
    seats_grown first site begun (calls ++ calls_of_parts ps) last
    (before_others site calls (calls_of_parts ps) last all.0.seats (seats_of_parts site ps next.0 all.1 next.1))

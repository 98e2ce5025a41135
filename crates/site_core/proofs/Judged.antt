-- A site in which no fault is found is a site, and the other way round.
use Rattle.std.proofs.Common.{◌≡◌, ◌||◌, ◌∷◌, ◌++◌, if◌then◌else◌}
use Rattle.text_core.proofs.Kit.{ℕ, Bool, true, false, not, List, [], Result, Ok, Err, bytes_eq, inl, inr, refl, ap, ◌∙◌, nat_lt, length, Option, flat_map}
use Rattle.text_core.proofs.Kit.{list_any, AllByRecursion, IsErrAnd, or-true, not-false, or_from, or_parts, flat_map-append, list_any-append, cond_some}
use Rattle.id_ranges.specs.Prelude.{Pool, IsPool, is_pool}
use Rattle.id_ranges.proofs.Pools.{IsPool-from_pool_of, pool_of-from_IsPool}
use Rattle.text_core.specs.Prelude.{GivesUnless, result_map}
use Rattle.site_core.specs.Prelude.{Section, SiteValue, names_of, issuers_of, pools_of, seat_names_of, tokens_of, IsSite, pools_meet, is_over_limit}
use Rattle.site_core.specs.Prelude.{is_section_over, has_pair, has_repeat, is_bad_pool, has_bad_pool, site_or_fault}
use Rattle.site_core.specs.declared.fault.SiteFault.{SiteFault}
use Rattle.site_core.specs.declared.fault.SiteFault.TheVariants.{Repeated, PoolsMeet, BadPool, OverLimit, OutOfMemory}
use Rattle.site_core.proofs.Pairs.{IsDistinct-from_has_pair, has_pair-from_IsDistinct}

-- a pool that isn't bad
IsPool-from_good : (p : Pool) → is_bad_pool p ≡ false → IsPool p
IsPool-from_good p good =
    let is = not-false (is_pool p.first p.count) good in IsPool-from_pool_of p.first p.count p (rw is refl)

-- is a pool
good-from_IsPool : (p : Pool) → IsPool p → is_bad_pool p ≡ false
good-from_IsPool p is =
    ap not (cond_some (is_pool p.first p.count) (record { first = p.first; count = p.count }) p (pool_of-from_IsPool p is)).0

-- pools of which none is bad are pools
pub ArePools-from_good : (pools : List Pool) → list_any is_bad_pool pools ≡ false → AllByRecursion IsPool pools
ArePools-from_good [] good = tt
ArePools-from_good (p ∷ ps) good =
    let parts = or_parts (is_bad_pool p) (list_any is_bad_pool ps) good in (IsPool-from_good p parts.0, ArePools-from_good ps parts.1)

pub good-from_ArePools : (pools : List Pool) → AllByRecursion IsPool pools → list_any is_bad_pool pools ≡ false
good-from_ArePools [] are = refl
good-from_ArePools (p ∷ ps) are = or_from (is_bad_pool p) (list_any is_bad_pool ps) (good-from_IsPool p are.0) (good-from_ArePools ps are.1)

-- none of four
pub none_of : (a b c d : Bool) → (a || b || c || d) ≡ false → (a ≡ false) × (b ≡ false) × (c ≡ false) × (d ≡ false)
none_of a b c d none =
    let all = or_parts (a || b || c) d none in
    let three = or_parts (a || b) c all.0 in
    let two = or_parts a b three.0 in
    (two.0, two.1, three.1, all.1)

-- a site in which no fault is found
pub IsSite-from_faultless : (site : SiteValue) → has_repeat site ≡ false → has_pair pools_meet (pools_of site) ≡ false → has_bad_pool site.customers ≡ false
    → is_over_limit site ≡ false → IsSite site
IsSite-from_faultless site once apart good within =
    let kinds =
    none_of (has_pair bytes_eq (names_of site)) (has_pair bytes_eq (issuers_of site)) (has_pair bytes_eq (seat_names_of site))
    (has_pair bytes_eq (tokens_of site)) once in
    record {
      names = IsDistinct-from_has_pair bytes_eq (names_of site) kinds.0;
      issuers = IsDistinct-from_has_pair bytes_eq (issuers_of site) kinds.1;
      seats = IsDistinct-from_has_pair bytes_eq (seat_names_of site) kinds.2;
      tokens = IsDistinct-from_has_pair bytes_eq (tokens_of site) kinds.3;
      apart = IsDistinct-from_has_pair pools_meet (pools_of site) apart;
      pools = ArePools-from_good (pools_of site) good;
      within = within;
    }

-- a customer with a bad pool, among others
has_bad_pool-at : (before after : List Section) (s : Section) → list_any is_bad_pool s.pools ≡ true → has_bad_pool (before ++ s ∷ after) ≡ true
has_bad_pool-at before after s bad =
    rw (flat_map-append (λ (c : Section). c.pools) before (s ∷ after), list_any-append is_bad_pool, list_any-append is_bad_pool, bad) (or-true _)

-- the fault of one customer is the fault of all
customers_fault : (bad : Bool) (s : Section) (others : List Section) (fault : SiteFault) → (bad ≡ true → has_bad_pool others ≡ true)
    → GivesUnless {T = Section} OutOfMemory (Err fault) (if bad then Err BadPool else Ok s)
    → GivesUnless {T = List Section} OutOfMemory (Err fault) (if has_bad_pool others then Err BadPool else Ok others)
customers_fault true s others fault all (inl e) = let same : fault ≡ BadPool = cc in rw (all refl, same) (inl refl)
customers_fault true s others fault all (inr e) = inr cc
customers_fault false s others fault all (inl e) = cc
customers_fault false s others fault all (inr e) = inr cc

-- where one of the customers has a fault, it is the fault of all
pub fault-at : (before after : List Section) (s : Section) (fault : SiteFault)
    → GivesUnless {T = Section} OutOfMemory (Err fault) (if list_any is_bad_pool s.pools then Err BadPool else Ok s)
    → GivesUnless {T = List Section} OutOfMemory (Err fault) (if has_bad_pool (before ++ s ∷ after) then Err BadPool else Ok (before ++ s ∷ after))
fault-at before after s fault answer =
    customers_fault (list_any is_bad_pool s.pools) s (before ++ s ∷ after) fault (has_bad_pool-at before after s) answer

-- customers that were made have no bad pool, and are those that were read
pub made_are_good : (bad : Bool) (made read : List Section) → GivesUnless {T = List Section} OutOfMemory (Ok made) (if bad then Err BadPool else Ok read)
    → (bad ≡ false) × (made ≡ read)
made_are_good true made read (inl e) = cc
made_are_good true made read (inr e) = cc
made_are_good false made read (inl e) = (refl, cc)
made_are_good false made read (inr e) = cc

-- what a judgement that finds no fault says of its four tests
no_fault : (repeat meet bad over : Bool) (site found : SiteValue)
    → (if repeat then Err Repeated else if meet then Err PoolsMeet else if bad then Err BadPool else if over then Err OverLimit else Ok site) ≡ Ok found
    → (repeat ≡ false) × (meet ≡ false) × (bad ≡ false) × (over ≡ false) × (site ≡ found)
no_fault true meet bad over site found e = cc
no_fault false true bad over site found e = cc
no_fault false false true over site found e = cc
no_fault false false false true site found e = cc
no_fault false false false false site found e = (refl, refl, refl, refl, cc)

-- the site that is judged to have no fault is one
pub IsSite-from_judged : (site found : SiteValue) → site_or_fault site ≡ Ok found → IsSite found
IsSite-from_judged site found e =
    let parts = no_fault (has_repeat site) (has_pair pools_meet (pools_of site)) (has_bad_pool site.customers) (is_over_limit site) site found e in
    rw (← parts.4) (IsSite-from_faultless site parts.0 parts.1 parts.2 parts.3)

-- it is the one that was judged
pub same-from_judged : (site found : SiteValue) → site_or_fault site ≡ Ok found → site ≡ found
same-from_judged site found e =
    (no_fault (has_repeat site) (has_pair pools_meet (pools_of site)) (has_bad_pool site.customers) (is_over_limit site) site found e).4

-- a site is judged to have no fault
pub site_or_fault-from_IsSite : (site : SiteValue) → IsSite site → site_or_fault site ≡ Ok site
site_or_fault-from_IsSite site is =
    let names = has_pair-from_IsDistinct bytes_eq (names_of site) is.names in
    let issuers = has_pair-from_IsDistinct bytes_eq (issuers_of site) is.issuers in
    let seats = has_pair-from_IsDistinct bytes_eq (seat_names_of site) is.seats in
    let tokens = has_pair-from_IsDistinct bytes_eq (tokens_of site) is.tokens in
    let apart = has_pair-from_IsDistinct pools_meet (pools_of site) is.apart in
    let good = good-from_ArePools (pools_of site) is.pools in
    rw (names, issuers, seats, tokens, apart, good, is.within) refl

-- a site whose parts passed the tests, where its customers were made of those that were read
pub IsSite-from_tests : (draft : SiteValue) (read made : List Section) (manager : Option (List ℕ)) → record { customers = read; manager = manager } ≡ draft
    → GivesUnless {T = List Section} OutOfMemory (Ok made) (if has_bad_pool read then Err BadPool else Ok read)
    → has_repeat draft ≡ false → has_pair pools_meet (flat_map (λ s. s.pools) read) ≡ false → (nat_lt 64 (length made) || list_any is_section_over made) ≡ false
    → IsSite (record { customers = made; manager = manager })
IsSite-from_tests draft read made manager is answer once apart within =
    let known = made_are_good (has_bad_pool read) made read answer in
    let site_with : List Section → SiteValue = λ customers. record { customers = customers; manager = manager } in
    let passes : has_repeat (site_with made) ≡ false =
    ap (λ (customers : List Section). has_repeat (site_with customers)) known.1 ∙ (ap has_repeat is ∙ once) in
    IsSite-from_faultless (site_with made) passes (rw known.1 apart) (rw known.1 known.0) within

-- an error under a map of what it isn't
pub map_of_error : {A B E : Type 0} (f : A → B) (r : Result A E) (e : E) → IsErrAnd r (λ found. found ≡ e) → result_map f r ≡ Err e
map_of_error f (Ok x) e is = absurd is
map_of_error f (Err found) e is = ap Err is

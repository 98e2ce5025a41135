-- The fault that a judgement tells is that of a broken rule, and no lower rule is broken.
use Rattle.std.proofs.Common.{◌≡◌, ◌<◌, ℕ, Bool, true, false, not, List, Err, Ok, AllPairs, Decides, bytes_eq, refl, arith, if◌then◌else◌}
use Rattle.std.proofs.lemmas.Bool.{both_ways, false_from_ne_true, not-true, not_from_false}
use Rattle.std.proofs.lemmas.Map.Keys.{IsDistinct-from_apart, apart_from_distinct}
use Rattle.text_core.proofs.Kit.{broken_by}
use Rattle.id_ranges.specs.Prelude.{Pool}
use Rattle.id_ranges.proofs.FreeBlocks.{IsIn-from_meets, blocks_overlap-from_IsIn}
use Rattle.site_core.specs.Prelude.{SiteValue, names_of, issuers_of, pools_of, seat_names_of, tokens_of, pools_meet, is_over_limit, has_pair, has_repeat}
use Rattle.site_core.specs.Prelude.{has_bad_pool, site_or_fault, site_fault_number, ArePoolsApart, HasNoRepeat, KeepsSiteRule, IsLowestSiteFault}
use Rattle.site_core.specs.declared.fault.SiteFault.{SiteFault}
use Rattle.site_core.specs.declared.fault.SiteFault.TheVariants.{NotToml, BadMember, Repeated, PoolsMeet, BadPool, OverLimit, OutOfMemory}
use Rattle.site_core.proofs.Judged.{ArePools-from_good, good-from_ArePools, none_of}
use Rattle.site_core.proofs.Pairs.{IsDistinct-from_has_pair, has_pair-from_IsDistinct}

-- a test that finds a breach fails exactly where the rule is kept
Decides-no_breach : (breach : Bool) (P : Type 0) → (breach ≡ false → P) → (P → breach ≡ false) → Decides (not breach) P
Decides-no_breach breach P kept none = (λ e. kept (not-true breach e), λ p. not_from_false breach (none p))

repeats_decided : (site : SiteValue) → Decides (not (has_repeat site)) (HasNoRepeat site)
repeats_decided site =
    Decides-no_breach (has_repeat site) (HasNoRepeat site)
    (λ once. let kinds = none_of (has_pair bytes_eq (names_of site)) (has_pair bytes_eq (issuers_of site)) (has_pair bytes_eq (seat_names_of site))
    (has_pair bytes_eq (tokens_of site)) once in
    record {
      customers = IsDistinct-from_has_pair bytes_eq (names_of site) kinds.0;
      issuers = IsDistinct-from_has_pair bytes_eq (issuers_of site) kinds.1;
      seats = IsDistinct-from_has_pair bytes_eq (seat_names_of site) kinds.2;
      tokens = IsDistinct-from_has_pair bytes_eq (tokens_of site) kinds.3;
    })
    (λ has. let customers = has_pair-from_IsDistinct bytes_eq (names_of site) has.customers in
    let issuers = has_pair-from_IsDistinct bytes_eq (issuers_of site) has.issuers in
    let seats = has_pair-from_IsDistinct bytes_eq (seat_names_of site) has.seats in
    let tokens = has_pair-from_IsDistinct bytes_eq (tokens_of site) has.tokens in
    rw (customers, issuers, seats, tokens) refl)

-- no pair of pools meets exactly where no address lies in two of them
pools_decided : (pools : List Pool) → Decides (not (has_pair pools_meet pools)) (AllPairs ArePoolsApart pools)
pools_decided pools =
    Decides-no_breach (has_pair pools_meet pools) (AllPairs ArePoolsApart pools)
    (λ none i j d before low mac in_one in_other.
    both_ways _ (apart_from_distinct pools_meet pools i j d (IsDistinct-from_has_pair pools_meet pools none) before low)
    (blocks_overlap-from_IsIn _ _ mac in_one in_other))
    (λ apart. has_pair-from_IsDistinct pools_meet pools
    (IsDistinct-from_apart pools_meet pools (λ i j d before low.
    false_from_ne_true _ (λ met. let shared = IsIn-from_meets _ _ met in apart i j d before low shared.0 shared.1 shared.2))))

-- the rules of all faults below a number, by the rules of those that have one
rules_below : (site : SiteValue) (n : ℕ) → (3 < n → KeepsSiteRule Repeated site) → (4 < n → KeepsSiteRule PoolsMeet site) → (5 < n → KeepsSiteRule BadPool site)
    → (6 < n → KeepsSiteRule OverLimit site)
    → (other : SiteFault) → site_fault_number other < n → KeepsSiteRule other site
rules_below site n once apart good within NotToml low = tt
rules_below site n once apart good within BadMember low = tt
rules_below site n once apart good within Repeated low = once low
rules_below site n once apart good within PoolsMeet low = apart low
rules_below site n once apart good within BadPool low = good low
rules_below site n once apart good within OverLimit low = within low
rules_below site n once apart good within OutOfMemory low = tt

-- the fault that four tests tell is that of the first that finds a breach
lowest_of_tests : (site : SiteValue) (fault : SiteFault) (repeat meet bad over : Bool)
    → Decides (not repeat) (KeepsSiteRule Repeated site) → Decides (not meet) (KeepsSiteRule PoolsMeet site) → Decides (not bad) (KeepsSiteRule BadPool site)
    → Decides (not over) (KeepsSiteRule OverLimit site)
    → (if repeat then Err Repeated else if meet then Err PoolsMeet else if bad then Err BadPool else if over then Err OverLimit else Ok site) ≡ Err fault
    → IsLowestSiteFault fault site
lowest_of_tests site fault true meet bad over d3 d4 d5 d6 e =
    let same : Repeated ≡ fault = cc in
    rw (← same) (record {
      broken = broken_by d3;
      lower = rules_below site 3 (λ l. absurd (omega (arith, l))) (λ l. absurd (omega (arith, l))) (λ l.
          absurd (omega (arith, l))) (λ l. absurd (omega (arith, l)));
    })
lowest_of_tests site fault false true bad over d3 d4 d5 d6 e =
    let same : PoolsMeet ≡ fault = cc in
    rw (← same) (record {
      broken = broken_by d4;
      lower = rules_below site 4 (λ _. d3.0 refl) (λ l. absurd (omega (arith, l))) (λ l.
          absurd (omega (arith, l))) (λ l. absurd (omega (arith, l)));
    })
lowest_of_tests site fault false false true over d3 d4 d5 d6 e =
    let same : BadPool ≡ fault = cc in
    rw (← same) (record {
      broken = broken_by d5;
      lower = rules_below site 5 (λ _. d3.0 refl) (λ _. d4.0 refl) (λ l. absurd (omega (arith, l))) (λ l.
          absurd (omega (arith, l)));
    })
lowest_of_tests site fault false false false true d3 d4 d5 d6 e =
    let same : OverLimit ≡ fault = cc in
    rw (← same) (record {
      broken = broken_by d6;
      lower = rules_below site 6 (λ _. d3.0 refl) (λ _. d4.0 refl) (λ _. d5.0 refl) (λ l.
          absurd (omega (arith, l)));
    })
lowest_of_tests site fault false false false false d3 d4 d5 d6 e = cc

pub IsLowestSiteFault-from_judged : (site : SiteValue) (fault : SiteFault) → site_or_fault site ≡ Err fault → IsLowestSiteFault fault site
IsLowestSiteFault-from_judged site fault e =
    lowest_of_tests site fault (has_repeat site) (has_pair pools_meet (pools_of site)) (has_bad_pool site.customers) (is_over_limit site)
    (repeats_decided site) (pools_decided (pools_of site))
    (Decides-no_breach (has_bad_pool site.customers) _ (ArePools-from_good (pools_of site)) (good-from_ArePools (pools_of site)))
    (Decides-no_breach (is_over_limit site) _ (λ e. e) (λ e. e)) e

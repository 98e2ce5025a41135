-- The tests of a growth decide it.
use Rattle.std.proofs.Common.{◌≡◌, ◌++◌, ◌==◌, get_or}
use Rattle.text_core.proofs.Kit.{Bool, true, false, ℕ, List, length, drop, Some, bytes_eq, Decides, refl, sym, subst, ap, ◌∙◌, All, Any, Contains, IfSome}
use Rattle.text_core.proofs.Kit.{list_all, list_any, starts_with, both_ways, Decides-and, Decides-eqb, Decides-like, Any-from_list_any, list_any-from_Any}
use Rattle.text_core.proofs.Kit.{bytes_eq-Decides, starts_is, Decides-list_all}
use Rattle.id_ranges.specs.Prelude.{Pool}
use Rattle.site_core.specs.Prelude.{IsGrowth, KeepsSection, are_kept, is_same_pool, is_same_seat, keeps, SeatOf, Section, SiteValue}

any_decided : {X : Type 0} (p : X → Bool) (P : X → Type 0) → ((x : X) → Decides (p x) (P x)) → (xs : List X) → Decides (list_any p xs) (Any P xs)
any_decided p P each xs = (
  λ e. let some = Any-from_list_any p xs e in (some.0, some.1, some.2, some.3, (each some.1).0 some.4),
  λ some. list_any-from_Any p xs (some.0, some.1, some.2, some.3, (each some.1).1 some.4),
)

contained_decided : {X : Type 0} (same : X → X → Bool) → ((x y : X) → Decides (same x y) (x ≡ y)) → (xs : List X) (x : X)
    → Decides (list_any (same x) xs) (Contains xs x)
contained_decided same each xs x =
    Decides-like (list_any (same x) xs)
    (λ some. (some.0, some.2, subst (λ y. get_or xs some.0 y ≡ y) (sym some.4) some.3))
    (λ there. (there.0, x, there.1, there.2, refl))
    (any_decided (same x) (λ y. x ≡ y) (each x) xs)

issuers_decided : (old new : List (List ℕ)) → Decides (list_all (λ issuer. list_any (bytes_eq issuer) new) old) (All (Contains new) old)
issuers_decided old new = Decides-list_all _ (Contains new) (contained_decided bytes_eq bytes_eq-Decides new) old

seat_decided : (a b : SeatOf) → Decides (is_same_seat a b) (a ≡ b)
seat_decided a b =
    Decides-like (is_same_seat a b)
    (λ is. λ i. record { name = is.0 i; token = is.1 i })
    (λ e. (ap (λ (s : SeatOf). s.name) e, ap (λ (s : SeatOf). s.token) e))
    (Decides-and (bytes_eq a.name b.name) (bytes_eq a.token b.token) (bytes_eq-Decides a.name b.name) (bytes_eq-Decides a.token b.token))

pool_decided : (a b : Pool) → Decides (is_same_pool a b) (a ≡ b)
pool_decided a b =
    Decides-like (is_same_pool a b)
    (λ is. λ i. record { first = is.0 i; count = is.1 i })
    (λ e. (ap (λ (p : Pool). p.first) e, ap (λ (p : Pool). p.count) e))
    (Decides-and (a.first == b.first) (a.count == b.count) (Decides-eqb a.first b.first) (Decides-eqb a.count b.count))

pools_decided : (old new : List Pool) → Decides (starts_with is_same_pool new old) ((more : List Pool) × (new ≡ old ++ more))
pools_decided old new =
    let is = starts_is pool_decided new old (starts_with is_same_pool new old) refl in
    (λ e. (drop (length old) new, is.0 e), λ more. is.1 more.0 more.1)

keeps_decided : (old new : Section) → Decides (keeps old new) (KeepsSection old new)
keeps_decided old new =
    Decides-like (keeps old new)
    (λ is. record { name = sym is.0.0.0; issuers = is.0.0.1; seats = is.0.1; pools = is.1 })
    (λ is. (((sym is.name, is.issuers), is.seats), is.pools))
    (Decides-and _ (starts_with is_same_pool new.pools old.pools)
    (Decides-and _ (list_all (λ seat. list_any (is_same_seat seat) new.seats) old.seats)
    (Decides-and (bytes_eq old.name new.name) (list_all (λ issuer. list_any (bytes_eq issuer) new.issuers) old.issuers) (bytes_eq-Decides old.name new.name)
    (issuers_decided old.issuers new.issuers))
    (Decides-list_all _ (Contains new.seats) (contained_decided is_same_seat seat_decided new.seats) old.seats))
    (pools_decided old.pools new.pools))

-- each customer is kept by one of the others
kept_decided : (old new : List Section) → Decides (are_kept old new) (All (λ s. Any (KeepsSection s) new) old)
kept_decided old new = Decides-list_all _ (λ s. Any (KeepsSection s) new) (λ s. any_decided (keeps s) (KeepsSection s) (keeps_decided s) new) old

-- a site grew where its customers are kept and its manager is
pub growth_if_managed : (old new : SiteValue) (kept managed : Bool) → kept ≡ are_kept old.customers new.customers → kept ≡ true
    → Decides managed (IfSome old.manager (λ token. new.manager ≡ Some token)) → Decides managed (IsGrowth old new)
growth_if_managed old new kept managed e all manager =
    let each = (kept_decided old.customers new.customers).0 (sym e ∙ all) in
    Decides-like managed (λ is. record { customers = each; manager = is }) (λ growth. growth.manager) manager

-- a site did not grow where a customer isn't kept
pub no_growth : (old new : SiteValue) (kept : Bool) → kept ≡ are_kept old.customers new.customers → kept ≡ false → Decides kept (IsGrowth old new)
no_growth old new kept e lacks =
    (λ all. absurd (both_ways kept lacks all), λ growth. e ∙ (kept_decided old.customers new.customers).1 growth.customers)

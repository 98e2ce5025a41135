-- A site is a growth of itself, and a growth of a growth is one of the first.
use Rattle.std.proofs.Common.{◌≡◌, ◌++◌, get_or}
use Rattle.text_core.proofs.Kit.{◌∙◌, ℕ, List, [], append_assoc, Option, Some, None, refl, sym, subst, ap, All, Any, Contains, IfSome, append-nil}
use Rattle.text_core.proofs.Kit.{get_or_default, All-contains, All-weaker, Contains-get_or}
use Rattle.id_ranges.specs.Prelude.{Pool}
use Rattle.site_core.specs.Prelude.{IsGrowth, KeepsSection, Section, SiteValue}

keeps_itself : (s : Section) → KeepsSection s s
keeps_itself s = record {
  name = refl;
  issuers = λ k d low. Contains-get_or s.issuers k d low;
  seats = λ k d low. Contains-get_or s.seats k d low;
  pools = ([], sym (append-nil s.pools));
}

managed_itself : (manager : Option (List ℕ)) → IfSome manager (λ token. manager ≡ Some token)
managed_itself None = tt
managed_itself (Some token) = refl

pub growth_itself : (site : SiteValue) → IsGrowth site site
growth_itself site = record {
  customers = λ k d low.
      let s = get_or site.customers k d in
      (k, s, low, get_or_default site.customers k s d low, keeps_itself s);
  manager = managed_itself site.manager;
}

-- what is kept is kept again
among_more : {X : Type 0} (a b c : List X) → All (Contains b) a → All (Contains c) b → All (Contains c) a
among_more a b c one two = All-weaker (Contains b) (Contains c) (λ x there. All-contains (Contains c) b x two there) a one

keeps_more : (a b c : Section) → KeepsSection a b → KeepsSection b c → KeepsSection a c
keeps_more a b c one two = record {
  name = two.name ∙ one.name;
  issuers = among_more a.issuers b.issuers c.issuers one.issuers two.issuers;
  seats = among_more a.seats b.seats c.seats one.seats two.seats;
  pools = (
    one.pools.0 ++ two.pools.0,
    two.pools.1 ∙ ap (λ (pools : List Pool). pools ++ two.pools.0) one.pools.1 ∙ append_assoc a.pools one.pools.0 two.pools.0,
  );
}

managed_more : (a b c : Option (List ℕ)) → IfSome a (λ token. b ≡ Some token) → IfSome b (λ token. c ≡ Some token) → IfSome a (λ token. c ≡ Some token)
managed_more None b c one two = tt
managed_more (Some token) b c one two = rw one at two

pub growth_again : (a b c : SiteValue) → IsGrowth a b → IsGrowth b c → IsGrowth a c
growth_again a b c one two = record {
  customers = λ k d low.
      let first = one.customers k d low in
      let next : Any (KeepsSection first.1) c.customers = subst (λ s. Any (KeepsSection s) c.customers) first.3 (two.customers first.0 first.1 first.2) in
      (next.0, next.1, next.2, next.3, keeps_more (get_or a.customers k d) first.1 next.1 first.4 next.4);
  manager = managed_more a.manager b.manager c.manager one.manager two.manager;
}

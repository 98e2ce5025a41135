-- Sites that grow, and the calls of their seats.
use Rattle.std.specs.Prelude.{◌≡◌, List, [], ◌∷◌, Some}
use Rattle.site_core.specs.Prelude.{PoolsDisjoint, IsSection, Ownership, OwnershipGrows}
use Rattle.office_commands.specs.Prelude.{IsAsked}
use Rattle.office_laws.specs.Exchanges.{Call, Wanted, asks}

-- what a seat can ask for: in a request the numbers are within their ranges, and the digests of
-- keys have 32 bytes
abbrev pub CanAsk : Wanted → Type 0
CanAsk (asks request) = IsAsked request
CanAsk other = Unit {0}

-- the caller is a seat of the site, and the section is that of its customer
pub record IsSeat (site : Ownership) (c : Call) : Type 0 where
  pub section : IsSection site c.section
  pub seat : site.seat c.seat ≡ Some c.section.name
  pub wanted : CanAsk c.wanted

-- each caller is a seat of the site as it stands then: it begins as the first and ends as the last,
-- and grows in between. No two customers' pools have an address in common
abbrev pub AreSeats : Ownership → List Call → Ownership → Type 0
AreSeats first [] last = OwnershipGrows first last
AreSeats first (c ∷ cs) last = (site : Ownership) × OwnershipGrows first site × PoolsDisjoint site
    × IsSeat site c × AreSeats site cs last

-- Tables after a change that are sound, and forget nothing.
use Rattle.std.proofs.Common.{◌≡◌, sym, subst}
use Rattle.site_core.specs.Prelude.{Ownership}
use Rattle.office_tables.specs.Prelude.{Tables}
use Rattle.office_laws.specs.Prelude.{Grows, IsSound}
use Rattle.office_laws.proofs.Growing.{grows_itself}

pub record Lasts (owners : Ownership) (t t2 : Tables) : Type 0 where
  pub sound : IsSound owners t2
  pub grows : Grows t t2

-- tables that nothing changes
pub lasts_itself : {owners : Ownership} {t : Tables} → IsSound owners t → Lasts owners t t
lasts_itself {owners} {t} sound = record { sound = sound; grows = grows_itself t }

-- what lasts in some tables lasts in those that are the same
pub lasts_named : {owners : Ownership} {t mid t2 : Tables} → t2 ≡ mid → Lasts owners t mid
    → Lasts owners t t2
lasts_named {owners} {t} is lasts = subst (Lasts owners t) (sym is) lasts

-- A store that is stopped and opened again.
use Rattle.std.specs.Prelude.{◌≡◌, List}
use Rattle.office_tables.specs.Prelude.{Tables}
use Rattle.office_tables.specs.declared.keep.Keep.{Ghosts}
use Rattle.office_laws.specs.Prelude.{Exchange}
use Rattle.office_core.specs.Replaying.{Answered}

-- A store from its opening to its stop: a crash could leave nothing but its tables when it was
-- opened, these exchanges led from them to others, and the stop left what a crash may leave then
pub record IsLife {K : Type 0} (k : Ghosts K) (opened stopped : K) (xs : List Exchange) (t t2 left : Tables) : Type 0 where
  pub fresh : (other : Tables) → k.may_leave opened other → other ≡ t
  pub answered : Answered k opened stopped xs t t2
  pub leaves : k.may_leave stopped left

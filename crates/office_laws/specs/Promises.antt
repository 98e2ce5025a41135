-- What is promised of a run.
use Rattle.std.specs.Prelude.{ℕ, List}
use Rattle.site_core.specs.Prelude.{Ownership}
use Rattle.office_tables.specs.Prelude.{Tables}
use Rattle.office_laws.specs.Grows.{Grows}
use Rattle.office_laws.specs.Sound.{IsSound}
use Rattle.office_laws.specs.Exchanges.{Exchange}
use Rattle.office_laws.specs.Alone.{IsIsolated}
use Rattle.office_laws.specs.Gifts.{IssuesOnce}
use Rattle.office_laws.specs.Once.{ActsOnce}

-- The tables are sound. Each customer's replies and rows are those of the customer's own machine,
-- run on the customer's own calls alone. Nothing that was burnt is forgotten, what is given stays,
-- and no order gets more devices than it is for. No identity gives what another gave, and a request
-- that comes again acts once.
pub record Promises (site : Ownership) (xs : List Exchange) (t t2 : Tables) : Type 0 where
  pub sound : IsSound site t2
  pub isolated : (customer : List ℕ) → IsIsolated customer xs t t2
  pub grows : Grows t t2
  pub given : IssuesOnce xs t t2
  pub once : (customer : List ℕ) → ActsOnce customer xs t t2

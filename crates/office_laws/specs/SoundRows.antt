-- What the rows of a table are that lie with the owners of what they name.
use Rattle.std.specs.Prelude.{◌≡◌, ℕ, List, Option, Some}
use Rattle.std.specs.List.{AllByRecursion}
use Rattle.std.specs.declared.cmp.Ordering.{Ordering}
use Rattle.office_tables.specs.declared.rows.OfCustomer.{OfCustomer}
use Rattle.office_tables.specs.Prelude.{IsAscending}

-- the rows are in the order of their keys, and each is the customer's who owns what it names
pub record AreOwned {A : Type 0} (cmp : OfCustomer A → OfCustomer A → Ordering)
    (owner : A → Option (List ℕ)) (rows : List (OfCustomer A)) : Type 0 where
  pub ascending : IsAscending cmp rows
  pub owned : AllByRecursion (λ o. owner o.row ≡ Some o.customer) rows

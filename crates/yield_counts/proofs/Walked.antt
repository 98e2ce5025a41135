-- What a walk over all rows leaves.
use Rattle.std.proofs.Common.{◌≡◌, ◌+◌, ◌∷◌}
use Rattle.text_core.proofs.Kit.{ℕ, true, false, List, [], None, filter, refl, ap, ◌∙◌, arith, cond, is_some, both_ways}
use Rattle.office_tables.specs.declared.rows.OfCustomer.{OfCustomer}
use Rattle.office_tables.specs.declared.rows.Device.{Device}
use Rattle.office_tables.specs.Prelude.{is_of, Visits}
use Rattle.std.specs.List.{sum_by}
use Rattle.std.proofs.lemmas.List.Sums.{sum_by-cons}
use Rattle.yield_counts.specs.Prelude.{count_at, in_column, AreColumnsOf}
use Rattle.yield_counts.specs.Walks.{CountsDevice}
use Rattle.yield_counts.specs.declared.walks.DeviceScan.{DeviceScan}
use Rattle.yield_counts.proofs.Columned.{counts_for, summed}

-- a walk that wasn't broken off adds each device
all_added : (order : List ℕ) (column : ℕ) (old : DeviceScan) (rows : List (OfCustomer Device)) (new : DeviceScan) → Visits CountsDevice old rows new
    → new.failed ≡ None → count_at order column new.orders ≡ count_at order column old.orders + sum_by (λ d. in_column order column d.row) rows
all_added order column old [] new v on = ap (λ (s : DeviceScan). count_at order column s.orders) v ∙ omega arith
all_added order column old (row ∷ rows) new (true, mid, taken, later) on =
    let here = taken.counted refl order column in
    let rest = all_added order column mid rows new later on in
    let more = sum_by-cons (λ (d : OfCustomer Device). in_column order column d.row) row rows in
    omega (arith, here, rest, more)
all_added order column old (row ∷ rows) new (false, mid, taken, later) on =
    absurd (both_ways (is_some new.failed) (ap is_some on) (ap (λ (s : DeviceScan). is_some s.failed) later ∙ taken.failed refl))

-- the devices of a customer, with what they count of it
own_summed : (customer order : List ℕ) (column : ℕ) (rows : List (OfCustomer Device))
    → sum_by (λ d. in_column order column d.row) (filter (is_of customer) rows) ≡ sum_by (counts_for customer order column) rows
own_summed customer order column [] = refl
own_summed customer order column (d ∷ rows) =
    let f : OfCustomer Device → ℕ = λ d. in_column order column d.row in
    let own = filter (is_of customer) rows in
    let rest = own_summed customer order column rows in
    let all = sum_by-cons (counts_for customer order column) d rows in
    let one = sum_by-cons f d own in
    elim (is_of customer d) as (λ b. sum_by (counts_for customer order column) (d ∷ rows) ≡ cond b (f d) 0 + sum_by (counts_for customer order column) rows
    → sum_by f (cond b (d ∷ own) own) ≡ sum_by (counts_for customer order column) (d ∷ rows)) [
      | true ↦ λ all. omega (arith, all, one, rest)
      | false ↦ λ all. omega (arith, all, rest)
    ] all

-- the devices of a customer are counted
pub devices_counted : (customer : List ℕ) (old : DeviceScan) (rows : List (OfCustomer Device)) (new : DeviceScan)
    → Visits CountsDevice old (filter (is_of customer) rows) new → new.failed ≡ None
    → ((order : List ℕ) (column : ℕ) → count_at order column old.orders ≡ 0) → AreColumnsOf customer rows new.orders
devices_counted customer old rows new v on none order column =
    let all = all_added order column old (filter (is_of customer) rows) new v on in
    let own = own_summed customer order column rows in
    let sum = summed customer order column rows in
    let zero = none order column in
    omega (arith, all, own, sum, zero)

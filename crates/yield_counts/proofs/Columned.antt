-- The numbers of devices that are kept: one is set, and a device is put.
use Rattle.std.proofs.Common.{◌≡◌, ◌+◌, ◌-◌, ◌<◌, ◌==◌, ◌&&◌, ◌∷◌}
use Rattle.text_core.proofs.Kit.{◌∙◌, ℕ, arith, true, false, Bool, cond, List, [], Option, Some, None, length, refl, sym, ap, bytes_eq, filter, find}
use Rattle.text_core.proofs.Kit.{map, nat_tests}
use Rattle.text_core.proofs.Kit.{option_map, unwrap_or, cases_Bool, inl, inr, and_parts, get, is_at, bytes_eq-Decides, slice_set}
use Rattle.text_core.proofs.Kit.{slice_index}
use Rattle.std.specs.List.{sum_by}
use Rattle.std.proofs.lemmas.List.{get_or-set_other}
use Rattle.std.proofs.lemmas.List.Sums.{sum_by-cons}
use Rattle.std.proofs.lemmas.Grind.{get_or-set_at}
use Rattle.text_core.proofs.Kit.{find-passes, nat_lt, text_itself}
use Rattle.office_tables.specs.declared.rows.OfCustomer.{OfCustomer}
use Rattle.office_tables.specs.declared.rows.Device.{Device}
use Rattle.office_tables.specs.declared.rows.DeviceState.{DeviceState}
use Rattle.office_tables.specs.declared.rows.DeviceState.TheVariants.{Registered, AwaitingFirst, AwaitingSecond, Settled, Identified, Shipped, Quarantined}
use Rattle.office_tables.specs.declared.rows.DeviceState.TheVariants.{Scrapped}
use Rattle.office_tables.specs.Numbers.{largest_number, one_more as one_more_of}
use Rattle.office_tables.specs.Prelude.{device_cmp, is_device, is_of, rows_of, state_row, text_cmp, with_row, IsAscending}
use Rattle.office_tables.proofs.Places.{find_device}
use Rattle.office_tables.proofs.TotalOrders.{device_total}
use Rattle.yield_counts.specs.Prelude.{columns_at, count_at, count_in, count_of, devices_of, in_column, no_devices, taken_in_column, with_one}
use Rattle.yield_counts.specs.Prelude.{AreColumnsOf, AreCounted}
use Rattle.yield_counts.specs.declared.columns.OrderColumns.{OrderColumns}
use Rattle.yield_counts.specs.declared.devices.DeviceCounts.{DeviceCounts}
use Rattle.yield_counts.proofs.Kept.{at_text, fit_put}
use Rattle.yield_counts.proofs.Sums.{count_if, sum_put}

-- the numbers of an order are set
pub columns_set : (order : List ℕ) (numbers : List ℕ) (p n : OrderColumns)
    → ((q : List ℕ) → get text_cmp n.orders q ≡ cond (is_at (text_cmp order) q) (Some numbers) (get text_cmp p.orders q))
    → (o : List ℕ) → columns_at o n ≡ cond (bytes_eq o order) numbers (columns_at o p)
columns_set order numbers p n writes o =
    ap (λ (v : Option (List ℕ)). unwrap_or v no_devices) (writes o ∙ ap (λ b. cond b (Some numbers) (get text_cmp p.orders o)) (at_text order o))
    ∙ elim (bytes_eq o order) as (λ b. unwrap_or (cond b (Some numbers) (get text_cmp p.orders o)) no_devices
    ≡ cond b numbers (columns_at o p)) [ true ↦ refl | false ↦ refl ]

-- each state is in a column
pub in_a_column : (state : DeviceState) → (state_row state).column < 7
in_a_column Registered = omega arith
in_a_column AwaitingFirst = omega arith
in_a_column AwaitingSecond = omega arith
in_a_column Settled = omega arith
in_a_column Identified = omega arith
in_a_column Shipped = omega arith
in_a_column (Quarantined why) = omega arith
in_a_column Scrapped = omega arith

-- a number is set in its column
column_set : (numbers : List ℕ) (at column value : ℕ) → at < length numbers → slice_index (slice_set numbers at value) column
    ≡ cond (at == column) value (slice_index numbers column)
column_set numbers at column value within =
    elim (cases_Bool (at == column)) [
      | inl same ↦ rw same (get_or-set_at numbers at column value 0 (grind (arith, nat_tests, same)) within)
      | inr other ↦ rw other (get_or-set_other numbers at column value 0 (λ is. grind (arith, nat_tests, other)))
    ]

module _ (d : Device) (p n : OrderColumns) (numbers : List ℕ) (seven : length (columns_at d.order p) ≡ 7)
    (set : (o : List ℕ) → columns_at o n ≡ cond (bytes_eq o d.order) numbers (columns_at o p)) where
  -- the number of the device's order and column is set, and no other
  one_set : (value : ℕ) → numbers ≡ slice_set (columns_at d.order p) (state_row d.state).column value
      → (order : List ℕ) (column : ℕ) → count_at order column n
      ≡ cond (bytes_eq order d.order && ((state_row d.state).column == column)) value (count_at order column p)
  one_set value is order column =
      elim (cases_Bool (bytes_eq order d.order)) [
        | inl here ↦
            let same : order ≡ d.order = (bytes_eq-Decides order d.order).0 here in
            let whole : columns_at order n ≡ slice_set (columns_at order p) (state_row d.state).column value =
            set order ∙ rw (here, same) is in
            let low = in_a_column d.state in
            rw here (ap (λ ns. slice_index ns column) whole
            ∙ column_set (columns_at order p) (state_row d.state).column column value (rw same (omega (arith, low, seven))))
        | inr other ↦ rw other (ap (λ ns. slice_index ns column) (set order ∙ rw other refl))
      ]

  here : (order : List ℕ) (column : ℕ) → (bytes_eq order d.order && ((state_row d.state).column == column)) ≡ true
      → count_at order column p ≡ count_at d.order (state_row d.state).column p
  here order column is =
      let parts = and_parts (bytes_eq order d.order) ((state_row d.state).column == column) is in
      let same : order ≡ d.order = (bytes_eq-Decides order d.order).0 parts.0 in
      let at : column ≡ (state_row d.state).column = grind (arith, nat_tests, parts.1) in
      rw (same, at) refl

  -- a device more
  pub one_more : numbers ≡ slice_set (columns_at d.order p) (state_row d.state).column (count_at d.order (state_row d.state).column p + 1)
      → (order : List ℕ) (column : ℕ) → count_at order column n ≡ count_at order column p + in_column order column d
  one_more is order column =
      one_set (count_at d.order (state_row d.state).column p + 1) is order column
      ∙ elim (bytes_eq order d.order && ((state_row d.state).column == column)) as (λ b.
      (bytes_eq order d.order && ((state_row d.state).column == column)) ≡ b
      → cond b (count_at d.order (state_row d.state).column p + 1) (count_at order column p) ≡ count_at order column p + cond b 1 0) [
        | true ↦ λ is. let same = here order column is in omega (arith, same)
        | false ↦ λ is. omega arith
      ] refl

  -- a device less
  pub one_less : numbers ≡ slice_set (columns_at d.order p) (state_row d.state).column (count_at d.order (state_row d.state).column p - 1)
      → (order : List ℕ) (column : ℕ) → count_at order column n ≡ count_at order column p - in_column order column d
  one_less is order column =
      one_set (count_at d.order (state_row d.state).column p - 1) is order column
      ∙ elim (bytes_eq order d.order && ((state_row d.state).column == column)) as (λ b.
      (bytes_eq order d.order && ((state_row d.state).column == column)) ≡ b
      → cond b (count_at d.order (state_row d.state).column p - 1) (count_at order column p) ≡ count_at order column p - cond b 1 0) [
        | true ↦ λ is. let same = here order column is in omega (arith, same)
        | false ↦ λ is. omega arith
      ] refl

-- what a device of all customers counts for a customer's order and a column
abbrev pub counts_for : List ℕ → List ℕ → ℕ → OfCustomer Device → ℕ
counts_for customer order column d = cond (is_of customer d) (in_column order column d.row) 0

pub filtered : (of at here : Bool) (d : Device) (order : List ℕ) (column : ℕ) (later : List Device) → bytes_eq order d.order ≡ at
    → ((state_row d.state).column == column) ≡ here → count_in (devices_of order (cond of (d ∷ later) later)) column
    ≡ cond of (cond (at && here) 1 0) 0 + count_in (devices_of order later) column
filtered true true true d order column later a h = rw (a, h) (omega arith)
filtered true true false d order column later a h = rw (a, h) (omega arith)
filtered true false here d order column later a h = rw a (omega arith)
filtered false at here d order column later a h = omega arith

rows_cond : (b : Bool) (customer : List ℕ) (d : OfCustomer Device) (rows : List (OfCustomer Device)) → map (λ (o : OfCustomer Device). o.row) (cond b
    (d ∷ rows) rows) ≡ cond b (d.row ∷ map (λ (o : OfCustomer Device). o.row) rows) (map (λ (o : OfCustomer Device). o.row) rows)
rows_cond true customer d rows = refl
rows_cond false customer d rows = refl

-- the count of a customer's order and column is the sum over all devices
pub summed : (customer order : List ℕ) (column : ℕ) (rows : List (OfCustomer Device))
    → count_of customer order column rows ≡ sum_by (counts_for customer order column) rows
summed customer order column [] = refl
summed customer order column (d ∷ rows) =
    ap (λ ds. count_in (devices_of order ds) column) (rows_cond (is_of customer d) customer d (filter (is_of customer) rows))
    ∙ filtered (is_of customer d) (bytes_eq order d.row.order) ((state_row d.row.state).column == column) d.row order column (rows_of customer rows) refl refl
    ∙ ap (λ k. counts_for customer order column d + k) (summed customer order column rows)
    ∙ sym (sum_by-cons (counts_for customer order column) d rows)

-- a device is put, and the one with its key is gone
pub device_put : (customer order : List ℕ) (column : ℕ) (d : OfCustomer Device) (rows : List (OfCustomer Device)) → IsAscending device_cmp rows
    → count_of customer order column (with_row device_cmp d rows)
    + count_if (counts_for customer order column) (find (is_device d.customer d.row.chip) rows)
    ≡ count_of customer order column rows + counts_for customer order column d
device_put customer order column d rows ascending =
    let put = sum_put (counts_for customer order column) device_cmp device_total d rows ascending in
    let now = summed customer order column (with_row device_cmp d rows) in
    let was = summed customer order column rows in
    let same = ap (count_if (counts_for customer order column)) (find_device d.customer d.row.chip rows) in
    omega (arith, put, now, was, same)

-- what is found is of the customer that was asked for
found_of : (customer chip : List ℕ) (rows : List (OfCustomer Device)) (y : OfCustomer Device) → find (is_device customer chip) rows ≡ Some y
    → customer ≡ y.customer
found_of customer chip rows y is =
    (bytes_eq-Decides customer y.customer).0 (and_parts (bytes_eq customer y.customer) (bytes_eq chip y.row.chip)
    (find-passes (is_device customer chip) rows y is)).0

-- what is found counts nothing for another customer
found_other : (customer order : List ℕ) (column : ℕ) (other chip : List ℕ) (rows : List (OfCustomer Device)) (o : Option (OfCustomer Device))
    → find (is_device other chip) rows ≡ o → bytes_eq customer other ≡ false → count_if (counts_for customer order column) o ≡ 0
found_other customer order column other chip rows None is apart = refl
found_other customer order column other chip rows (Some y) is apart = rw (← (found_of other chip rows y is), apart) refl

-- and for its own what the device counts
found_own : (customer order : List ℕ) (column : ℕ) (chip : List ℕ) (rows : List (OfCustomer Device)) (o : Option (OfCustomer Device))
    → find (is_device customer chip) rows ≡ o → count_if (counts_for customer order column) o ≡ taken_in_column order column (option_map (λ d. d.row) o)
found_own customer order column chip rows None is = refl
found_own customer order column chip rows (Some y) is = rw (← (found_of customer chip rows y is), text_itself customer customer refl) refl

-- a device that is put changes no number of another customer
pub others_stay : (d : OfCustomer Device) (rows : List (OfCustomer Device)) → IsAscending device_cmp rows → (customer : List ℕ)
    → bytes_eq customer d.customer ≡ false → (order : List ℕ) (column : ℕ)
    → count_of customer order column (with_row device_cmp d rows) ≡ count_of customer order column rows
others_stay d rows ascending customer apart order column =
    let put = device_put customer order column d rows ascending in
    let none : counts_for customer order column d ≡ 0 = rw apart refl in
    let gone = found_other customer order column d.customer d.row.chip rows (find (is_device d.customer d.row.chip) rows) refl apart in
    omega (arith, put, none, gone)

-- the numbers of its own customer follow
pub own_follow : (d : OfCustomer Device) (rows : List (OfCustomer Device)) → IsAscending device_cmp rows → (p n : OrderColumns)
    → AreColumnsOf d.customer rows p → ((order : List ℕ) (column : ℕ) → count_at order column n
    ≡ count_at order column p + in_column order column d.row
    - taken_in_column order column (option_map (λ d. d.row) (find (is_device d.customer d.row.chip) rows)))
    → AreColumnsOf d.customer (with_row device_cmp d rows) n
own_follow d rows ascending p n right moved order column =
    let put = device_put d.customer order column d rows ascending in
    let one : counts_for d.customer order column d ≡ in_column order column d.row = rw (text_itself d.customer d.customer refl) refl in
    let gone = found_own d.customer order column d.row.chip rows (find (is_device d.customer d.row.chip) rows) refl in
    let was = right order column in
    let now = moved order column in
    omega (arith, put, one, gone, was, now)

-- the numbers of one customer are put, or taken out
pub counted_put : (customer : List ℕ) (rows after : List (OfCustomer Device)) (c n : DeviceCounts) (v : Option OrderColumns)
    → ((other : List ℕ) → bytes_eq other customer ≡ false → (order : List ℕ) (column : ℕ)
    → count_of other order column after ≡ count_of other order column rows)
    → AreCounted rows c → ((orders : OrderColumns) → v ≡ Some orders → AreColumnsOf customer after orders)
    → ((q : List ℕ) → get text_cmp n.customers q ≡ cond (is_at (text_cmp customer) q) v (get text_cmp c.customers q)) → AreCounted after n
counted_put customer rows after c n v stay =
    fit_put (λ name (o : OrderColumns). AreColumnsOf name rows o) (λ name (o : OrderColumns). AreColumnsOf name after o) customer v c.customers n.customers
    (λ other apart orders right order column. right order column ∙ sym (stay other apart order column))

-- one more where there is room for it
pub more_is : (n more : ℕ) → one_more_of n ≡ Some more → more ≡ n + 1
more_is n more is = elim (cases_Bool (nat_lt n largest_number)) [ inl low ↦ (let e = rw low at is in cc) | inr high ↦ absurd (let e = rw high at is in cc) ]

-- the numbers with one device more in a state are one more in its column
pub counted_one : (state : DeviceState) (numbers more : List ℕ) → with_one state numbers ≡ Some more
    → more ≡ slice_set numbers (state_row state).column (slice_index numbers (state_row state).column + 1)
counted_one state numbers more is =
    let column = (state_row state).column in
    elim (one_more_of (slice_index numbers column)) as (λ o. one_more_of (slice_index numbers column) ≡ o
    → option_map (slice_set numbers column) o ≡ Some more → more ≡ slice_set numbers column (slice_index numbers column + 1)) [
      | None ↦ λ _ none. absurd (cc)
      | Some value ↦ λ found is. (let same : slice_set numbers column value ≡ more = cc in sym same ∙ ap (slice_set numbers column) (more_is _ value found))
    ] refl is

-- The devices that take a place of an order are those in its first five columns.
use Rattle.std.proofs.Common.{◌≡◌, ◌+◌, ◌∷◌, ◌==◌, ◌&&◌}
use Rattle.text_core.proofs.Kit.{ℕ, arith, true, false, Bool, cond, not, List, [], refl, bytes_eq, filter, length, slice_index}
use Rattle.office_tables.specs.declared.rows.Device.{Device}
use Rattle.office_tables.specs.declared.rows.DeviceState.{DeviceState}
use Rattle.office_tables.specs.declared.rows.DeviceState.TheVariants.{Registered, AwaitingFirst, AwaitingSecond, Settled, Identified, Shipped, Quarantined}
use Rattle.office_tables.specs.declared.rows.DeviceState.TheVariants.{Scrapped}
use Rattle.office_tables.specs.Prelude.{places_taken, state_row, takes_place}
use Rattle.yield_counts.specs.Counts.{count_in, devices_of, places_in}
use Rattle.yield_counts.specs.Counting.{in_column}
use Rattle.yield_counts.proofs.Columned.{filtered}

-- whether a state is in a column
abbrev in_state : DeviceState → ℕ → ℕ
in_state state column = cond ((state_row state).column == column) 1 0

-- a state is in one of the first five columns unless its devices are given up
of_state : (state : DeviceState) → cond (not (state_row state).is_given_up) 1 0
    ≡ in_state state 0 + in_state state 1 + in_state state 2 + in_state state 3 + in_state state 4
of_state Registered = refl
of_state AwaitingFirst = refl
of_state AwaitingSecond = refl
of_state Settled = refl
of_state Identified = refl
of_state Shipped = refl
of_state (Quarantined why) = refl
of_state Scrapped = refl

of_device : (order : List ℕ) (d : Device) → cond (takes_place order d) 1 0
    ≡ in_column order 0 d + in_column order 1 d + in_column order 2 d + in_column order 3 d + in_column order 4 d
of_device order d =
    elim (bytes_eq order d.order) as (λ b. cond (b && not (state_row d.state).is_given_up) 1 0
    ≡ cond (b && ((state_row d.state).column == 0)) 1 0 + cond (b && ((state_row d.state).column == 1)) 1 0
    + cond (b && ((state_row d.state).column == 2)) 1 0 + cond (b && ((state_row d.state).column == 3)) 1 0
    + cond (b && ((state_row d.state).column == 4)) 1 0) [ true ↦ of_state d.state | false ↦ refl ]

-- the number of a column, with a device in front
more : (order : List ℕ) (d : Device) (ds : List Device) (column : ℕ)
    → count_in (devices_of order (d ∷ ds)) column ≡ in_column order column d + count_in (devices_of order ds) column
more order d ds column = filtered true (bytes_eq order d.order) ((state_row d.state).column == column) d order column ds refl refl

one_more : (b : Bool) (d : Device) (ds : List Device) → length (cond b (d ∷ ds) ds) ≡ cond b 1 0 + length ds
one_more true d ds = omega arith
one_more false d ds = omega arith

pub placed : (order : List ℕ) (ds : List Device) → places_taken order ds
    ≡ count_in (devices_of order ds) 0 + count_in (devices_of order ds) 1 + count_in (devices_of order ds) 2 + count_in (devices_of order ds) 3
    + count_in (devices_of order ds) 4
placed order [] = refl
placed order (d ∷ ds) =
    let first = one_more (takes_place order d) d (filter (takes_place order) ds) in
    let one = of_device order d in
    let rest = placed order ds in
    omega (arith, first, one, rest, more order d ds 0, more order d ds 1, more order d ds 2, more order d ds 3, more order d ds 4)

-- the sum of five numbers
five : (ns : List ℕ) → places_in ns ≡ slice_index ns 0 + slice_index ns 1 + slice_index ns 2 + slice_index ns 3 + slice_index ns 4
five [] = refl
five (a ∷ []) = omega arith
five (a ∷ b ∷ []) = omega arith
five (a ∷ b ∷ c ∷ []) = omega arith
five (a ∷ b ∷ c ∷ d ∷ []) = omega arith
five (a ∷ b ∷ c ∷ d ∷ e ∷ ns) = omega arith

-- where the columns have the numbers of an order's devices, so many devices take a place of it
pub places_counted : (order : List ℕ) (ds : List Device) (ns : List ℕ) → ((column : ℕ) → slice_index ns column ≡ count_in (devices_of order ds) column)
    → places_in ns ≡ places_taken order ds
places_counted order ds ns each =
    let sum = five ns in
    let all = placed order ds in
    omega (arith, sum, all, each 0, each 1, each 2, each 3, each 4)

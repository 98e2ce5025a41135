-- How many devices that take a place of an order a walk meets.
use Rattle.text_core.proofs.Kit.{◌∙◌, ℕ, arith, true, false, Bool, cond, List, [], length, ap, filter, map, count_by-le-length, length-filter}
use Rattle.std.proofs.Common.{◌≡◌, ◌≤◌, ◌<◌, ◌+◌, ◌∷◌, ◌^◌}
use Rattle.office_tables.specs.Prelude.{is_of, places_taken, rows_of, takes_place, Visits}
use Rattle.office_tables.specs.declared.rows.OfCustomer.{OfCustomer}
use Rattle.office_tables.specs.declared.rows.Device.{Device}
use Rattle.memory_keeper.specs.Prelude.{CountsPlace}
use Rattle.memory_keeper.specs.declared.devices.PlaceScan.{PlaceScan}

-- one device, and the others
first : (order : List ℕ) (d : Device) (ds : List Device) → places_taken order (d ∷ ds) ≡ cond (takes_place order d) 1 0 + places_taken order ds
first order d ds =
    elim (takes_place order d) as (λ b. length (cond b (d ∷ filter (takes_place order) ds) (filter (takes_place order) ds))
    ≡ cond b 1 0 + places_taken order ds) [ true ↦ omega arith | false ↦ omega arith ]

one : (b : Bool) → cond b 1 0 ≤ 1
one true = omega arith
one false = omega arith

-- a walk counts each device that takes a place
walked : (old new : PlaceScan) (rows : List (OfCustomer Device)) → Visits CountsPlace old rows new → old.taken + length rows < 2 ^ 63
    → new.taken ≡ old.taken + places_taken old.order (map (λ (o : OfCustomer Device). o.row) rows)
walked old new [] v room = ap (λ (s : PlaceScan). s.taken) v ∙ omega arith
walked old new (d ∷ ds) (true, mid, taken, later) room =
    let here : mid.taken ≡ old.taken + cond (takes_place old.order d.row) 1 0 = taken.taken (omega (arith, room)) in
    let less = one (takes_place old.order d.row) in
    let rest = rw taken.order at (walked mid new ds later (omega (arith, room, here, less))) in
    let split = first old.order d.row (map (λ (o : OfCustomer Device). o.row) ds) in
    omega (arith, here, rest, split)
walked old new (d ∷ ds) (false, mid, taken, later) room = absurd (let e = taken.all in cc)

-- and so those of a customer, where the rows are few
pub places_walked : (customer : List ℕ) (old new : PlaceScan) (rows : List (OfCustomer Device)) → Visits CountsPlace old (filter (is_of customer) rows) new
    → old.taken ≡ 0 → length rows < 2 ^ 63 → new.taken ≡ places_taken old.order (rows_of customer rows)
places_walked customer old new rows v none few =
    let fewer = count_by-le-length (is_of customer) rows in
    let own = length-filter (is_of customer) rows in
    let all = walked old new (filter (is_of customer) rows) v (omega (arith, none, few, fewer, own)) in
    omega (arith, all, none)

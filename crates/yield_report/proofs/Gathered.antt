-- The orders of a customer, gathered by a walk.
use Rattle.std.proofs.Common.{◌≡◌, ◌∷◌, ◌++◌}
use Rattle.text_core.proofs.Kit.{true, false, List, [], map, sym, ap, ◌∙◌, append_assoc, append-nil, is_some, refl}
use Rattle.office_tables.specs.Prelude.{Visits}
use Rattle.office_tables.specs.declared.rows.Order.{Order}
use Rattle.office_tables.specs.declared.rows.OfCustomer.{OfCustomer}
use Rattle.yield_report.specs.Prelude.{GathersOrder, head_of}
use Rattle.yield_report.specs.declared.lines.OrderHead.{OrderHead}
use Rattle.yield_report.specs.declared.lines.OrderScan.{OrderScan}

abbrev orders_in : List (OfCustomer Order) → List OrderHead
orders_in rows = map head_of (map (λ o. o.row) rows)

-- a walk that wasn't broken off has all of them
pub orders_gathered : (old : OrderScan) (rows : List (OfCustomer Order)) (new : OrderScan) → Visits GathersOrder old rows new → is_some new.failed ≡ false
    → new.orders.items ≡ old.orders.items ++ map head_of (map (λ o. o.row) rows)
orders_gathered old [] new v room = ap (λ (s : OrderScan). s.orders.items) v ∙ sym (append-nil old.orders.items)
orders_gathered old (row ∷ rows) new (true, mid, taken, later) room =
    orders_gathered mid rows new later room ∙ (ap (λ orders. orders ++ orders_in rows) (taken.orders refl)
    ∙ append_assoc old.orders.items (head_of row.row ∷ []) (orders_in rows))
orders_gathered old (row ∷ rows) new (false, mid, taken, later) room =
    let no_memory : is_some new.failed ≡ true = ap (λ (s : OrderScan). is_some s.failed) later ∙ taken.no_memory refl in
    cc

-- A row that is placed among sound ones.
use Rattle.std.proofs.Common.{◌≡◌, Ordering}
use Rattle.text_core.proofs.Kit.{ℕ, true, List, Option, Some, Equal, find, is_some, IsTotalOrder, AllByRecursion}
use Rattle.site_core.specs.Prelude.{Ownership}
use Rattle.office_laws.proofs.Types.{Given, Order, OfCustomer}
use Rattle.office_tables.specs.Prelude.{Tables, is_order, order_cmp, with_row, with_order}
use Rattle.office_tables.proofs.Placing.{all_map, all_placed, placed_ascending}
use Rattle.office_tables.proofs.TotalOrders.{order_total}
use Rattle.office_laws.specs.Prelude.{IsInPool, IsOrder, IsSound, IsIssuedBelow, IsRecordOf, AreOwned}
use Rattle.office_laws.proofs.Addresses.{EachApart}
use Rattle.office_laws.proofs.DeviceRows.{referred_after_orders}

module _ {A : Type 0} {cmp : OfCustomer A → OfCustomer A → Ordering} {owner : A → Option (List ℕ)}
    {rows : List (OfCustomer A)} (are : AreOwned cmp owner rows) (x : OfCustomer A)
    (mine : owner x.row ≡ Some x.customer) where
  -- a row of its owner's
  pub owned_placed : IsTotalOrder cmp → AreOwned cmp owner (with_row cmp x rows)
  owned_placed total = record {
    ascending = placed_ascending cmp total x rows are.ascending;
    owned = all_placed (λ o. owner o.row ≡ Some o.customer) cmp x rows mine are.owned;
  }

  -- a row whose place it takes is the same customer's, where both name one thing
  pub owned_place : ((y : OfCustomer A) → cmp x y ≡ Equal → owner x.row ≡ owner y.row)
      → AllByRecursion (λ y. cmp x y ≡ Equal → x.customer ≡ y.customer) rows
  owned_place tied = all_map (λ o. owner o.row ≡ Some o.customer)
      (λ y. cmp x y ≡ Equal → x.customer ≡ y.customer)
      (λ y its same. let one = tied y same in cc (one, mine, its)) rows are.owned

-- an order, where each order that was there is there still, and each record is its order's
module _ {owners : Ownership} {t : Tables} (sound : IsSound owners t) (o : OfCustomer Order) where
  abbrev after : List (OfCustomer Order)
  after = with_row order_cmp o t.orders

  pub order_placed : owners.issuer o.row.issuer ≡ Some o.customer → IsOrder o.row
      → IsInPool owners o → EachApart after
      → ((g : OfCustomer Given) → IsRecordOf t.orders t.devices g g.row.chip
      → IsRecordOf after t.devices g g.row.chip)
      → ((customer name : List ℕ) → is_some (find (is_order customer name) t.orders) ≡ true
      → is_some (find (is_order customer name) after) ≡ true)
      → IsIssuedBelow t.given o → IsSound owners (with_order o t)
  order_placed mine terms in_pool apart origin there below = record {
    seats = sound.seats;
    orders = record {
      rows = owned_placed sound.orders.rows o mine order_total;
      terms = all_placed (λ o. IsOrder o.row) order_cmp o t.orders terms sound.orders.terms;
      in_pools = all_placed (IsInPool owners) order_cmp o t.orders in_pool sound.orders.in_pools;
      apart = apart;
    };
    given = sound.given;
    maps = sound.maps;
    devices = sound.devices;
    origins = all_map (λ g. IsRecordOf t.orders t.devices g g.row.chip)
        (λ g. IsRecordOf after t.devices g g.row.chip) origin t.given sound.origins;
    cursors = all_placed (IsIssuedBelow t.given) order_cmp o t.orders below sound.cursors;
    references = referred_after_orders t.orders t.links t.devices after there sound.references;
    ledgers = sound.ledgers;
  }

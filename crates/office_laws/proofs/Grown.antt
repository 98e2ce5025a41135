-- What stays where tables grow, and where a site does.
use Rattle.std.proofs.Common.{◌≡◌, ◌*◌, ℕ, true, List, Option, Some, None, Ordering, Any, IfSome}
use Rattle.id_ranges.specs.Blocks as blocks
use Rattle.site_core.specs.Prelude.{Ownership, OwnershipGrows}
use Rattle.office_laws.proofs.Types.{Order, OfCustomer}
use Rattle.office_tables.specs.Prelude.{Tables}
use Rattle.office_tables.proofs.Placing.{all_map}
use Rattle.office_laws.specs.Prelude.{IsInPool, IsSound, AreOwned}

-- a site as it was
pub growth_itself : (site : Ownership) → OwnershipGrows site site
growth_itself site = record {
  customers = λ _ is. is;
  issuers = λ _ _ is. is;
  seats = λ _ _ is. is;
  pools = λ _ _ is. is;
}

-- an order's addresses lie within a pool of its customer still
pool_grown : (old new : Ownership) → OwnershipGrows old new → (o : OfCustomer Order) → IsInPool old o
    → IsInPool new o
pool_grown old new growth o = by o.row.mac
  where
    by : (mac : Option ℕ)
        → IfSome mac (λ first. Any (blocks.IsBlockWithin (first, o.row.range.quantity * o.row.macs))
        (old.pools o.customer))
        → IfSome mac (λ first. Any (blocks.IsBlockWithin (first, o.row.range.quantity * o.row.macs))
        (new.pools o.customer))
    by None is = tt
    by (Some first) is = growth.pools o.customer (first, o.row.range.quantity * o.row.macs) is

-- rows that lie with their owners lie with them still
owned_grown : {A : Type 0} {cmp : OfCustomer A → OfCustomer A → Ordering} {rows : List (OfCustomer A)}
    (old new : A → Option (List ℕ))
    → ((x : A) (customer : List ℕ) → old x ≡ Some customer → new x ≡ Some customer)
    → AreOwned cmp old rows → AreOwned cmp new rows
owned_grown {rows = rows} old new growth are = record {
  ascending = are.ascending;
  owned = all_map (λ o. old o.row ≡ Some o.customer) (λ o. new o.row ≡ Some o.customer)
      (λ o is. growth o.row o.customer is) rows are.owned;
}

-- tables that are sound for a site are sound for one that grew from it
pub sound_grown : (old new : Ownership) (t : Tables) → OwnershipGrows old new → IsSound old t
    → IsSound new t
sound_grown old new t growth sound = record {
  seats = owned_grown (λ r. old.seat r.name) (λ r. new.seat r.name)
      (λ r customer is. growth.seats r.name customer is) sound.seats;
  orders = record {
    rows = owned_grown (λ o. old.issuer o.issuer) (λ o. new.issuer o.issuer)
        (λ o customer is. growth.issuers o.issuer customer is) sound.orders.rows;
    terms = sound.orders.terms;
    in_pools = all_map (IsInPool old) (IsInPool new) (pool_grown old new growth) t.orders
        sound.orders.in_pools;
    apart = sound.orders.apart;
  };
  given = record {
    rows = owned_grown (λ g. old.issuer g.issuer) (λ g. new.issuer g.issuer)
        (λ g customer is. growth.issuers g.issuer customer is) sound.given.rows;
    keys_apart = sound.given.keys_apart;
    addresses_apart = sound.given.addresses_apart;
  };
  maps = record {
    maps_ascending = sound.maps.maps_ascending;
    texts_apart = sound.maps.texts_apart;
    links_ascending = sound.maps.links_ascending;
    owned = all_map (λ l. old.customer l.customer ≡ true) (λ l. new.customer l.customer ≡ true)
        (λ l is. growth.customers l.customer is) t.links sound.maps.owned;
    linked = sound.maps.linked;
  };
  devices = record {
    devices_ascending = sound.devices.devices_ascending;
    entries = owned_grown (λ e. old.seat e.seat) (λ e. new.seat e.seat)
        (λ e customer is. growth.seats e.seat customer is) sound.devices.entries;
    ids_apart = sound.devices.ids_apart;
    customers = all_map (λ d. old.customer d.customer ≡ true) (λ d. new.customer d.customer ≡ true)
        (λ d is. growth.customers d.customer is) t.devices sound.devices.customers;
    numbered = sound.devices.numbered;
    of_devices = sound.devices.of_devices;
  };
  origins = sound.origins;
  cursors = sound.cursors;
  references = sound.references;
  ledgers = sound.ledgers;
}

-- a growth of a growth
pub growth_more : (first site last : Ownership) → OwnershipGrows first site → OwnershipGrows site last
    → OwnershipGrows first last
growth_more first site last one two = record {
  customers = λ customer is. two.customers customer (one.customers customer is);
  issuers = λ issuer customer is. two.issuers issuer customer (one.issuers issuer customer is);
  seats = λ seat customer is. two.seats seat customer (one.seats seat customer is);
  pools = λ customer block is. two.pools customer block (one.pools customer block is);
}

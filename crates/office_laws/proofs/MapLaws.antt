-- A new map and a new link keep the tables sound, and how links lie with their customers.
use Rattle.std.proofs.Common.{◌≡◌, Ordering}
use Rattle.text_core.proofs.Kit.{ℕ, true, false, List, Option, None, bytes_eq}
use Rattle.fusemap_core.specs.Prelude.{Map}
use Rattle.site_core.specs.Prelude.{Ownership}
use Rattle.office_laws.proofs.Types.{OfCustomer, Link, MapRow}
use Rattle.office_tables.specs.Prelude.{Tables, link_at, link_cmp, map_at, map_cmp, map_with, with_row, text_cmp, with_link, with_map}
use Rattle.office_tables.proofs.Placing.{all_map, all_placed, placed_ascending}
use Rattle.office_tables.proofs.TotalOrders.{map_total, link_total}
use Rattle.office_rules.specs.Prelude.{map_named}
use Rattle.office_laws.specs.Prelude.{AreSoundMaps, IsLinked, IsSound}
use Rattle.office_laws.proofs.MapRows.{body_is_new, linked_after, text_turned}
use Rattle.office_laws.proofs.NamedMaps.{named_after_link, named_after_map}
use Rattle.office_laws.proofs.DeviceRows.{ledgers_kept, referred_after_link}
use Rattle.office_laws.proofs.Placed.{pairwise_placed}

abbrev pub solo_link_cmp : Link → Link → Ordering
solo_link_cmp a b = text_cmp a.digest b.digest

-- maps and links, with a link to a map that is there, or with a new map that nobody has a link to
module _ {owners : Ownership} (t : Tables) (sound : AreSoundMaps owners t.maps t.links) where
  pub maps_with_link : (l : OfCustomer Link) → owners.customer l.customer ≡ true → IsLinked t.maps l
      → AreSoundMaps owners t.maps (with_row link_cmp l t.links)
  maps_with_link l mine linked = record {
    maps_ascending = sound.maps_ascending;
    texts_apart = sound.texts_apart;
    links_ascending = placed_ascending link_cmp link_total l t.links sound.links_ascending;
    owned = all_placed (λ l. owners.customer l.customer ≡ true) link_cmp l t.links mine sound.owned;
    linked = all_placed (IsLinked t.maps) link_cmp l t.links linked sound.linked;
  }

  pub maps_with_map : (id : ℕ) (body : List ℕ) → map_at id t ≡ None → map_with body t ≡ None
      → AreSoundMaps owners (with_row map_cmp (record { id = id; body = body }) t.maps) t.links
  maps_with_map id body fresh new =
      let m : MapRow = record { id = id; body = body } in
      record {
        maps_ascending = placed_ascending map_cmp map_total m t.maps sound.maps_ascending;
        texts_apart = pairwise_placed map_cmp m (λ m other. bytes_eq m.body other.body ≡ false)
            (text_turned m) t.maps (body_is_new body t new) sound.texts_apart;
        links_ascending = sound.links_ascending;
        owned = sound.owned;
        linked = all_map (IsLinked t.maps) (IsLinked (with_row map_cmp m t.maps))
            (linked_after t id body fresh) t.links sound.linked;
      }

module _ {owners : Ownership} {t : Tables} (sound : IsSound owners t) where
  abbrev named : Tables → List ℕ → List ℕ → Option Map
  named t = λ customer digest. map_named customer digest t

  pub link_sound : (l : OfCustomer Link) → owners.customer l.customer ≡ true → IsLinked t.maps l
      → link_at l.customer l.row.digest t ≡ None → IsSound owners (with_link l t)
  link_sound l mine linked none = record {
    seats = sound.seats;
    orders = sound.orders;
    given = sound.given;
    maps = maps_with_link t sound.maps l mine linked;
    devices = sound.devices;
    origins = sound.origins;
    cursors = sound.cursors;
    references = referred_after_link t.orders t.links t.devices l sound.references;
    ledgers = ledgers_kept t.orders t.links t.ledger (named t) (named (with_link l t))
        (λ d there. named_after_link t l none d.customer d.row.map there) t.devices
        sound.references sound.ledgers;
  }

  pub map_sound : (id : ℕ) (body : List ℕ) → map_at id t ≡ None → map_with body t ≡ None
      → IsSound owners (with_map (record { id = id; body = body }) t)
  map_sound id body fresh new = record {
    seats = sound.seats;
    orders = sound.orders;
    given = sound.given;
    maps = maps_with_map t sound.maps id body fresh new;
    devices = sound.devices;
    origins = sound.origins;
    cursors = sound.cursors;
    references = sound.references;
    ledgers = ledgers_kept t.orders t.links t.ledger (named t)
        (named (with_map (record { id = id; body = body }) t))
        (λ d _. named_after_map t id body fresh sound.maps.linked d.customer d.row.map) t.devices
        sound.references sound.ledgers;
  }

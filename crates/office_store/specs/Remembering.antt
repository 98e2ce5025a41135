-- The fuse maps that a keeper keeps, and when they are right.
use Rattle.std.specs.Prelude.{◌≡◌, ℕ, List, Option, Some, option_and_then}
use Rattle.sqlite.specs.Store.{Ghosts}
use Rattle.sqlite.specs.Held.{Held, state}
use Rattle.sqlite.specs.Tree.{Trees}
use Rattle.fusemap_core.specs.Prelude.{Map, map_in}
use Rattle.fusemap_core.specs.Numbers.{AreMapsOfNumbers}
use Rattle.fusemap_core.specs.declared.numbered.NumberCache.{NumberCache}
use Rattle.office_tables.specs.Prelude.{map_at, Tables}
use Rattle.office_sql.specs.Prelude.{IsReady}
use Rattle.store_inspection.specs.Prelude.{IsOfSite}
use Rattle.office_store.specs.Keeping.{is_honest_at, is_open_at, tables_of}

-- the fuse map that the text of a number describes, if it describes one
abbrev pub fuse_map_at : Tables → ℕ → Option Map
fuse_map_at t id = option_and_then (λ m. map_in m.body) (map_at id t)

-- each fuse map of a number is so still
abbrev pub StayMapped : Tables → Tables → Type 0
StayMapped old new = (id : ℕ) (map : Map) → fuse_map_at old id ≡ Some map → fuse_map_at new id ≡ Some map

-- the connection is ready, while it is open the maps that are kept are right, and whatever a crash leaves is a store of the site
pub record RemembersRight {S : Type 0} (g : Ghosts S) (conn : Held S) (site : List ℕ) (maps : NumberCache) : Type 0 where
  pub ready : IsReady (state g conn)
  pub right : is_open_at g conn → AreMapsOfNumbers (fuse_map_at (tables_of g conn)) maps
  pub left : is_honest_at g conn → (db : Trees) → (state g conn).may_leave db → IsOfSite site db

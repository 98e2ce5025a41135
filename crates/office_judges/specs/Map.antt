-- What one link adds to a count, and whether a map has a text.
use Rattle.std.specs.Prelude.{◌≡◌, ◌+◌, ℕ, List, Bool, true, false, min, Option, Some, None, bytes_eq}
use Rattle.office_tables.specs.declared.rows.OfCustomer.{OfCustomer}
use Rattle.office_tables.specs.declared.rows.Link.{Link}
use Rattle.office_tables.specs.declared.rows.MapRow.{MapRow}
use Rattle.office_rules.specs.Prelude.{map_limit}
use Rattle.office_judges.specs.declared.map.LinkCount.{LinkCount}

-- one link more is counted, up to the limit of maps, and the walk goes on
pub record Counts (old : LinkCount) (row : OfCustomer Link) (goes_on : Bool) (new : LinkCount) : Type 0 where
  pub always : goes_on ≡ true
  pub count : new.count ≡ min (old.count + 1) map_limit

-- the map that was found has the text
abbrev pub has_text : List ℕ → Option MapRow → Bool
has_text text None = false
has_text text (Some m) = bytes_eq text m.body

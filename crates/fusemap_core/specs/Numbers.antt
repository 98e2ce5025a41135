-- Fuse maps that are kept by number, and when they are right.
use Rattle.std.specs.Prelude.{◌≡◌, ℕ, All, List, map, Option, Some}
use Rattle.fusemap_core.specs.Map.{Map}
use Rattle.fusemap_core.specs.declared.numbered.NumberedMap.{NumberedMap}
use Rattle.fusemap_core.specs.declared.numbered.NumberCache.{NumberCache}

-- the map is that of its number
abbrev pub IsMapOfNumber : (ℕ → Option Map) → NumberedMap → Type 0
IsMapOfNumber map_of one = map_of one.id ≡ Some one.map

-- each map that is kept is that of its number
abbrev pub AreMapsOfNumbers : (ℕ → Option Map) → NumberCache → Type 0
AreMapsOfNumbers map_of s = All (IsMapOfNumber map_of) s.kept.items

-- the numbers of the maps that are kept, the one that was asked for last first
abbrev pub numbers_of : NumberCache → List ℕ
numbers_of s = map (λ one. one.id) s.kept.items

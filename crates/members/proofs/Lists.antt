-- The arrays of JSON and of TOML as lists.
use Rattle.std.proofs.Common.{◌≡◌, List, [], ◌∷◌, map, refl, ap}
use Rattle.serde_json.specs.View.{view as json_view, items_view as json_items_view}
use Rattle.serde_json.specs.declared.value.Value.{Value as JsonValue}
use Rattle.toml.specs.View.{view as toml_view, items_view as toml_items_view}
use Rattle.toml.specs.declared.value.Value.{Value as TomlValue}
use Rattle.members.specs.Prelude.{json_items, toml_items}

pub json_list : (vs : List JsonValue) → json_items (json_items_view vs) ≡ map json_view vs
json_list [] = refl
json_list (v ∷ vs) = ap (λ ds. json_view v ∷ ds) (json_list vs)

pub toml_list : (vs : List TomlValue) → toml_items (toml_items_view vs) ≡ map toml_view vs
toml_list [] = refl
toml_list (v ∷ vs) = ap (λ ds. toml_view v ∷ ds) (toml_list vs)

-- The request that an input has, and the reply that came.
use Rattle.std.specs.Prelude.{◌≡◌, ℕ, List, ◌∷◌, ◌++◌, codes, false, None, Some}
use Rattle.serde_json.specs.Data.{Data}
use Rattle.serde_json.specs.Find.{get}
use Rattle.serde_json.specs.Written.{compact_text, has_float}
use Rattle.members.specs.Prelude.{json_of}

-- The input is a line `POST`, a space and the path, and behind it a JSON value without a number, of
-- which the members are the compact JSON.
pub record IsWanted (input : List ℕ) (path : List ℕ) (members : List ℕ) : Type 0 where
  pub body : List ℕ
  pub value : Data
  pub line : input ≡ codes "POST " ++ path ++ 10 ∷ body
  pub reads : json_of body ≡ Some value
  pub unnumbered : get (codes "nr") value ≡ None
  pub compact : has_float value ≡ false → members ≡ compact_text value

-- The page of an empty database.
use Rattle.std.specs.Prelude.{◌≡◌, ℕ, List, All, drop, take}
use Rattle.store_file.specs.declared.page.TheConstants.{HEAD, HEAD_BYTES}

-- these bytes are the head of the page, and zeros behind it
pub record IsPage (bytes : List ℕ) : Type 0 where
  pub head : take HEAD_BYTES bytes ≡ HEAD
  pub zeros : All (λ byte. byte ≡ 0) (drop HEAD_BYTES bytes)

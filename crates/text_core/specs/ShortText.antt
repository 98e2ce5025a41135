-- A short text in place.
use Rattle.std.specs.Prelude.{◌≡◌, true, take, ℕ, List}
use Rattle.std.specs.Str.{is_utf8}
use Rattle.text_core.specs.InPlace.{AreAtFront}

-- a text at the front of so many bytes, with zeros after it
pub record IsShortText (size : ℕ) (bytes : List ℕ) (len : ℕ) : Type 0 where
  pub front : AreAtFront size 0 bytes len
  pub is_text : is_utf8 (take len bytes) ≡ true

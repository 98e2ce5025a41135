-- When a read-back says that all of a batch is burnt, and nothing else.
use Rattle.std.specs.Prelude.{◌≡◌, ℕ, ◌↔◌, true, false, is_some}
use Rattle.std.specs.FinSet as set
use Rattle.std.specs.FinMap as map
use Rattle.fusemap_core.specs.declared.pos.Pos.{Pos}
use Rattle.fusemap_core.specs.Prelude.{Map}
use Rattle.fuse_image.specs.Prelude.{KeyTable, keys_union, is_hidden, is_hidden_key, Positions, AreKeys}
use Rattle.fuse_image.specs.declared.image.Image.{Image}
use Rattle.fuse_image.specs.declared.redaction.ReadBack.{ReadBack}
use Rattle.fuse_plan.specs.declared.verdict.Verdict.TheVariants.{Match}
use Rattle.fuse_plan.specs.Outcome.{seen, verdict_of}

-- no position of the batch, and no key of it that isn't known, is read-protected by these burnt positions
pub record StaysReadable (m : Map) (burnt batch : Positions) (known asked : KeyTable) : Type 0 where
  pub bits : (p : Pos) → set.contains batch p ≡ true → is_hidden m burnt p ≡ false
  pub keys : (b : ℕ) → is_some (map.get asked b) ≡ true → is_some (map.get known b) ≡ false → is_hidden_key m burnt b ≡ false

-- what is burnt in the chip when all of the batch is
abbrev pub with_batch : Image → Positions → KeyTable → Image
with_batch a batch asked = record { burnt = set.union a.burnt batch; keys = keys_union a.keys asked }

-- where keys are those of key blocks alone, and the batch stays readable, a read-back matches exactly where it is what the chip shows when all of the batch is
-- burnt and nothing else
abbrev pub MatchLaw : Type 0
MatchLaw = (m : Map) (a : Image) (batch : Positions) (asked : KeyTable) (r : ReadBack)
    → AreKeys m a.keys → AreKeys m asked → AreKeys m r.shown
    → StaysReadable m (set.union a.burnt batch) batch a.keys asked
    → (verdict_of m a batch asked r ≡ Match) ↔ (r ≡ seen m (with_batch a batch asked))

-- Lists at the front of arrays give the arrays back.
use Rattle.std.specs.Prelude.{◌≡◌, ℕ, ◌-◌, List, [], ◌++◌, length, take, replicate}
use Rattle.std.proofs.Common.{ap₂}
use Rattle.text_core.specs.Prelude.{array_again, length_again, AreAtFront}
use Rattle.fuse_image.specs.declared.blocks.Block.TheInside as block
use Rattle.fuse_image.specs.declared.blocks.Blocks.TheInside as blocks

-- the words at the front of a block's array, with zeros behind them, are that array again, and as many as the block says
pub block_again : (words : List ℕ) (len : ℕ) → AreAtFront 8 0 words len
    → ◌≡◌ {A = block.Inside} (record { words = take len words ++ replicate (8 - length (take len words)) 0; len = length (take len words) })
    (record { words = words; len = len })
block_again words len h =
    ap₂ (λ (a : List ℕ) (n : ℕ). let r : block.Inside = record { words = a; len = n } in r) (array_again 8 0 words len h) (length_again 8 0 words len h)

-- the blocks at the front of an array of blocks, with empty ones behind them, are that array again, and as many as `len` says
pub blocks_again : (array : List (List ℕ)) (len : ℕ) → AreAtFront 4 [] array len
    → ◌≡◌ {A = blocks.Inside} (record { array = take len array ++ replicate (4 - length (take len array)) []; len = length (take len array) })
    (record { array = array; len = len })
blocks_again array len h =
    ap₂ (λ (a : List (List ℕ)) (n : ℕ). let r : blocks.Inside = record { array = a; len = n } in r) (array_again 4 [] array len h)
    (length_again 4 [] array len h)

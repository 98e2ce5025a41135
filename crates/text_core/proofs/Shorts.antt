-- A text copied to the front of zeros.
use Rattle.std.proofs.Common.{◌≡◌, ◌-◌, ◌≤◌, ◌++◌}
use Rattle.text_core.proofs.Kit.{ℕ, List, length, drop, replicate, ◌∙◌, arith, length-append, IsUtf8, is_utf8-from_IsUtf8, drop-replicate, length-replicate}
use Rattle.text_core.proofs.Kit.{drop-append_seam, take-append_seam}
use Rattle.text_core.specs.Prelude.{IsShortText}

pub IsShortText-copied : (size : ℕ) (text : List ℕ) → IsUtf8 text → length text ≤ size
    → IsShortText size (text ++ drop (length text) (replicate size 0)) (length text)
IsShortText-copied size text utf8 low =
    let zeros : drop (length text) (replicate size 0) ≡ replicate (size - length text) 0 = drop-replicate (length text) size 0 in
    record {
      front = record {
        room = rw (length-append, zeros, length-replicate) (omega arith);
        within = low;
        blanks = drop-append_seam text (drop (length text) (replicate size 0)) ∙ zeros;
      };
      is_text = rw take-append_seam (is_utf8-from_IsUtf8 text utf8);
    }

-- What is left of the words of a chip once its keys are replaced by their digests.
use Rattle.std.proofs.Common.{◌≡◌, ◌+◌, ◌*◌, ◌/◌, ◌%◌, ◌<◌, ◌&&◌, ◌==◌, if◌then◌else◌}
use Rattle.text_core.proofs.Kit.{ℕ, Bool, true, false, not, List, [], Some, None, refl, sym, ap, ap₂, ◌∙◌, inl, inr, arith, slice_index, slice_index_or}
use Rattle.text_core.proofs.Kit.{is_some, bit_at, and_parts, and_left, not-true, cases_lt, false≢true}
use Rattle.std.specs.FinSet as set
use Rattle.fusemap_core.specs.declared.pos.Pos.{Pos}
use Rattle.fusemap_core.specs.Prelude.{Map}
use Rattle.fuse_image.specs.Prelude.{table_where, is_key_block, is_key_position, IsPlace, pos_total, contains-places_where, is_place, places_where, bit_in}
use Rattle.fuse_image.specs.Prelude.{words_have_one, shown_key, plain_ones, redacted, AreKeys, AreOutsideKeys}
use Rattle.fuse_image.proofs.Sets.{places_where-at, none_outside, same_places}
use Rattle.fuse_image.proofs.Tables.{get_within, get_past}

-- the words of all blocks, eight a block
abbrev pub AreWordsOf : List (List ℕ) → List ℕ → Type 0
AreWordsOf blocks words = (k : ℕ) → k < 32 → slice_index words k ≡ slice_index (slice_index_or blocks (k / 8) []) (k % 8)

same_bit : (blocks : List (List ℕ)) (words : List ℕ) → AreWordsOf blocks words → (p : Pos) → IsPlace p → bit_in words p ≡ words_have_one blocks p
same_bit blocks words each p is =
    let block : (8 * p.block + p.bit / 32) / 8 ≡ p.block = omega (arith, is.1) in
    let index : (8 * p.block + p.bit / 32) % 8 ≡ p.bit / 32 = omega (arith, is.1) in
    ap (λ (word : ℕ). bit_at word (p.bit % 32) == 1)
    (each (8 * p.block + p.bit / 32) (omega (arith, is.0, is.1)) ∙ ap₂ (λ (b i : ℕ). slice_index (slice_index_or blocks b []) i) block index)

-- the ones without those of key fields
pub plain_ones-words : (m : Map) (blocks : List (List ℕ)) (words : List ℕ) → AreWordsOf blocks words
    → set.difference (places_where (bit_in words)) (places_where (is_key_position m)) ≡ plain_ones m blocks
plain_ones-words m blocks words each =
    let ones = places_where (bit_in words) in
    let keys = places_where (is_key_position m) in
    sym (same_places (λ p. words_have_one blocks p && not (is_key_position m p)) (set.difference ones keys)
    (λ p is. sym (
    set.contains-difference pos_total ones keys p
    ∙ ap₂ (λ (a b : Bool). a && not b) (places_where-at (bit_in words) p is ∙ same_bit blocks words each p is) (places_where-at (is_key_position m) p is)))
    (λ p not_one. set.contains-difference pos_total ones keys p ∙ and_left _ _ (none_outside (bit_in words) p not_one)))

-- no one that is left lies in a key field
pub AreOutsideKeys-plain_ones : (m : Map) (blocks : List (List ℕ)) → AreOutsideKeys m (plain_ones m blocks)
AreOutsideKeys-plain_ones m blocks p has =
    let parts =
    and_parts (is_place p) (words_have_one blocks p && not (is_key_position m p))
    (sym (contains-places_where (λ q. words_have_one blocks q && not (is_key_position m q)) p) ∙ has) in
    not-true (is_key_position m p) (and_parts (words_have_one blocks p) (not (is_key_position m p)) parts.1).1

-- each key that is shown is one of a key field
key_of_shown : (is_key has_ones : Bool) (digest : List ℕ) → is_some (if is_key && has_ones then Some digest else None) ≡ true → is_key ≡ true
key_of_shown true has_ones digest some = refl
key_of_shown false has_ones digest some = absurd (false≢true some)

pub AreKeys-shown : (m : Map) (blocks : List (List ℕ)) → AreKeys m (table_where (shown_key m blocks))
AreKeys-shown m blocks b some = elim (cases_lt b 4) as (λ _. (b < 4) × (is_key_block m b ≡ true)) [
  | inl low ↦ (low, key_of_shown (is_key_block m b) _ _ (ap is_some (sym (get_within (shown_key m blocks) b low)) ∙ some))
  | inr high ↦ absurd (false≢true (ap is_some (sym (get_past (shown_key m blocks) b (λ low. omega (arith, low, high)))) ∙ some))
]

pub AreKeys-redacted : (m : Map) (blocks : List (List ℕ)) → AreKeys m (redacted m blocks).shown
unfolding redacted
AreKeys-redacted m blocks = AreKeys-shown m blocks

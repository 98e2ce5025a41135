-- One more element at the front of an array.
use Rattle.std.proofs.Common.{◌≡◌, ℕ, ◌+◌, ◌-◌, ◌<◌, List, set, drop, replicate, sym, ap, ◌∙◌, arith, drop-set-lt, drop-drop, length-set}
use Rattle.std.proofs.lemmas.List.{drop-replicate}
use Rattle.text_core.specs.Prelude.{AreAtFront}

pub one_more_at_front : {X : Type 0} (size : ℕ) (blank : X) (array : List X) (len : ℕ) (x : X) → AreAtFront size blank array len → len < size
    → AreAtFront size blank (set array len x) (len + 1)
one_more_at_front size blank array len x h low = record {
  room = length-set array len x ∙ h.room;
  within = omega (arith, low);
  blanks =
      drop-set-lt (len + 1) array len x (omega arith) ∙ (sym (drop-drop 1 len array) ∙ (ap (drop 1) h.blanks ∙ (drop-replicate 1 (size - len) blank
      ∙ (let left : size - len - 1 ≡ size - (len + 1) = omega arith in ap (λ k. replicate k blank) left))));
}

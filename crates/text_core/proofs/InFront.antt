-- More elements at the front of an array.
use Rattle.std.proofs.Common.{◌≡◌, ℕ, ◌+◌, ◌-◌, ◌≤◌, List, ◌++◌, length, take, drop, replicate, sym, ap, ◌∙◌, arith, length-append, length-drop, drop-drop}
use Rattle.std.proofs.Common.{length-take-le, take-append-drop}
use Rattle.std.proofs.lemmas.List.{drop-replicate}
use Rattle.text_core.specs.Prelude.{AreAtFront}

-- an array with further elements put after those at its front
pub appended_at_front : {X : Type 0} (size : ℕ) (blank : X) (array new put : List X) (len : ℕ) → AreAtFront size blank array len → len + length new ≤ size
    → take (len + length new) put ≡ take len array ++ new → drop (len + length new) put ≡ drop (len + length new) array
    → AreAtFront size blank put (len + length new)
appended_at_front size blank array new put len h room front rest =
    let n : ℕ = len + length new in
    let whole : length put ≡ length (take n put) + length (drop n put) = sym (ap length (take-append-drop n put)) ∙ length-append (take n put) (drop n put) in
    let fronts : length (take n put) ≡ len + length new =
    ap length front ∙ (length-append (take len array) new ∙ ap (λ k. k + length new) (length-take-le len array (omega (arith, h.room, h.within)))) in
    let rests : length (drop n put) ≡ length array - n = ap length rest ∙ length-drop n array in
    let left : size - len - length new ≡ size - (len + length new) = omega arith in
    record {
      room = omega (arith, whole, fronts, rests, h.room, room);
      within = room;
      blanks =
          rest ∙ (sym (drop-drop (length new) len array) ∙ (ap (drop (length new)) h.blanks
          ∙ (drop-replicate (length new) (size - len) blank ∙ ap (λ k. replicate k blank) left)));
    }

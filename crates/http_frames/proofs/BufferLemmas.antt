-- Bytes that move within the buffer, and into it.
use Rattle.std.proofs.Common.{◌≡◌, ℕ, ◌+◌, ◌-◌, ◌<◌, ◌≤◌, List, [], ◌++◌, length, take, drop, sym, ap, ◌∙◌, subst, arith, append_assoc, add-zero, Option, Some}
use Rattle.std.proofs.Common.{None, length-drop, inl, inr}
use Rattle.std.specs.List.{copy_within}
use Rattle.std.proofs.lemmas.List.{drop-take}
use Rattle.std.proofs.lemmas.List.Edits.{take-paste}
use Rattle.std.proofs.Math.Seq.{take-add}
use Rattle.http_frames.specs.Prelude.{IsUndecided, IsCutOff, Takes, ReadsBytes, KeepsBytes, count_of}
use Rattle.http_frames.specs.declared.transfer.Transfer.{Transfer}
use Rattle.http_frames.specs.declared.transfer.Transfer.TheVariants.{Moved, Interrupted, Failed}

pub moved_down : (bytes : List ℕ) (from len : ℕ) → from ≤ len → len ≤ length bytes
    → take (len - from) (copy_within bytes from len 0) ≡ drop from (take len bytes)
moved_down bytes from len ordered fits =
    let n = len - from in
    let whole : from + n ≡ len = omega arith in
    let front : 0 + n ≡ n = omega arith in
    ap (λ k. take k (copy_within bytes from len 0)) (sym front)
    ∙ take-paste bytes 0 (drop from bytes) n (omega arith) (omega (arith, length-drop from bytes))
    ∙ sym (drop-take from n bytes) ∙ ap (λ k. drop from (take k bytes)) whole

-- where none were moved, the first bytes stay
pub unmoved : (old new : List ℕ) (len count : ℕ) → take len new ≡ take len old → count ≡ 0 → take (len + count) new ≡ take len old
unmoved old new len count before none = ap (λ k. take k new) (ap (λ k. len + k) none ∙ add-zero len) ∙ before

-- what one call takes from the bytes left comes to the bytes held
taken : (old new : List ℕ) (len : ℕ) (result : Transfer) (left after : List ℕ) → take len new ≡ take len old → len ≤ length old → length new ≡ length old
    → Takes left after (drop len new) result
    → (take len old ++ left ≡ take (len + count_of result) new ++ after) × (len < length old × result ≡ Moved 0 → after ≡ [])
taken old new len (Moved count) left after before room same takes = (
  ap (λ s. take len old ++ s) takes.0 ∙ sym (append_assoc (take len old) (take count (drop len new)) after)
      ∙ ap (λ s. s ++ after) (sym (take-add len count new ∙ ap (λ s. s ++ take count (drop len new)) before)),
  λ ended.
      let none : count ≡ 0 = cc in
      let empty = takes.1 none (omega (arith, length-drop len new, ended.0)) in
      sym (subst (λ k. left ≡ take k (drop len new) ++ after) none takes.0) ∙ empty,
)
taken old new len Interrupted left after before room same takes =
    let none = sym before ∙ ap (λ k. take k new) (sym (add-zero len)) in
    ((λ i. none i ++ sym takes i), λ ended. cc)
taken old new len Failed left after before room same takes =
    let none = sym before ∙ ap (λ k. take k new) (sym (add-zero len)) in
    ((λ i. none i ++ sym takes i), λ ended. cc)

pub kept : (old new : List ℕ) (len : ℕ) (result : Transfer) (left after : Option (List ℕ)) → take len new ≡ take len old → len ≤ length old
    → length new ≡ length old → ReadsBytes left after (drop len new) result
    → KeepsBytes (take len old) left (take (len + count_of result) new) after (len < length old × result ≡ Moved 0)
kept old new len result None after before room same reads = reads
kept old new len result (Some left) None before room same reads = reads
kept old new len result (Some left) (Some after) before room same reads = taken old new len result left after before room same reads

-- what isn't empty is cut off
pub cut_off : (rest : List ℕ) → IsUndecided rest → (rest ≡ [] → ⊥) → IsCutOff rest
cut_off rest (inl empty) some = absurd (some empty)
cut_off rest (inr cut) some = cut

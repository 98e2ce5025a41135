use Rattle.std.proofs.Common.{◌≡◌, ◌+◌, ◌-◌, ℕ, length, ◌++◌, take, ap, ◌∙◌, arith, List, length-take-le}
use Rattle.std.proofs.lemmas.Slice.{drop-put_mid, take-put_mid}
use Rattle.text_core.proofs.InFront.{appended_at_front}
use Rattle.text_core.proofs.short_bytes.ShortBytes.append.Goals as goal

pub invariant_of-self : goal.invariant_of-self
invariant_of-self g c =
    let is = c.self.invariant in
    let array = c.self.inside.array in
    let len = c.self.inside.len in
    let bytes = c.args.bytes.now in
    let put = c.copy_from_slice.new.self in
    let size = length-take-le len array (omega (arith, is.room, is.within)) in
    let count : length put ≡ length bytes = ap length c.copy_from_slice.ensures.after in
    appended_at_front g.row.N 0 array bytes _ len is (omega (arith, size, ap length c.self.view_is, c.requires))
    (take-put_mid len (len + length bytes - len) array put (len + length bytes) (omega (arith, count)) (omega (arith, is.room, is.within))
    ∙ ap (λ (ys : List ℕ). take len array ++ ys) c.copy_from_slice.ensures.after)
    (drop-put_mid len (len + length bytes - len) array put (len + length bytes) (omega arith) (omega (arith, is.room, is.within)) (omega (arith, count)))

-- Pending work as bytes, and back.
use Rattle.std.proofs.Common.{◌≡◌, ℕ, ◌+◌, List, [], ◌++◌, length, drop, sym, ap, ap₂, ◌∙◌, arith, length-append, append_assoc, append-nil, drop-drop}
use Rattle.std.proofs.Math.Seq.{drop-append_seam}
use Rattle.fusemap_core.specs.Prelude.{Map, IsMap}
use Rattle.fuse_image.specs.Prelude.{HoldsDigests, KeyTable, Positions, AreBits, AreKeysOf, IsPending}
use Rattle.fuse_image.specs.declared.pending.Pending.{Pending}
use Rattle.fuse_columns.specs.Prelude.{bits_column, bits_in, bits_length, key_blocks, keys_column, keys_in, keys_length, todo_column, pending_in}
use Rattle.fuse_columns.proofs.KeyBytes.{AreKeysOf-keys_in, keys_return, length-keys}
use Rattle.fuse_columns.proofs.SetBytes.{AreBits-bits_in, bits_return, length-bits_column}

pub IsPending-pending_in : (m : Map) (bytes : List ℕ) → IsPending m (pending_in m bytes)
unfolding pending_in
IsPending-pending_in m bytes = record {
  first = AreBits-bits_in m bytes;
  second = AreBits-bits_in m (drop (bits_length m) bytes);
  keys = AreKeysOf-keys_in m (drop (bits_length m + bits_length m) bytes);
}

-- a table of digests has 33 bytes for each key field
pub length-keys_column : (m : Map) (t : KeyTable) → HoldsDigests t → length (keys_column m t) ≡ keys_length m
unfolding keys_column
length-keys_column m t digests = length-keys t (key_blocks m.fields) digests

pub keys_return_whole : (m : Map) (t : KeyTable) → AreKeysOf m t → keys_in m (keys_column m t) ≡ t
keys_return_whole m t in_map =
    ap (keys_in m) (sym (append-nil (keys_column m t))) ∙ keys_return m t [] in_map

pub bits_return_whole : (m : Map) → IsMap m → (s : Positions) → AreBits m s → bits_in m (bits_column m s) ≡ s
bits_return_whole m is s bits =
    ap (bits_in m) (sym (append-nil (bits_column m s))) ∙ bits_return m is s [] bits

pub length-todo_column : (m : Map) (work : Pending) → HoldsDigests work.keys → length (todo_column m work) ≡ bits_length m + (bits_length m + keys_length m)
unfolding todo_column
length-todo_column m work digests =
    let first = bits_column m work.first in
    let second = bits_column m work.second in
    omega (
      arith,
      length-append (first ++ second) (keys_column m work.keys),
      length-append first second,
      length-bits_column m work.first,
      length-bits_column m work.second,
      length-keys_column m work.keys digests,
    )

-- work that lies in the map comes back whole
pub work_returns : (m : Map) → IsMap m → (work : Pending) → IsPending m work → pending_in m (todo_column m work) ≡ work
unfolding pending_in todo_column
work_returns m is work in_map =
    let n : ℕ = bits_length m in
    let first : List ℕ = bits_column m work.first in
    let second : List ℕ = bits_column m work.second in
    let keys : List ℕ = keys_column m work.keys in
    let bytes : List ℕ = first ++ second ++ keys in
    let split : bytes ≡ first ++ (second ++ keys) = append_assoc first second keys in
    let rest : drop n bytes ≡ second ++ keys =
    ap₂ (λ (k : ℕ) (bs : List ℕ). drop k bs) (sym (length-bits_column m work.first)) split ∙ drop-append_seam first (second ++ keys) in
    let last : drop (n + n) bytes ≡ keys =
    sym (drop-drop n n bytes) ∙ (ap₂ (λ (k : ℕ) (bs : List ℕ). drop k bs) (sym (length-bits_column m work.second)) rest ∙ drop-append_seam second keys) in
    let e0 : bits_in m bytes ≡ work.first = ap (bits_in m) split ∙ bits_return m is work.first (second ++ keys) in_map.first in
    let e1 : bits_in m (drop n bytes) ≡ work.second = ap (bits_in m) rest ∙ bits_return m is work.second keys in_map.second in
    let e2 : keys_in m (drop (n + n) bytes) ≡ work.keys = ap (keys_in m) last ∙ keys_return_whole m work.keys in_map.keys in
    λ i. record { first = e0 i; second = e1 i; keys = e2 i }

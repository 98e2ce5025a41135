-- The laws of columns, by the lemmas of their parts.
use Rattle.std.proofs.Common.{[], sym, ap, ◌∙◌, append-nil}
use Rattle.fuse_columns.specs.Prelude.{bits_column, bits_in, PlainBitsComeBack, BitsComeBack, KeysComeBack, ImageComesBack, WorkComesBack, BitsInMap, KeysInMap}
use Rattle.fuse_columns.specs.Prelude.{PendingInMap, BitsHaveLength, KeysHaveLength, WorkHasLength, BitsBytesComeBack, KeyBytesComeBack, WorkBytesComeBack}
use Rattle.fuse_columns.proofs.BytesBack.{bytes_back}
use Rattle.fuse_columns.proofs.WorkBytesBack.{key_bytes_back, work_bytes_back}
use Rattle.fuse_columns.proofs.KeyBytes.{AreKeysOf-keys_in}
use Rattle.fuse_columns.proofs.SetBytes.{AreBits-bits_in, bits_back, length-bits_column}
use Rattle.fuse_columns.proofs.WorkBytes.{IsPending-pending_in, bits_return_whole, keys_return_whole, work_returns, length-keys_column, length-todo_column}

pub plain_bits_come_back : PlainBitsComeBack
plain_bits_come_back m is s = ap (bits_in m) (sym (append-nil (bits_column m s))) ∙ bits_back m is s []

pub bits_come_back : BitsComeBack
bits_come_back m is s bits = bits_return_whole m is s bits

pub keys_come_back : KeysComeBack
keys_come_back m t in_map = keys_return_whole m t in_map

pub image_comes_back : ImageComesBack
image_comes_back m is image bits keys =
    let burnt = bits_return_whole m is image.burnt bits in
    let table = keys_return_whole m image.keys keys in
    λ i. record { burnt = burnt i; keys = table i }

pub work_comes_back : WorkComesBack
work_comes_back m is work in_map = work_returns m is work in_map

pub bits_lie_in_map : BitsInMap
bits_lie_in_map m bytes = AreBits-bits_in m bytes

pub keys_lie_in_map : KeysInMap
keys_lie_in_map m bytes = AreKeysOf-keys_in m bytes

pub work_lies_in_map : PendingInMap
work_lies_in_map m bytes = IsPending-pending_in m bytes

pub bits_have_length : BitsHaveLength
bits_have_length m s = length-bits_column m s

pub keys_have_length : KeysHaveLength
keys_have_length m t digests = length-keys_column m t digests

pub work_has_length : WorkHasLength
work_has_length m work digests = length-todo_column m work digests

pub bits_bytes_come_back : BitsBytesComeBack
bits_bytes_come_back m is bytes column = bytes_back m is bytes column

pub key_bytes_come_back : KeyBytesComeBack
key_bytes_come_back m is bytes keys = key_bytes_back m is bytes keys

pub work_bytes_come_back : WorkBytesComeBack
work_bytes_come_back m is bytes column = work_bytes_back m is bytes column

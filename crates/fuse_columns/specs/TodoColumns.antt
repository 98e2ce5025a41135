-- The bytes of what is still to be burnt.
use Rattle.std.specs.Prelude.{ℕ, ◌+◌, List, ◌++◌, drop}
use Rattle.fusemap_core.specs.Prelude.{Map}
use Rattle.fuse_image.specs.declared.pending.Pending.{Pending}
use Rattle.fuse_columns.specs.BitsColumns.{bits_column, bits_in, bits_length}
use Rattle.fuse_columns.specs.KeysColumns.{keys_column, keys_in}

-- the bits of batch 1, the bits of batch 2, and the keys of batch 1
unfoldable pub todo_column : Map → Pending → List ℕ
todo_column m work = bits_column m work.first ++ bits_column m work.second ++ keys_column m work.keys

-- the work that bytes stand for, whatever they are
unfoldable pub pending_in : Map → List ℕ → Pending
pending_in m bytes = record {
  first = bits_in m bytes;
  second = bits_in m (drop (bits_length m) bytes);
  keys = keys_in m (drop (bits_length m + bits_length m) bytes);
}

-- Columns of nothing: zeros.
use Rattle.std.specs.Prelude.{◌≡◌, ℕ, ◌+◌}
use Rattle.std.specs.FinSet as set
use Rattle.std.specs.FinMap as map
use Rattle.text_core.specs.Prelude.{zeros}
use Rattle.fusemap_core.specs.Prelude.{Map}
use Rattle.fuse_image.specs.Prelude.{no_pending}
use Rattle.fuse_columns.specs.BitsColumns.{bits_column, bits_in, bits_length}
use Rattle.fuse_columns.specs.KeysColumns.{keys_column, keys_in, keys_length}
use Rattle.fuse_columns.specs.TodoColumns.{todo_column, pending_in}

-- zeros, however many, stand for nothing
pub record ZerosAreNothing (m : Map) (count : ℕ) : Type 0 where
  pub bits : bits_in m (zeros count) ≡ set.empty
  pub keys : keys_in m (zeros count) ≡ map.empty
  pub work : pending_in m (zeros count) ≡ no_pending

-- a column that stands for nothing is zeros, as many as the map says
pub record NothingIsZeros (m : Map) : Type 0 where
  pub bits : bits_column m set.empty ≡ zeros (bits_length m)
  pub keys : keys_column m map.empty ≡ zeros (keys_length m)
  pub work : todo_column m no_pending ≡ zeros (bits_length m + (bits_length m + keys_length m))

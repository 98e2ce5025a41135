-- The words of this crate, passed on from one place. Declares nothing.
pub use Rattle.fuse_columns.specs.BitsColumns.{all_bytes, bits_length, block_bytes, byte_of, bytes_have_one, is_plain, outside_keys, start_of_block}
unfoldable pub use Rattle.fuse_columns.specs.BitsColumns.{bits_column, bits_in}
pub use Rattle.fuse_columns.specs.Images.{image_in}
pub use Rattle.fuse_columns.specs.KeysColumns.{key_blocks, key_bytes, key_in_bytes, key_of_bytes, keys_length}
unfoldable pub use Rattle.fuse_columns.specs.KeysColumns.{keys_column, keys_in}
pub use Rattle.fuse_columns.specs.Laws.{AreKeyBytes, BitsBytesComeBack, BitsComeBack, BitsHaveLength, BitsInMap, ImageComesBack, IsBitsColumn, IsKeyBytes}
pub use Rattle.fuse_columns.specs.Laws.{IsTodoColumn, KeyBytesComeBack, KeysComeBack, KeysHaveLength, KeysInMap, PendingInMap, PlainBitsComeBack}
pub use Rattle.fuse_columns.specs.Laws.{WorkBytesComeBack, WorkComesBack, WorkHasLength}
unfoldable pub use Rattle.fuse_columns.specs.TodoColumns.{pending_in, todo_column}
pub use Rattle.fuse_columns.specs.Words.{word_at, word_of_block}
unfoldable pub use Rattle.fuse_columns.specs.Words.{bytes_of_blocks, bytes_of_words}
pub use Rattle.fuse_columns.specs.Zeros.{NothingIsZeros, ZerosAreNothing}

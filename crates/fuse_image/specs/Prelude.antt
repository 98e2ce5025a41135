-- The words of this crate, passed on from one place. Declares nothing.
pub use Rattle.fuse_image.specs.Blocks.{are_blocks, blocks_of, is_block}
unfoldable pub use Rattle.fuse_image.specs.Blocks.{bytes_of_block}
pub use Rattle.fuse_image.specs.BlocksAgain.{block_again, blocks_again}
pub use Rattle.fuse_image.specs.Image.{has_nothing, image_union, image_without, IsImageWithin, visible}
pub use Rattle.fuse_image.specs.InMap.{AreBits, AreKeysOf, ReadBackInMap, ReadBacksInMap, SetsStay, TablesStay}
pub use Rattle.fuse_image.specs.Keys.{AreAmong, AreDigests, AreEachAmong, digests_again, digests_of, get-table_where, has_no_key, HoldsDigests, KeyTable, table}
pub use Rattle.fuse_image.specs.Keys.{table_where}
unfoldable pub use Rattle.fuse_image.specs.Keys.{keys_union, keys_without}
pub use Rattle.fuse_image.specs.Locks.{has_burnt_lock, is_burnt, is_key_block, lock_of, positions_in}
unfoldable pub use Rattle.fuse_image.specs.Locks.{is_hidden, is_hidden_key, is_key_position, is_write_protected, is_write_protected_key}
pub use Rattle.fuse_image.specs.Masks.{mask_of}
pub use Rattle.fuse_image.specs.Pending.{IsPending, no_pending}
pub use Rattle.fuse_image.specs.Places.{coded_pos, contains-places_where, is_empty, is_place, IsPlace, places_where, pos_cmp, pos_exact, pos_total, Positions}
pub use Rattle.fuse_image.specs.Places.{run, sets_meet}
pub use Rattle.fuse_image.specs.Redaction.{AreKeys, AreOutsideKeys, block_has_one, coding_field, has_coding_scheme, may_be_set, plain_ones, shown_key}
pub use Rattle.fuse_image.specs.Redaction.{shows_what_is_hidden, some_key, words_have_one, WordsFitMap}
unfoldable pub use Rattle.fuse_image.specs.Redaction.{redacted}
pub use Rattle.fuse_image.specs.Words.{bit_in, position_of_bit, word_of}
unfoldable pub use Rattle.fuse_image.specs.Words.{number_with, words_of_set}
pub use Rattle.fuse_image.specs.WordsAgain.{AreWords, contains-place_of, same_number, words_again}

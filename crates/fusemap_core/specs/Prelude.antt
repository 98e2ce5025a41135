-- The words of this crate, passed on from one place. Declares nothing.
pub use Rattle.fusemap_core.specs.Map.{bit_of, field_named, field_of, FieldsDisjoint, HasBit, HasItsLocks, HasLockFields, holds, id_at, id_of, is_field_named}
pub use Rattle.fusemap_core.specs.Map.{is_governed, is_lock, IsFieldOf, IsInBlock, IsInRange, IsKeyField, IsMap, IsPosition, IsSmall, IsSmallPosition, lock_at}
pub use Rattle.fusemap_core.specs.Map.{Map, NamesCodingField, NamesLockField, read_lock, word_count, write_lock}
pub use Rattle.fusemap_core.specs.MapFaults.{all_pairs, are_apart, has_bit, has_its_locks, has_lock_fields, have_other_names, is_in_block, is_key_field}
pub use Rattle.fusemap_core.specs.MapFaults.{is_plain_or_key, IsLowestMapFault, KeepsMapRule, lowest_fault, map_fault_number, map_fault_of_document}
pub use Rattle.fusemap_core.specs.MapFaults.{map_or_fault, names_coding_field, names_lock_field, names_plain_field}
pub use Rattle.fusemap_core.specs.MapText.{HasMapMembers, IsMapText, largest_integer, map_read, map_text_limit, words_in}
unfoldable pub use Rattle.fusemap_core.specs.MapText.{field_in, map_in, map_of_document}

-- The words of this crate, passed on from one place. Declares nothing.
pub use Rattle.memory_keeper.specs.Counting.{CountsPlace}
pub use Rattle.memory_keeper.specs.Indexing.{AreFoundByText, AreIndexed, has_mac, IsAtMostOne, serial_of}
pub use Rattle.memory_keeper.specs.Keyed.{AreKeyed, by_key, has_key, is_behind, is_between}
pub use Rattle.memory_keeper.specs.Memory.{tables_of}
pub use Rattle.memory_keeper.specs.Undone.{undone, undone_all}
pub use Rattle.memory_keeper.specs.Unplaced.{unplaced, with_other, without}

-- The words of this crate, passed on from one place. Declares nothing.
pub use Rattle.fuse_plan.specs.Law.{MatchLaw, StaysReadable, with_batch}
pub use Rattle.fuse_plan.specs.Numbers.{digit_value, is_number, number_has_one, number_of_text, words_of_number}
unfoldable pub use Rattle.fuse_plan.specs.Numbers.{digits_value, number_word}
pub use Rattle.fuse_plan.specs.Outcome.{image_after, is_digest, is_other, seen, short_or_match, verdict_of, verdict_under}
unfoldable pub use Rattle.fuse_plan.specs.Outcome.{is_bad_key, lost, short_bits, short_keys, stray}
pub use Rattle.fuse_plan.specs.Pending.{FirstBatchLaw, FirstRestLaw, is_no_fault, LocksShow, PendingFitsImage, PlanLaw, rest_of, rest_of_first, rest_of_second}
pub use Rattle.fuse_plan.specs.Pending.{RestLaw, RestsInMap, SecondBatchLaw, SecondRestLaw}
pub use Rattle.fuse_plan.specs.Plans.{are_two_keys, are_wrong, ask_two_keys, asks_another_key, batches, coding_positions, contradict, faults, faults_with}
pub use Rattle.fuse_plan.specs.Plans.{has_key_where, is_hidden_in, is_other_key, is_past, is_protected_in, is_wide, is_wrong, lacks_lock, lock_positions}
pub use Rattle.fuse_plan.specs.Plans.{lowest_plan_fault, names_no_field, pending_or_fault, plan_fault_number, plan_of, positions_named}
pub use Rattle.fuse_plan.specs.Wishes.{asked_by, asks_one, asks_zero, at_field, bit_within, is_one_from, is_to_be_one, is_to_be_zero, key_of_want, key_of_wish}
pub use Rattle.fuse_plan.specs.Wishes.{missing, wanted_key, wants_of, wish_passes}
unfoldable pub use Rattle.fuse_plan.specs.Wishes.{wanted_keys, wanted_ones, wanted_zeros}

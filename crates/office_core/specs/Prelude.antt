-- The words of this crate, passed on from one place. Declares nothing.
pub use Rattle.office_core.specs.Committing.{CommitsLast, CommitsOnce, IsLastCall, new_response, PutsSome, Responds}
pub use Rattle.office_core.specs.Replaying.{Answered, AreGrown, BeginGrown, call_of, calls_in, calls_of_parts, exchanges_in, exchanges_of_parts, KeepsPromises}
pub use Rattle.office_core.specs.Replaying.{last_owners, sites_of}
pub use Rattle.office_core.specs.Restarting.{IsLife}
pub use Rattle.office_core.specs.Retrying.{CommitsReply}

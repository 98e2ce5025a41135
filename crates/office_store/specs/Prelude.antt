-- The words of this crate, passed on from one place. Declares nothing.
pub use Rattle.office_store.specs.Adopting.{AreValidityRowsAsked, AreWithoutNotBefore, CanPrepareTables, CanTake, Examines, FindsVersion, HandedKeeps}
pub use Rattle.office_store.specs.Adopting.{HandedLeaves, HasOtherRows, HasOtherTables, HoldsOther, IsApartAt, IsFoundApart, IsFoundAt, IsGrowable, IsGrownFor}
pub use Rattle.office_store.specs.Adopting.{IsHandedFor, IsMadeFor, IsOfOtherSite, IsOther, IsOtherSchema, IsPreparedFor, IsPreparedFrom, IsRefusedFor}
pub use Rattle.office_store.specs.Adopting.{IsShownText, IsTakenFor, IsTestedFor, IsUntouched, ShowsSame, IsUpgradedFor, LacksValidityRows, LacksText}
pub use Rattle.office_store.specs.Adopting.{LeavesAtMost, PreparesTables, StaysWithoutNotBefore, TakesGrowth, TakesOwn, TellsOther}
pub use Rattle.office_store.specs.Closing.{HoldLast, IsFoundSo, IsLeftOf, MayBeFound, MayBeLeft, MayHold}
pub use Rattle.office_store.specs.Faults.{open_fault_number, result_of_test}
pub use Rattle.office_store.specs.Bringing.{Brings, CanBring, first_step_of, IsBrought, IsEarly}
pub use Rattle.office_store.specs.Making.{HasNothing, IsBegun, IsFresh}
pub use Rattle.office_store.specs.Making.{new_meta}
pub use Rattle.office_store.specs.Opening.{FilesHeld, HasTablesOf, IsFoundAndTurnedAway, IsFoundOver, IsOpenedFor, IsTakenFrom, IsTurnedAway}
pub use Rattle.office_store.specs.Opening.{IsUnopened, ShowsOpening, TellsWhy}
pub use Rattle.office_store.specs.Refusing.{AreTurnedAway, AreUnconnected, IsDatabaseThat, IsKept, IsRefusal, IsSameOrPrepared, IsSpared, IsToldFor, ReadAs}
pub use Rattle.office_store.specs.Remaking.{AreKept, entry_row, HasFirstTables, IsCleared, IsSchemaBeforeV1, IsKeptBy, IsPutBack, IsRemade}
pub use Rattle.office_store.specs.Remaking.{IsUnderWay, LooksAt, PutsBack, PutsKept, PutsRows, ReplacesRows, SeesBeforeV1}
pub use Rattle.office_store.specs.Steps.{all_steps, HasRun, HasValidityRowsAt, HaveRun, IsAt, plain_text, SqlText, taken, text_of}
pub use Rattle.office_store.specs.Stores.{HasSchema, IsNoStore, IsStore, IsStoreOf, IsStoreOrNone, IsTaken, LacksStore}
pub use Rattle.office_store.specs.Growing.{IsGrown, IsGrownFrom}
pub use Rattle.office_store.specs.Upgrading.{IsUpgrade, TellsItself}
pub use Rattle.office_store.specs.Calls.{LooksUpBySql, StaysAsSet}
pub use Rattle.office_store.specs.Counting.{takes}
pub use Rattle.office_store.specs.Keeping.{commits_at, is_honest_at, is_open_at, may_leave_at, tables_of, tells_text_at}
pub use Rattle.office_store.specs.Kept.{Kept, kept_code}
pub use Rattle.office_store.specs.Remembering.{fuse_map_at, RemembersRight, StayMapped}

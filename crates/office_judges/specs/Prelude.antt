-- The words of this crate, passed on from one place. Declares nothing.
pub use Rattle.office_judges.specs.Acting.{IsActed, IsActedOn, IsActedUnless}
pub use Rattle.office_judges.specs.GivenRuns.{is_text_of, PassesGiven}
pub use Rattle.office_judges.specs.Identity.{IsIdentified, IsNextNumber, number_refusals, number_writes, numbered}
pub use Rattle.office_judges.specs.Import.{additions, binding_of, is_bound_to_key, resumed, verdict_by, verdict_of_row, with_other, with_others, with_rows}
pub use Rattle.office_judges.specs.Judging.{IsCarriedOut, IsJudged, IsUnlessRefused, Judges}
pub use Rattle.office_judges.specs.Map.{Counts, has_text}
pub use Rattle.office_judges.specs.Paging.{GathersPage, IsPage, visited_behind}
pub use Rattle.office_judges.specs.Registration.{GathersEntries, registration_refusals_by_map}
pub use Rattle.office_judges.specs.Scanning.{asked_range, IsScanned, range_or_refusal}
pub use Rattle.office_judges.specs.Scanning.{refusals_alone, refusals_beside, Scans}
pub use Rattle.office_judges.specs.Stepping.{found_at, IsAccepted, writes_of}

-- The words of this crate, passed on from one place. Declares nothing.
pub use Rattle.site_core.specs.Caller.{caller_of, caller_or, has_seat_with, HoldsToken, IsCaller, IsSeatCaller, manager_with, no_seat, no_section}
pub use Rattle.site_core.specs.Caller.{seat_caller_with, seat_name_at, seat_of, seat_with, section_at, section_in}
pub use Rattle.site_core.specs.Growth.{are_kept, is_same_pool, is_same_seat, IsGrowth, keeps, KeepsSection}
pub use Rattle.site_core.specs.Ownership.{has_seat, IsSection, Ownership, ownership_of, OwnershipGrows, PoolsDisjoint}
pub use Rattle.site_core.specs.Section.{has_token, issuers_of, names_of, pools_of, seat_names_of, SeatOf, seats_of, Section, SiteValue, tokens_of, with_token}
pub use Rattle.site_core.specs.Site.{is_over_limit, is_section_over, IsSite, pools_meet}
pub use Rattle.site_core.specs.SiteFaults.{ArePoolsApart, has_bad_pool, has_pair, has_repeat, HasNoRepeat, is_bad_pool, IsLowestSiteFault, KeepsSiteRule}
pub use Rattle.site_core.specs.SiteFaults.{site_fault_number, site_fault_of_document, site_or_fault}
pub use Rattle.site_core.specs.SiteText.{HasSiteMembers, IsSiteText, manager_in, site_read, site_text_limit, TextOfSite, token_in}
unfoldable pub use Rattle.site_core.specs.SiteText.{customer_in, pool_in, seat_of_data, site_of}

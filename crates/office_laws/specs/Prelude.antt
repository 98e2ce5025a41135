-- The words of this crate, passed on from one place. Declares nothing.
pub use Rattle.office_laws.specs.Alone.{alone, alone_on, exchanges_of, is_own, IsAsAlone}
pub use Rattle.office_laws.specs.Alone.{IsIsolated, solo_replies, solo_state}
pub use Rattle.office_laws.specs.Exchanges.{asks, Call, call_by, calls_of, Exchange, FulfilsWanted}
pub use Rattle.office_laws.specs.Exchanges.{IsRun, Passes, refused, replies_of, report_reply}
pub use Rattle.office_laws.specs.Exchanges.{reports, Wanted}
pub use Rattle.office_laws.specs.Fresh.{addresses_of, BlocksDisjoint, IsFreshRecord}
pub use Rattle.office_laws.specs.Fresh.{order_of_record}
pub use Rattle.office_laws.specs.Gifts.{AreGifts, AreNotImported, identity_of_command}
pub use Rattle.office_laws.specs.Gifts.{identity_wanted, is_new_identity, IsGift, IssuesFresh}
pub use Rattle.office_laws.specs.Gifts.{IssuesOnce}
pub use Rattle.office_laws.specs.Grows.{AreWithinQuantities, DeviceStays, Grows}
pub use Rattle.office_laws.specs.Growth.{AreSeats, CanAsk, IsSeat}
pub use Rattle.office_laws.specs.LawfulRuns.{EndAlike, exchange_of_step, IsCut, SeatRun, SeatStep}
pub use Rattle.office_laws.specs.LawfulRuns.{ShowAlike, StartAlike, StepsAlike}
pub use Rattle.office_laws.specs.Once.{ActsOnce, firsts, is_accepted, is_again}
pub use Rattle.office_laws.specs.Once.{is_change, is_no_repeat, last_number_of_seat}
pub use Rattle.office_laws.specs.Once.{number_of_wanted, once, writes}
pub use Rattle.office_laws.specs.Pages.{on_pages}
pub use Rattle.office_laws.specs.Pairs.{Pairwise}
pub use Rattle.office_laws.specs.Pending.{IsAwaited, IsOfBatches}
pub use Rattle.office_laws.specs.Promises.{Promises}
pub use Rattle.office_laws.specs.ReadBacks.{MatchesWhereSeen, seen_with_batch, TellsMatch}
pub use Rattle.office_laws.specs.SoloMachine.{by_text, is_issued, record_of_key, record_of_serial}
pub use Rattle.office_laws.specs.SoloMachine.{seat_named, solo, solo_entry_cmp, solo_given_cmp}
pub use Rattle.office_laws.specs.SoloMachine.{solo_issued_in, solo_order_sight, solo_sight}
pub use Rattle.office_laws.specs.SoloMachine.{SoloMap, SoloState, with_put, with_puts}
pub use Rattle.office_laws.specs.Sound.{AreDisjoint, AreSoundMaps, AreSoundOrders}
pub use Rattle.office_laws.specs.Sound.{HasAddress, IsInPool, IsLinked, IsOrder, IsSound}
pub use Rattle.office_laws.specs.SoundDevices.{all_added, AreColumns, AreNumberedFrom}
pub use Rattle.office_laws.specs.SoundDevices.{AreSoundDevices, FitsFuseMap, HasLedger, IsReferred}
pub use Rattle.office_laws.specs.SoundRecords.{AreSoundRecords}
pub use Rattle.office_laws.specs.SoundRecords.{IsIssuedBelow, IsOfDevice, IsOfOrder}
pub use Rattle.office_laws.specs.SoundRecords.{IsRecordOf, SerialIsOfIdentified}
pub use Rattle.office_laws.specs.SoundRows.{AreOwned}
pub use Rattle.office_laws.specs.Stops.{AreSessions, is_served, is_request, IsInDoubt, IsLeft}
pub use Rattle.office_laws.specs.Stops.{IsStoppedRun, StaysInDoubt, Leaves, LeavesAfter, Session}
pub use Rattle.office_laws.specs.Stops.{WasUnavailable}
pub use Rattle.office_laws.specs.View.{solo_map, view}

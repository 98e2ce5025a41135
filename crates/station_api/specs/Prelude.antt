-- The words of this crate, passed on from one place. Declares nothing.
pub use Rattle.station_api.specs.Books.{IsLed, Leads, ServesOver, StreamKeepsPromises}
pub use Rattle.station_api.specs.HttpAnswers.{AnswersAnyCaller, AnswersHttp, AnswersKnownCaller, AnswersParsed, AreSaid, caller_at, HandlerSteps}
pub use Rattle.station_api.specs.HttpAnswers.{ParsedOrUnkept, Says, SaysAny, SaysRefusal}
pub use Rattle.station_api.specs.Lives.{AreLives, exchanges_of_lives, IsLifeOf, Life, ServedStore, sites_of_lives}
pub use Rattle.station_api.specs.SectionExchanges.{exchange_any, exchange_asked, exchange_in, exchange_of, exchanges_with_seats, seat_of_token}
pub use Rattle.station_api.specs.SectionExchanges.{section_exchange, section_exchanges, wanted_of}
pub use Rattle.station_api.specs.SiteRuns.{HasSection, SiteRun, SiteRunsEndAlike, SiteRunsStartAlike}

-- What many files of this crate cite: types, and definitions of `specs/`, its own and of the crates below.
pub mod Below
unfoldable pub use Below.*
pub use Rattle.ion_streams.specs.Formats.{Format, format_of}
pub use Rattle.ion_streams.specs.InTurn.{AreAsked, AskedWhile, AtOnce, HandedPiece, IsInTurn, LastAsked, LastAskedFor, LeftInTurn, behind_end, behind_right_end, behind_right_refusal, behind_right_values, behind_values, left_unasked, unasked}
pub use Rattle.ion_streams.specs.Listing.{IsShown, IsWriteCause, ShowsSoFar, at_end, at_refusal, in_reading, lines_from, lines_of}
unfoldable pub use Rattle.ion_streams.specs.Listing.{accepted_line, line_of}
pub use Rattle.ion_streams.specs.Loaded.{DescribeTables, IsCatalog, IsLoaded, added, catalog_of, then_at}
pub use Rattle.ion_streams.specs.Outcomes.{AtOneEnd, EndsRefused, IsRefused, ToldDocument, ToldEach, ToldRefused, ToldRefusedEach, given_all, given_last}
pub use Rattle.ion_streams.specs.reading.Courses.{AreHeld, AreOnTapes, IfAlike, IsMet, MetBoth, count_of, verdict_of, verdict_on}
pub use Rattle.ion_streams.specs.reading.Read.{Begins, GaveEach, GaveSoFar, HandedOn, HasToAsk, IsFresh, IsReady, IsWithin, NoReadFailed, NoneFailed, Reads, ReadsEach, Sought, Went, between, left_of, work}
pub use Rattle.ion_streams.specs.reading.Refilled.{Fills, Refills}
pub use Rattle.ion_streams.specs.reading.ReadState.{GaveNext, IfClosed, IfOpen, IfRefused, IsOpen, MatchClosed, StandsUnread, Stood, StoodEach, answered, reads_of, work_of}
pub use Rattle.ion_streams.specs.reading.Telling.{EndsBy, HeldNext, ReachesBy, ToldNext, WentBy, telling}

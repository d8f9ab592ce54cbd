-- What many files of this crate cite: types, and definitions of `specs/`, its own and of the crates below.
pub mod Below
unfoldable pub use Below.*
pub use Rattle.ion_text.specs.Grammar.{Annotations, BlankThen, Document, Elements, IsName, IsScalar, IsSymbol, Means, Members, OpenRest, Pieces, Plain, Row, Says, Segments, Whole, begins, begins_as_long, begins_long, behind_front, by_long, by_short, by_symbol, close_place, comma, element, ends_long, field, field_comma, holds, is_blob, is_clob, is_decimal, is_false, is_id, is_int, is_list, is_long, is_null, is_operator, is_short, is_struct, is_symbol, is_timestamp, is_true, is_two_quotes, is_typed_null, is_version, is_version_word, is_word, item, joined, long_string, marked, means, no_annotation, no_element, no_field, no_item, one_annotation, one_token, segment, some_digits, span, the_marker, turns, version_parts}
pub use Rattle.ion_text.specs.machine.AtOnce.{IsStill, LeadsTo, Passes}
pub use Rattle.ion_text.specs.machine.EachToken.{Reading, Setting, Spot, Symbols, Token, Turn, at, begun_at, behind_item, beyond_depth, closed, ended, first_now, fresh, gives, goes, held_payload, held_symbol, held_word, item_place, keyed, late, named, noted, on_after, on_comma, on_keyed, on_long, on_long_name, on_name, on_pending, on_ready, opened, opening, paid, place, place_in, refuses, released, resolved, settle, settled, spot_at, spot_in, token_at, turn, turn_now, turned, under, unexpected, within}
pub use Rattle.ion_text.specs.machine.FrontTokens.{BeginsName, BeginsValue, EndsAtOnce, IsFree, IsValue, Names, Pays, ends_symbol, held_of, is_marker}
pub use Rattle.ion_text.specs.machine.Nested.{OpensAt, bracket_in, close_mark, close_octet, closes, open_mark}
pub use Rattle.ion_text.specs.machine.Passed.{said_body, said_passes}
pub use Rattle.ion_text.specs.machine.Pieces.{Quiet, Stays, Waiting, drive, followed, go_on, grows, led, on_now, run-append, then_run}
pub use Rattle.ion_text.specs.machine.Places.{Leading, long_at, name_at, pending_at, same_is, same_place, settle_same, settle_still}
pub use Rattle.ion_text.specs.machine.Progress.{Advances, DidEnd, GaveLast, LedLeaving, Ran, StopsBefore, is_quiet, or_first, pending_by, resumed}
pub use Rattle.ion_text.specs.machine.Run.{Effect, Run, State, begun, behind_given, behind_left, cut_short, eats, end_late, end_now, end_ready, end_said, end_settled, end_turned, end_waiting, ends_of, failed_at, fails, has_segment, in_segment, is_fresh, is_long_begun, is_top, leaves, lesser, longest_top, noticed, on_octet, on_said, on_scan, on_settled, once_more, or_worse, reaches, refused_of, run, run_on, shut, takes, tells, token_of, trace, trace_of, unsettled, uses, waits, waits_now, with_scan, with_value}
pub use Rattle.ion_text.specs.machine.TokenLists.{Walk, adds_adds, adds_none, adds_values, behind_waiting, continues, continues_now, done, first_token, in_place, on_judged, on_placed, on_turn, reads, reads-append, said_ok, stopped, then_walk}
pub use Rattle.ion_text.specs.machine.Views.{IsBehind, IsCalm, MayWaitOver, Notices, base, comes_again, count_of, decided, ended_so_far, floor, goes_on_long, goes_on_symbol, is_left, waits_over, worse}
pub use Rattle.ion_text.specs.machine.Walked.{FoundNote, behind_note, rested}
pub use Rattle.ion_text.specs.visiting.Walks.{FoundNumber, FoundPart, FoundSymbol, NoteThere}
pub use Rattle.ion_text.specs.walk.Ends.{EndedSo, FinishedSo, failed, octets_used}
pub use Rattle.ion_text.specs.walk.Fronts.{GivesOver, IsWithin, LeadsOver, LeavesBehind, Reached, TookFront}
pub use Rattle.ion_text.specs.walk.Holds.{AreAround, AreOpen, Does, DoesAlone, Enters, GaveOut, Holds, IsShape, MayClose, SamePlace, SameSetting, WentOn, behind_comma, behind_value, bracket_for, bracket_of, brackets_of, calm, closes_in, has_notes, is_inside, is_same, open_brackets, reading_of, setting_of, spot_of, state_of, told}
pub use Rattle.ion_text.specs.walk.Unusual.{NameThere, SaysThere, SymbolThere, WaitsThere}
pub use Rattle.ion_text.specs.walk.Runs.{Begins, StandsFor, Told, octets_kept, pending}
pub use Rattle.ion_text.specs.walk.WholeTokens.{Ahead, Ended, EndsBy, EndsSo, IsHere, Strides, Strode, StrodeFrom, Takes, TookSo, is_null_struct, only_goes, resting_at, value_took}
pub use Rattle.ion_text.specs.walk.Takes.{DidMeet, DidTake, IsFine, IsMet, MeetsWith, SameReader, StaysSteady}

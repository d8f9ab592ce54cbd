-- What many files of this crate cite: types, and definitions of `specs/`, its own and of the crates below.
pub mod Below
unfoldable pub use Below.*
pub use Rattle.ion_tokens.specs.Ascii.{asterisk, line_feed, slash}
pub use Rattle.ion_tokens.specs.Blanks.{BlankPiece, BlockComment, HasNoClose, HasNoLineEnd, IsBlank, IsBlankPiece, IsLastBlank, IsOpenComment, LineComment, White, blank_spelling}
pub use Rattle.ion_tokens.specs.Blobs.{IsBase64, alphabet, base64_of}
unfoldable pub use Rattle.ion_tokens.specs.Blobs.{blob_of}
pub use Rattle.ion_tokens.specs.Bodies.{Blob, Clob, Content, Id, IsBody, IsWordBody, Long, Mark', Number', Operator, Quoted, SaysNumber, Short, Spells, TypedNull, Word, id_of, kind_named, null_of, number_in}
pub use Rattle.ion_tokens.specs.Lexed.{AllPass, BeginsLexed, BeginsWith, IsNext, Lexes, LexesBefore, LexesTo, LooksIn, Passes, Placed, colon_behind}
pub use Rattle.ion_tokens.specs.Lexemes.{Each, IsBlobContent, IsClobContent, IsLexeme, IsNumeric, IsOperator, IsSegment, IsWord, Lexeme, LongTexts, MarkEnds, MarkStands, Segment, ShortText, begins, begins_comment, begins_infinity, begins_number, comment_within, is_segment, mark_spelling, segment_spelling, takes_colon}
pub use Rattle.ion_tokens.specs.Octets.{begins_word, hexadecimal_digit, is_base64, is_digit, is_letter, is_line_end, is_lower, is_operator_octet, is_stop, is_upper, is_white, is_word_octet}
pub use Rattle.ion_tokens.specs.Places.{is_name, is_sexp}
pub use Rattle.ion_tokens.specs.Quoted.{ClosesFirst, Cr, CrLf, CrTakesLf, Element, Hex, Hidden, IsElement, IsHexAfter, IsQuoted, IsRaw, Lf, LineEnd, Pair, Raw, RawLine, Simple, ends_in_cr, hex_length, is_raw_lf, is_raw_quote, meaning, quotes, spelling}
pub use Rattle.ion_tokens.specs.Styles.{is_clob, is_long, quote_of}
pub use Rattle.ion_tokens.specs.declared.token_reader.FoundToken.{FoundToken}
pub use Rattle.ion_tokens.specs.machine.AtOnce.{AreKept, GoesOver, goes_on, gone_on, is_between, is_numeric, is_plain, is_plain_operator, is_raw, keeps_them}
pub use Rattle.ion_tokens.specs.machine.Bounds.{IsSteady, StaysSteady, debt, is_idle, taken_up, unkept}
pub use Rattle.ion_tokens.specs.machine.Contents.{AddsBase64, AddsSegments, BeginsSegment, LeadsOn, StandsIn, StandsWhole}
pub use Rattle.ion_tokens.specs.machine.Foreseen.{ForeseenSo, NextIs}
pub use Rattle.ion_tokens.specs.machine.Lent.{BorrowsAt, BorrowsFrom, IsLentBody, IsOwnedBody, LendsWhole, OwnsLast, StandIn}
pub use Rattle.ion_tokens.specs.machine.Rests.{IsFound, IsPassed, RestsBehind, before_end, ended, left_after, lexeme_at, past_blank, past_comment, past_token, resting}
pub use Rattle.ion_tokens.specs.machine.Said.{says}
unfoldable pub use Rattle.ion_tokens.specs.machine.Said.{said}
pub use Rattle.ion_tokens.specs.machine.Scanned.{AllSay, BegunSo, Continues, Covers, EndsFor, EndsSo, Goes, GoesWith, HasBegun, IsAhead, IsFirstColon, IsForm, MayComment, NoDocument, NoEnd, RefusesAt, Scanned, ShowsBegun, Tells}
pub use Rattle.ion_tokens.specs.machine.Scanning.{Given, Known, Left, Next, Outcome, Refused, acts, at_end, blob_ends, cut, ends_at, feed, follow, go_to, initial, kept_after, left_of, past, run, split_at, start_of}
pub use Rattle.ion_tokens.specs.machine.Steps.{Answers, GivesToken, IsToken, IsWithin, RefusesToken, Stepped, answered, deciding, is_end_reason, is_octet_reason, is_step_reason, passed, stepped}
pub use Rattle.ion_tokens.specs.machine.Table.{add, after_digits, after_long, after_short, before, begins_value, character, close, close_long, digit_behind, end_of, give, go, grow, in_blank, in_blob, in_block_star, in_brace, in_colon, in_escape, in_hexadecimal, in_infinity, in_kind_name, in_lob, in_number, in_number_slash, in_operator, in_operator_slash, in_quote, in_quotes, in_slash, in_text, in_utf8, in_word, is_high, is_low, is_other, lead, lob_start, meant, operator_end, raw, refused, run_ending, second_brace, stands, third_quote, with_digit}
pub use Rattle.ion_tokens.specs.machine.Told.{Gave, Leaved, Stands}
pub use Rattle.ion_tokens.specs.machine.Traces.{AnswersTrace, EndsTrace, IsTraced, Leads, Places, Stops, Told, Trace, Trail, comes, end_judged, judged, last_judged, last_of, left_by, over, over_pieces, takes, then_by, told_as, told_by, told_there, trace, traced}
pub use Rattle.ion_tokens.specs.machine.Views.{begun_in, behind, foresight, foresight_at, foresight_behind, foresight_by, form_of, octets_in}

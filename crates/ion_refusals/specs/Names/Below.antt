-- What Names passes on and what rests on no file of `specs/` here: types, and definitions of the crates below.
pub use Rattle.ion_atoms.specs.Reasons.{reason_number}
pub use Rattle.ion_atoms.specs.declared.kind.Kind.{Kind}
pub use Rattle.ion_atoms.specs.declared.refusal.Reason.{Reason}
pub use Rattle.ion_atoms.specs.declared.refusal.Reason.TheVariants.{Depth, ImportGap, ItemTooLong, KeywordAsName, MissingImport, NullTable, RepeatedField, SymbolRange, TableTooLarge, Version}
pub use Rattle.ion_atoms.specs.declared.refusal.Refusal.{Refusal}
pub use Rattle.ion_model.specs.Kinds.{is_fields, is_table, layer_kind}
pub use Rattle.ion_model.specs.Measures.{Layer, annotated, field_of, greatest}
unfoldable pub use Rattle.ion_model.specs.Measures.{depth}
pub use Rattle.ion_model.specs.declared.value.Field.{Field}
pub use Rattle.ion_model.specs.declared.value.Payload.{Payload}
pub use Rattle.ion_model.specs.declared.value.Payload.TheOpen.{Payload-F}
pub use Rattle.ion_model.specs.declared.value.Value.{Value}
pub use Rattle.ion_spelling.specs.Keywords.{is_keyword}
unfoldable pub use Rattle.ion_symtab.specs.Next.{next}
pub use Rattle.ion_symtab.specs.Reasons.{IsIdReason, IsTableReason}
pub use Rattle.ion_symtab.specs.Slots.{Slot}
unfoldable pub use Rattle.ion_symtab.specs.Slots.{resolve, system_slots}
pub use Rattle.ion_symtab.specs.Tables.{Table}
pub use Rattle.ion_symtab.specs.Trace.{plain}
pub use Rattle.ion_symtab.specs.declared.catalog.Catalog.{Catalog}
pub use Rattle.ion_symtab.specs.declared.limits.Limits.{Limits}
pub use Rattle.ion_text.specs.Grammar.{Annotations, BlankThen, Document, IsKeyword, IsName, IsScalar, Means, Members, Pieces, Plain, Says, begins_as_long, close_place, ends_long, is_blob, is_clob, is_decimal, is_false, is_int, is_list, is_null, is_operator, is_short, is_struct, is_symbol, is_timestamp, is_true, is_two_quotes, is_typed_null, is_version, long_string, means, no_annotation, one_token, the_marker}
pub use Rattle.ion_text.specs.declared.state.Frame.{Frame}
pub use Rattle.ion_text.specs.declared.state.Held.{Held}
pub use Rattle.ion_text.specs.declared.state.ListOrSexp.{ListOrSexp}
pub use Rattle.ion_text.specs.declared.state.Stage.{Stage}
pub use Rattle.ion_text.specs.machine.EachToken.{Reading, Setting, Spot, Symbols, Token, Turn, at, begun_at, beyond_depth, closed, deeper, ended, first_now, fresh, gives, goes, held_symbol, held_word, keyed, late, named, noted, on_after, on_comma, on_keyed, on_long, on_long_name, on_name, on_pending, on_ready, opened, opening, place, place_in, refuses, released, resolved, settle, settled, spot_at, token_at, turn, turn_now, turned, under, within}
pub use Rattle.ion_text.specs.machine.Nested.{bracket_in, open_mark}
pub use Rattle.ion_text.specs.machine.Passed.{said_body, said_passes}
pub use Rattle.ion_text.specs.machine.Pieces.{on_now}
pub use Rattle.ion_text.specs.machine.Places.{Leading, pending_at, settle_same, settle_still}
pub use Rattle.ion_text.specs.machine.Run.{Effect, Run, State, begun, behind_given, behind_left, cut_short, eats, end_fails, end_late, end_now, end_ready, end_said, end_settled, end_turned, end_waiting, ends_of, fails, in_segment, is_fresh, is_top, leaves, lesser, noticed, on_octet, on_said, on_scan, on_settled, once_more, or_worse, reaches, refused_of, run, run_on, shut, takes, tells, token_of, trace, unsettled, uses, waits, waits_now, with_scan}
pub use Rattle.ion_text.specs.machine.TokenLists.{Walk, adds_values, continues, continues_now, done, first_token, on_turn, reads, reads-append, said_ok, stopped, then_walk}
pub use Rattle.ion_tokens.specs.Ascii.{asterisk, dot, line_feed, lower_f, lower_i, lower_n, open_brace, single_quote, slash}
unfoldable pub use Rattle.ion_tokens.specs.Blobs.{blob_of}
pub use Rattle.ion_tokens.specs.Bodies.{Blob, Clob, Content, Id, IsBody, Long, Mark', Number', Operator, Quoted, Short, TypedNull, Word}
pub use Rattle.ion_tokens.specs.Lexed.{BeginsLexed, BeginsWith, Lexes, LexesTo, Placed, colon_behind}
pub use Rattle.ion_tokens.specs.Lexemes.{IsLexeme, Lexeme, MarkEnds, begins_comment, begins_infinity, comment_within}
pub use Rattle.ion_tokens.specs.Octets.{is_digit, is_operator_octet, is_stop, is_word_octet}
pub use Rattle.ion_tokens.specs.declared.mode.Action.{Action}
pub use Rattle.ion_tokens.specs.declared.mode.Mark.{Mark}
pub use Rattle.ion_tokens.specs.declared.mode.Mode.{Mode}
pub use Rattle.ion_tokens.specs.declared.mode.Place.{Place}
pub use Rattle.ion_tokens.specs.declared.mode.TokenKind.{TokenKind}
pub use Rattle.ion_tokens.specs.machine.Ahead.{IsUsed, LeavesIn, LeftIn, is_closing, is_colons, is_quoting, is_sane, symbol_waits}
pub use Rattle.ion_tokens.specs.machine.Bounds.{is_idle}
unfoldable pub use Rattle.ion_tokens.specs.machine.Said.{said}
pub use Rattle.ion_tokens.specs.machine.Scanned.{Continues, Scanned}
pub use Rattle.ion_tokens.specs.machine.Scanning.{Given, Known, Left, Next, Outcome, Refused, acts, at_end, blob_ends, cut, ends_at, feed, follow, initial, past, run as scan}
pub use Rattle.ion_tokens.specs.machine.Steps.{is_end_reason}
pub use Rattle.ion_tokens.specs.machine.Table.{end_of}
pub use Rattle.ion_visiting.specs.Parts.{number_payload}
pub use Rattle.ion_visiting.specs.declared.bracket.Bracket.{Bracket}

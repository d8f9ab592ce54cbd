-- What Names passes on and what rests on no file of `specs/` here: types, and definitions of the crates below.
pub use Rattle.ion_atoms.specs.Kinds.{kind_name}
pub use Rattle.ion_atoms.specs.Octets.{AreOctets}
pub use Rattle.ion_atoms.specs.Reasons.{reason_number}
pub use Rattle.ion_atoms.specs.declared.kind.Kind.{Kind}
pub use Rattle.ion_atoms.specs.declared.refusal.Reason.TheVariants.{Memory}
pub use Rattle.ion_atoms.specs.declared.refusal.Reason.{Reason}
pub use Rattle.ion_atoms.specs.declared.refusal.Refusal.{Refusal}
pub use Rattle.ion_model.specs.Kept.{AreKept, IsKept, KeptFields, KeptItems, KeptPayload, a_field, an_item, kept, kept_blob, kept_clob, kept_decimal, kept_fields, kept_int, kept_list, kept_null, kept_sexp, kept_string, kept_symbol, kept_timestamp, kept_truth, no_fields, no_items}
pub use Rattle.ion_model.specs.Kinds.{is_fields, is_table, layer_kind, names_table}
pub use Rattle.ion_model.specs.Measures.{annotated, bare, field_of, greatest, layer_depth, layer_nodes}
unfoldable pub use Rattle.ion_model.specs.Measures.{depth, nodes}
pub use Rattle.ion_model.specs.Symbols.{AreTexts, IsText}
pub use Rattle.ion_model.specs.declared.value.Field.{Field}
pub use Rattle.ion_model.specs.declared.value.Payload.TheViews.{out-Payload}
pub use Rattle.ion_model.specs.declared.value.Payload.{Payload}
pub use Rattle.ion_model.specs.declared.value.Value.{Value}
pub use Rattle.ion_scalar.specs.declared.number.Number.{Number}
pub use Rattle.ion_scalar.specs.text.Numbers.{HasParts, ReadsNumber}
pub use Rattle.ion_scalar.specs.text.Reading.{number_reads}
unfoldable pub use Rattle.ion_scalar.specs.text.Reading.{number_read}
pub use Rattle.ion_scalar.specs.text.Texts.{number_text}
pub use Rattle.ion_spelling.specs.Calls.{PutsEach, WritesEach}
pub use Rattle.ion_spelling.specs.Keywords.{is_keyword}
pub use Rattle.ion_spelling.specs.Output.{FitsIn, ValueFits, adds, blob_text, clob_text, escaped_text, field_text, is_identifier, is_unquoted, known_text, layer_text, named_text, notes_text, null_text, of_clob, of_string, of_symbol, quoted, separated, text_of, truth_text}
unfoldable pub use Rattle.ion_spelling.specs.Output.{symbol_text, value_text}
pub use Rattle.ion_spelling.specs.TextOut.{Writes, Written, lines, no_text, with_item}
unfoldable pub use Rattle.ion_symtab.specs.Next.{next}
pub use Rattle.ion_symtab.specs.Promises.{ArePieces, BeginsNone, EndsValues, GivesNoTable, HasPieces, HasReasons, HasSpan, IsFirst, IsReadersReason, IsSmall, NoTables, Refuses, Shown, Shows, Spaced}
pub use Rattle.ion_symtab.specs.Slots.{Slot}
unfoldable pub use Rattle.ion_symtab.specs.Slots.{resolve, system_slots}
pub use Rattle.ion_symtab.specs.Steps.{RefusesBy, StepsOver}
pub use Rattle.ion_symtab.specs.Tables.{Table}
pub use Rattle.ion_symtab.specs.Took.{Took}
pub use Rattle.ion_symtab.specs.Trace.{Answers, Grows, IsFront, Streams, Trace, given_at, plain}
pub use Rattle.ion_symtab.specs.Walks.{EndsOn, HasTold, WalksOn, if_ended}
pub use Rattle.ion_symtab.specs.declared.catalog.Catalog.{Catalog}
pub use Rattle.ion_symtab.specs.declared.items.Step.{Step}
pub use Rattle.ion_symtab.specs.declared.items.Walked.{Walked}
pub use Rattle.ion_symtab.specs.declared.limits.Limits.{Limits}
pub use Rattle.ion_symtab.specs.declared.outlet.Outlet.{Ghosts as Outlet}
pub use Rattle.ion_text.specs.declared.reader.TextReader.{TextReader}
pub use Rattle.ion_text.specs.declared.state.Effect.TheVariants.{Gives, Goes, Late}
pub use Rattle.ion_text.specs.declared.state.Effect.{Effect as Turned}
pub use Rattle.ion_text.specs.declared.state.Frame.{Frame}
pub use Rattle.ion_text.specs.declared.state.Held.{Held}
pub use Rattle.ion_text.specs.declared.state.ListOrSexp.{ListOrSexp}
pub use Rattle.ion_text.specs.declared.state.Met.{Met}
pub use Rattle.ion_text.specs.declared.state.Stage.{Stage}
pub use Rattle.ion_text.specs.declared.state.Taken.{Taken}
pub use Rattle.ion_text.specs.declared.tokens.finders.Scalar.{Scalar}
pub use Rattle.ion_text.specs.declared.walk.TextWalk.{TextWalk}
pub use Rattle.ion_tokens.specs.Ascii.{underscore}
pub use Rattle.ion_tokens.specs.Blanks.{BlankPiece, BlockComment, IsBlank, IsBlankPiece, IsLastBlank, LineComment, White, blank_spelling}
pub use Rattle.ion_tokens.specs.Blobs.{IsBase64, base64_of}
unfoldable pub use Rattle.ion_tokens.specs.Blobs.{blob_of}
pub use Rattle.ion_tokens.specs.Bodies.{Blob, Clob, Content, Id, IsBody, IsWordBody, Long, Mark', Number', Operator, Quoted, SaysNumber, Short, TypedNull, Word, id_of, kind_named, null_of, number_in}
pub use Rattle.ion_tokens.specs.Lexed.{BeginsLexed, BeginsWith, Lexes, LexesBefore, LexesTo, Placed, colon_behind}
pub use Rattle.ion_tokens.specs.Lexemes.{Each, IsLexeme, IsNumeric, IsOperator, Lexeme, MarkEnds, MarkStands, ShortText, begins_comment, begins_infinity, begins_number, comment_within, is_segment, mark_spelling, takes_colon}
pub use Rattle.ion_tokens.specs.Octets.{among, begins_word, is_base64, is_digit, is_letter, is_operator_octet, is_stop, is_white, is_word_octet}
pub use Rattle.ion_tokens.specs.Places.{is_name, is_sexp}
pub use Rattle.ion_tokens.specs.declared.mode.Action.{Action}
pub use Rattle.ion_tokens.specs.declared.mode.End.{End}
pub use Rattle.ion_tokens.specs.declared.mode.Keep.{Keep}
pub use Rattle.ion_tokens.specs.declared.mode.Mark.{Mark}
pub use Rattle.ion_tokens.specs.declared.mode.Mode.{Mode}
pub use Rattle.ion_tokens.specs.declared.mode.Place.{Place}
pub use Rattle.ion_tokens.specs.declared.mode.Style.{Style}
pub use Rattle.ion_tokens.specs.declared.mode.TokenKind.{TokenKind}
pub use Rattle.ion_tokens.specs.declared.mode.Within.{Within}
pub use Rattle.ion_tokens.specs.declared.plain_tokens.Rest.{Rest}
pub use Rattle.ion_tokens.specs.declared.scanner.Scanner.{Scanner}
pub use Rattle.ion_tokens.specs.declared.token.Begun.{Begun}
pub use Rattle.ion_tokens.specs.declared.token.Foresight.{Foresight}
pub use Rattle.ion_tokens.specs.declared.token.Form.{Form}
pub use Rattle.ion_tokens.specs.declared.token.Token.{Token as Found}
pub use Rattle.ion_tokens.specs.declared.token_reader.FoundToken.{FoundToken}
pub use Rattle.ion_tokens.specs.machine.Ahead.{AtEach, Follows, IsUsed, LeavesIn, LeftIn, OnNext, is_closing, is_colons, is_long_form, is_mark, is_quoted, is_quoting, is_sane, long_waits, symbol_waits}
pub use Rattle.ion_tokens.specs.machine.AtOnce.{GoesOver, goes_on, gone_on}
pub use Rattle.ion_tokens.specs.machine.Bounds.{IsSteady, is_idle, unkept}
pub use Rattle.ion_tokens.specs.machine.Rests.{IsFound, IsPassed, RestsBehind, before_end, lexeme_at, past_blank, past_token, resting}
pub use Rattle.ion_tokens.specs.machine.Said.{number_said, says, spelled, word_said}
unfoldable pub use Rattle.ion_tokens.specs.machine.Said.{said}
pub use Rattle.ion_tokens.specs.machine.Scanned.{BegunSo, Continues, HasBegun, IsAhead, IsFirstColon, MayComment, Scanned, ShowsBegun}
pub use Rattle.ion_tokens.specs.machine.Scanning.{Given, Known, Left, Next, Outcome, Refused, acts, at_end, blob_ends, cut, ends_at, feed, follow, go_to, initial, left_of, past, run as scan, start_of}
pub use Rattle.ion_tokens.specs.machine.Steps.{GivesToken, IsToken, Stepped}
pub use Rattle.ion_tokens.specs.machine.Table.{before, begins_value, end_of, in_blank, in_text, raw}
pub use Rattle.ion_tokens.specs.machine.Views.{begun_in, behind, failure, foresight, foresight_at, foresight_behind, foresight_by, form_of, held_in, looks, octets_in, open_in_reader, scanned}
pub use Rattle.ion_visiting.specs.Building.{builds}
pub use Rattle.ion_visiting.specs.Events.{Event, Led, annotation, field_events, layer_events, name, opens, part, stream_events}
unfoldable pub use Rattle.ion_visiting.specs.Events.{events_of}
pub use Rattle.ion_visiting.specs.Parts.{number_payload, payload_of}
pub use Rattle.ion_visiting.specs.Tables.{Hears, Tells, WasTold, heard, heard_by, is_of_table, table_of}
pub use Rattle.ion_visiting.specs.declared.bracket.Bracket.{Bracket}
pub use Rattle.ion_visiting.specs.declared.part.Part.{Part}
pub use Rattle.ion_visiting.specs.declared.table_filter.TableFilter.{TableFilter}

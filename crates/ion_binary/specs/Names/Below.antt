-- What Names passes on and what rests on no file of `specs/` here: types, and definitions of the crates below.
pub use Rattle.ion_atoms.specs.Decimals.{DecimalParts, IsDecimal}
pub use Rattle.ion_atoms.specs.Octets.{AreOctets, octets_front, octets_rest}
pub use Rattle.ion_atoms.specs.Ranges.{IsWhole}
pub use Rattle.ion_atoms.specs.Reasons.{reason_number}
pub use Rattle.ion_atoms.specs.Timestamps.{IsTimestamp, TimestampParts}
pub use Rattle.ion_atoms.specs.declared.kind.Kind.{Kind}
pub use Rattle.ion_atoms.specs.declared.refusal.Reason.{Reason}
pub use Rattle.ion_atoms.specs.declared.refusal.Reason.TheVariants.{BadUtf8, Depth, Float, Incomplete, ItemTooLong, Malformed, Memory, SymbolRange, TooLarge, Version}
pub use Rattle.ion_atoms.specs.declared.refusal.Refusal.{Refusal}
pub use Rattle.ion_binary.specs.declared.form.Form.{Form}
pub use Rattle.ion_binary.specs.declared.form.ListOrSexp.{ListOrSexp}
pub use Rattle.ion_binary.specs.declared.form.Opening.{Opening}
pub use Rattle.ion_binary.specs.declared.form.Opening.TheVariants.{Marker, Null, Refused, Sized, Truth}
pub use Rattle.ion_binary.specs.declared.form.Scalar.{Scalar}
pub use Rattle.ion_binary.specs.declared.reader.BinaryReader.{BinaryReader}
pub use Rattle.ion_binary.specs.declared.state.Effect.{Effect}
pub use Rattle.ion_binary.specs.declared.state.Effect.TheVariants.{Gives, Goes}
pub use Rattle.ion_binary.specs.declared.state.Mark.{Mark}
pub use Rattle.ion_binary.specs.declared.state.Mark.TheVariants.{First, Fourth, Second, Third}
pub use Rattle.ion_binary.specs.declared.state.Phase.{Phase}
pub use Rattle.ion_binary.specs.declared.state.Phase.TheVariants.{InBody, InMarker, InNumber, InPad, Ready}
pub use Rattle.ion_binary.specs.declared.state.Purpose.{Purpose}
pub use Rattle.ion_binary.specs.declared.walking.BinaryWalk.{BinaryWalk}
pub use Rattle.ion_binary.specs.declared.walking.Container.{Container}
pub use Rattle.ion_model.specs.Kept.{AreKept, IsKept, KeptFields, KeptItems, KeptPayload, a_field, an_item, kept, kept_blob, kept_clob, kept_decimal, kept_fields, kept_int, kept_list, kept_null, kept_sexp, kept_string, kept_symbol, kept_timestamp, kept_truth, no_items}
pub use Rattle.ion_model.specs.Kinds.{is_table, is_table_of, layer_kind}
pub use Rattle.ion_model.specs.Measures.{Layer, annotated, bare, field_of, greatest, layer_depth}
unfoldable pub use Rattle.ion_model.specs.Measures.{depth, nodes}
pub use Rattle.ion_model.specs.Symbols.{AreTexts, IsText, symbol_same}
pub use Rattle.ion_model.specs.declared.value.Field.{Field}
pub use Rattle.ion_model.specs.declared.value.Payload.{Payload}
pub use Rattle.ion_model.specs.declared.value.Payload.TheFolds.{fold-Field, fold-Payload, fold-Value, fold_out-Field, fold_out-Payload, fold_out-Value, map-Payload}
pub use Rattle.ion_model.specs.declared.value.Payload.TheOpen.{Payload-F}
pub use Rattle.ion_model.specs.declared.value.Payload.TheViews.{out-Payload, outs-Blob, outs-Clob, outs-Decimal, outs-Fields, outs-Int, outs-List, outs-Null, outs-Sexp, outs-Str, outs-Symbol, outs-Timestamp, outs-Truth}
pub use Rattle.ion_model.specs.declared.value.Value.{Value}
pub use Rattle.ion_scalar.specs.Positional.{positional_more, positional_one, positional_push}
pub use Rattle.ion_scalar.specs.binary.Decimal.{IsDecimalField}
unfoldable pub use Rattle.ion_scalar.specs.binary.Decimal.{decimal_of_body}
pub use Rattle.ion_scalar.specs.binary.Descriptor.{kind, size, typed}
unfoldable pub use Rattle.ion_scalar.specs.binary.Descriptor.{descriptor_of}
pub use Rattle.ion_scalar.specs.binary.Fields.{Digits128, VarInt, VarUInt, more, none, positional, seven_bits, uint_field}
pub use Rattle.ion_scalar.specs.binary.Spellings.{decimal_octets, uint_octets, var_uint_octets}
pub use Rattle.ion_scalar.specs.binary.Timestamp.{IsTimestampBody}
unfoldable pub use Rattle.ion_scalar.specs.binary.Timestamp.{read_offset, timestamp_of_body}
unfoldable pub use Rattle.ion_scalar.specs.binary.TimestampSpellings.{timestamp_octets}
pub use Rattle.ion_scalar.specs.declared.descriptor.Descriptor.{Descriptor}
pub use Rattle.ion_scalar.specs.declared.descriptor.Size.{Size}
pub use Rattle.ion_scalar.specs.declared.descriptor.Size.TheVariants.{Follows, Known}
pub use Rattle.ion_symtab.specs.Next.{and_then, appends_in, imported, joined, local_slot, local_slots, next_layer}
unfoldable pub use Rattle.ion_symtab.specs.Next.{next}
pub use Rattle.ion_symtab.specs.Promises.{BeginsNone, EndsValues, GivesNoTable, HasPieces, HasReasons, HasSpan, IsFirst, IsReadersReason, IsSmall, NoTables, Refuses, Shown, Shows, Spaced}
pub use Rattle.ion_symtab.specs.Slots.{Slot, greatest_id, slot_symbol, symbol_at}
unfoldable pub use Rattle.ion_symtab.specs.Slots.{resolve, system_slots, system_texts}
pub use Rattle.ion_symtab.specs.Steps.{RefusesBy, StepsOver}
pub use Rattle.ion_symtab.specs.Tables.{Table}
pub use Rattle.ion_symtab.specs.Took.{Took, TookFront}
pub use Rattle.ion_symtab.specs.Trace.{Answers, Grows, Streams, Trace, given_at, plain}
pub use Rattle.ion_symtab.specs.Walks.{EndsOn, HasTold, WalksOn, if_ended}
pub use Rattle.ion_symtab.specs.declared.catalog.Catalog.{Catalog}
pub use Rattle.ion_symtab.specs.declared.fault.Fault.{Fault}
pub use Rattle.ion_symtab.specs.declared.items.Walked.{Walked}
pub use Rattle.ion_symtab.specs.declared.limits.Limits.{Limits}
pub use Rattle.ion_symtab.specs.declared.outlet.Outlet.{Ghosts as Outlet}
pub use Rattle.ion_visiting.specs.Building.{Built, builds, fresh, value_in, without_value}
pub use Rattle.ion_visiting.specs.Events.{Event, Led, annotation, closes, ended, field_events, layer_events, name, part, stream_events, within}
unfoldable pub use Rattle.ion_visiting.specs.Events.{events_of}
pub use Rattle.ion_visiting.specs.KeptEvents.{AreKeptEvents, KeptEvent}
pub use Rattle.ion_visiting.specs.Parts.{number_payload, payload_of}
pub use Rattle.ion_visiting.specs.Tables.{Hears, LetsPass, Tells, WasTold, heard, heard_by, is_of_table, table_of}
pub use Rattle.ion_visiting.specs.declared.bracket.Bracket.{Bracket}
pub use Rattle.ion_visiting.specs.declared.part.Part.{Part}
pub use Rattle.ion_visiting.specs.declared.table_filter.TableFilter.{TableFilter}

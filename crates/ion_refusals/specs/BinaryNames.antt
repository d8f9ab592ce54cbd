-- What the laws of binary cite: types, and definitions of the crates below.
pub use Rattle.ion_atoms.specs.Reasons.{reason_number}
pub use Rattle.ion_atoms.specs.declared.refusal.Reason.{Reason}
pub use Rattle.ion_atoms.specs.declared.refusal.Reason.TheVariants.{BadUtf8, Depth, ImportGap, Incomplete, ItemTooLong, Malformed, SymbolRange, TooLarge, Version}
pub use Rattle.ion_atoms.specs.declared.refusal.Refusal.{Refusal}
pub use Rattle.ion_binary.specs.Deciding.{Before, Count, Decides, EndsHeader, EndsNumber, Headed, Id, InStruct, IsContainer, IsFront, IsStruct, Items, LastOctet, Length, MayGoOn, MayReach, Name, Named, Noted, Number, Open, TakesValue, a_body, a_count, a_length, a_name, a_null, a_truth, an_id, annotations_past, bad_body, bad_empty_body, bad_table, by_descriptor, by_length, header_too_long, in_wrapper, inner_marker, no_annotation, no_annotations, no_count, no_descriptor, no_length, no_marker, no_name, no_value, number_past, of_annotations, of_container, of_struct, of_wrapper, other_marker, other_version, past_container, too_deep, too_large, wrapper_unfilled}
pub use Rattle.ion_binary.specs.Grammar.{Binary, Pieces}
unfoldable pub use Rattle.ion_binary.specs.Judge.{judge}
pub use Rattle.ion_binary.specs.Opening.{is_pad, is_wrapper}
unfoldable pub use Rattle.ion_binary.specs.Opening.{opening_of}
pub use Rattle.ion_binary.specs.declared.form.Form.{Form}
pub use Rattle.ion_binary.specs.declared.form.ListOrSexp.{ListOrSexp}
pub use Rattle.ion_binary.specs.declared.form.Opening.{Opening}
pub use Rattle.ion_binary.specs.declared.form.Opening.TheVariants.{Marker, Refused, Sized}
pub use Rattle.ion_binary.specs.declared.form.Scalar.{Scalar}
pub use Rattle.ion_binary.specs.declared.state.Mark.TheVariants.{First, Fourth, Second, Third}
pub use Rattle.ion_binary.specs.declared.state.Phase.{Phase}
pub use Rattle.ion_binary.specs.declared.state.Phase.TheVariants.{InMarker, InNumber, Ready}
pub use Rattle.ion_binary.specs.declared.state.Purpose.{Purpose}
pub use Rattle.ion_binary.specs.machine.EachOctet.{Machine, Outcome, Spot, annotation_came, at, begin, count_came, feed, goes, hollow, initial, judged, longer, marks, misfits, name_came, nameless, number_came, on_descriptor, on_number, open_struct, or_else, past, refuses, sized, spot_at, stray, turned, under, unending, unfit, unless}
pub use Rattle.ion_binary.specs.machine.Frames.{Frame}
pub use Rattle.ion_binary.specs.machine.Pieces.{led, on_now, run-append, run_after, run_via, then_after, then_run}
pub use Rattle.ion_binary.specs.machine.Run.{refused_of, run, run_on, trace}
pub use Rattle.ion_model.specs.Kinds.{is_table}
unfoldable pub use Rattle.ion_model.specs.Measures.{depth}
pub use Rattle.ion_model.specs.declared.value.Field.{Field}
pub use Rattle.ion_model.specs.declared.value.Value.{Value}
unfoldable pub use Rattle.ion_scalar.specs.binary.Decimal.{decimal_of_body}
unfoldable pub use Rattle.ion_scalar.specs.binary.Descriptor.{descriptor_of}
pub use Rattle.ion_scalar.specs.binary.Fields.{Digits128, VarUInt, more, none, positional, seven_bits}
unfoldable pub use Rattle.ion_scalar.specs.binary.Timestamp.{read_offset, timestamp_of_body}
pub use Rattle.ion_scalar.specs.declared.descriptor.Size.{Size}
pub use Rattle.ion_scalar.specs.declared.descriptor.Size.TheVariants.{Follows, Known}
unfoldable pub use Rattle.ion_symtab.specs.Next.{next}
pub use Rattle.ion_symtab.specs.Slots.{Slot, gap, symbol_at}
unfoldable pub use Rattle.ion_symtab.specs.Slots.{resolve, system_slots}
pub use Rattle.ion_symtab.specs.Tables.{Table}
pub use Rattle.ion_symtab.specs.declared.catalog.Catalog.{Catalog}
pub use Rattle.ion_symtab.specs.declared.limits.Limits.{Limits}

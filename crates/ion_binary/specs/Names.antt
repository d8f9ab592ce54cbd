-- What many files of this crate cite: types, and definitions of `specs/`, its own and of the crates below.
pub mod Below
unfoldable pub use Below.*
pub use Rattle.ion_binary.specs.Deciding.{Count, Decides, EndsHeader, EndsNumber, Headed, Id, IsContainer, Items, LastOctet, Length, MayGoOn, MayReach, Name, Named, Noted, Number, Open, TakesValue, a_body, a_count, a_length, a_name, a_null, a_truth, an_id, annotations_past, bad_body, bad_empty_body, bad_table, by_descriptor, container_levels, header_too_long, in_wrapper, inner_marker, no_annotation, no_annotations, no_count, no_descriptor, no_length, no_marker, no_name, no_value, number_past, of_annotations, of_container, of_struct, of_wrapper, other_marker, other_version, past_container, too_deep, wrapper_unfilled}
pub use Rattle.ion_binary.specs.Depths.{depths, field_depths}
pub use Rattle.ion_binary.specs.Grammar.{Binary, Document, Fields, Header, Ids, IsPad, IsScalar, OpenRest, Pieces, Plain, Sequence, Whole, begins, document, holds, is_blob, is_clob, is_decimal, is_int, is_listing, is_negative, is_null, is_ordered, is_scalar, is_string, is_struct, is_symbol, is_timestamp, is_truth, listed, long, marked, no_fields, no_ids, no_piece, nothing, of_item, of_marker, of_pad, of_pad_length, one_field, one_id, one_more, padded, padded_field, short, skipped, skips, the_marker, turns, unannotated, wrapped}
pub use Rattle.ion_binary.specs.HeaderRows.{IsBodyLength, IsHeader, long_code, scalar_kind, type_code}
pub use Rattle.ion_binary.specs.Judge.{as_decimal, as_symbol, as_timestamp, int_of, number_of, symbol_of, text_of}
unfoldable pub use Rattle.ion_binary.specs.Judge.{judge}
pub use Rattle.ion_binary.specs.Opening.{body_of, is_pad, is_wrapper, opens, with_octets}
unfoldable pub use Rattle.ion_binary.specs.Opening.{opening_of}
pub use Rattle.ion_binary.specs.Output.{FitBehind, FitsIn, Names, Progress, ValueFits, adds, after, bin_from, field_octets, field_symbols, framed, header, id_of, ids_octets, layer_octets, layer_symbols, name_text, named_octets, names_after, nothing_yet, null_octet, octets_step, opening, string_value, symbols_step, table_from, table_octets, table_value, truth_octet, whole_octets, with_count, with_name, with_names}
unfoldable pub use Rattle.ion_binary.specs.Output.{bin_of, symbols_of, system_names, value_octets}
pub use Rattle.ion_binary.specs.Reading.{Stands}
pub use Rattle.ion_binary.specs.Writing.{IsWritingFault, NeedsLargeId, Writing}
pub use Rattle.ion_binary.specs.machine.EachOctet.{Machine, Outcome, Setting, Spot, anew, annotation_came, at, begin, count_came, counted, deeper, deliver, end_of, feed, gives, goes, hollow, in_body, initial, judged, levels, longer, marks, misfits, name_came, nameless, number_came, on_body, on_descriptor, on_marker, on_number, on_pad, on_phase, one_octet, open_struct, or_else, outside, past, proceed, refuses, sized, spot_at, stray, too_long, turned, under, unending, unfit, unless, unsized}
pub use Rattle.ion_binary.specs.machine.Frames.{Frame}
pub use Rattle.ion_binary.specs.machine.Pieces.{led, length-one, on_now, on_outcome, run-append, run_after, run_step, run_via, then_after, then_run}
pub use Rattle.ion_binary.specs.machine.Run.{Run, ends_of, refused_of, run, run_on, trace, trace_of, whole}
pub use Rattle.ion_binary.specs.machine.Views.{body_so_far, is_in_body, malformed_unless}
pub use Rattle.ion_binary.specs.visiting.Brackets.{bracket_of, code_in}
pub use Rattle.ion_binary.specs.walking.Holds.{AreAround, AreOpen, Closes, Does, DoesAlone, EndedIn, GaveOut, Holds, HoldsNoWrapper, IsBareIn, IsBehind, IsInside, IsNamedBy, IsPart, IsTelling, IsTop, IsWithin, MayBegin, Moves, RefusedAs, SameSetting, Steps, StepsAlone, StepsInside, TellsAs, WentOn, behind_annotation, container_of, containers_of, fields_end, is_named, items_end, machine_of, name_of, named_end, open_containers, setting_of, shell, shells, spot_of, told, wrapper_end}
pub use Rattle.ion_binary.specs.walking.Leaves.{HasLeaf, LeafHeader, judge_leaf}
pub use Rattle.ion_binary.specs.walking.Runs.{HasField, HasItem, HasName, HasNote, Opens, Reached, Reads, StandsFor, Told, Walks, awaits, failed, pending, refused_at, run_of, taken}
pub use Rattle.ion_binary.specs.writer.Names.{AreKnown, Grown, Resolves, grown, names_resolve, names_resolve_still, slots, slots_more, slots_system, starts_more, unknown_among}
pub use Rattle.ion_binary.specs.writer.Puts.{behind, bin_puts, puts}
pub use Rattle.ion_names.specs.Among.{AreAmong, IsAmong, all_among_more, among_last, id_few, id_stays, same_is_equal}
pub use Rattle.ion_names.specs.Later.{IsLater}

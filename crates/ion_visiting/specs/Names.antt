-- What many files of this crate cite: types, and definitions of `specs/`, its own and of the crates below.
pub use Rattle.ion_atoms.specs.declared.kind.Kind.{Kind}
pub use Rattle.ion_model.specs.Kept.{AreKept, IsKept, KeptFields, KeptItems, KeptPayload, kept_blob, kept_clob, kept_decimal, kept_int, kept_null, kept_string, kept_symbol, kept_timestamp, kept_truth}
pub use Rattle.ion_model.specs.Kinds.{is_fields, is_table, is_table_of, kind_of, layer_kind, names_table}
pub use Rattle.ion_model.specs.Measures.{Layer, annotated, bare, field_of, greatest, layer_depth, layer_nodes}
unfoldable pub use Rattle.ion_model.specs.Measures.{depth, nodes}
pub use Rattle.ion_model.specs.Outlines.{outline_of}
pub use Rattle.ion_model.specs.Same.{field_same, fields_same}
unfoldable pub use Rattle.ion_model.specs.Same.{same}
pub use Rattle.ion_model.specs.Symbols.{AreTexts, IsText, symbol_same}
pub use Rattle.ion_model.specs.declared.value.Field.{Field}
pub use Rattle.ion_model.specs.declared.value.Payload.{Payload}
pub use Rattle.ion_model.specs.declared.value.Payload.TheFolds.{fold-Field, fold-Payload, fold_out-Field, fold_out-Payload, fold_out-Value, map-Payload}
pub use Rattle.ion_model.specs.declared.value.Payload.TheOpen.{Payload-F}
pub use Rattle.ion_model.specs.declared.value.Payload.TheViews.{out-Payload, outs-Blob, outs-Clob, outs-Decimal, outs-Fields, outs-Int, outs-List, outs-Null, outs-Sexp, outs-Str, outs-Symbol, outs-Timestamp, outs-Truth, roll-out-Payload}
pub use Rattle.ion_model.specs.declared.value.Value.{Value}
pub use Rattle.ion_scalar.specs.declared.number.Number.{Number}
pub use Rattle.ion_visiting.specs.Building.{Built, builds, built, closed, fresh, opened, value_in, with_closed, with_value, without_value}
pub use Rattle.ion_visiting.specs.Count.{counted, counts, no_values}
pub use Rattle.ion_visiting.specs.Events.{Event, Led, annotation, closes, ended, events_step, field_events, layer_events, name, opens, part, stream_events, within}
unfoldable pub use Rattle.ion_visiting.specs.Events.{events_of}
pub use Rattle.ion_visiting.specs.Parts.{body_payload, decimal_payload, number_payload, payload_of, timestamp_payload}
pub use Rattle.ion_visiting.specs.declared.bracket.Bracket.{Bracket}
pub use Rattle.ion_visiting.specs.declared.bracket.Bracket.TheVariants.{Fields}
pub use Rattle.ion_visiting.specs.declared.building.Open.{Open}
pub use Rattle.ion_visiting.specs.declared.building.Outer.{Outer}
pub use Rattle.ion_visiting.specs.declared.count.Count.{Count}
pub use Rattle.ion_visiting.specs.declared.following.Following.{Following}
pub use Rattle.ion_visiting.specs.declared.following.Frame.{Frame}
pub use Rattle.ion_visiting.specs.declared.outlining.Outlining.{Outlining}
pub use Rattle.ion_visiting.specs.declared.short.Short.{Short}
pub use Rattle.ion_visiting.specs.declared.short.Spelling.{Spelling}
pub use Rattle.ion_visiting.specs.declared.table_building.Place.{Place}
pub use Rattle.ion_visiting.specs.declared.table_building.TableBuilding.{TableBuilding}
pub use Rattle.ion_visiting.specs.declared.table_filter.Table.{Table}
pub use Rattle.ion_visiting.specs.declared.table_filter.TableFilter.{TableFilter}
pub use Rattle.ion_visiting.specs.declared.tape.Entry.{Entry}
pub use Rattle.ion_visiting.specs.declared.tape.Form.{Form}
pub use Rattle.ion_visiting.specs.declared.range.Great.{Great}
pub use Rattle.ion_visiting.specs.declared.range.Range.{Range}
pub use Rattle.ion_visiting.specs.declared.tape.Role.{Role}
pub use Rattle.ion_visiting.specs.declared.tape.Tape.{Tape}
pub use Rattle.ion_visiting.specs.declared.twin.Twin.{Twin}

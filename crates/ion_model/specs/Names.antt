-- What many files of this crate cite: types, and definitions of `specs/`, its own and of the crates below.
pub use Rattle.ion_atoms.specs.Decimals.{DecimalParts, IsDecimal, decimal_cmp, decimal_same}
pub use Rattle.ion_atoms.specs.Kinds.{kind_rank}
pub use Rattle.ion_atoms.specs.Timestamps.{IsTimestamp, TimestampParts, instant, timestamp_cmp, timestamp_same}
pub use Rattle.ion_atoms.specs.declared.kind.Kind.{Kind}
pub use Rattle.ion_model.specs.Kinds.{is_table, kind_of, layer_kind}
pub use Rattle.ion_model.specs.Measures.{Layer, annotated, bare, depth_step, field_of, greatest, layer_depth, layer_nodes, nodes_step}
unfoldable pub use Rattle.ion_model.specs.Measures.{depth, nodes}
pub use Rattle.ion_model.specs.Normal.{AllFieldsNormal, AllNormal, AreNormalOf, FieldsInOrder, IsNormal, IsNormalTo, LayerNormal}
pub use Rattle.ion_model.specs.Order.{field_cmp, heads_cmp, layer_cmp, order_to, scalar_cmp, value_cmp}
unfoldable pub use Rattle.ion_model.specs.Order.{order}
pub use Rattle.ion_model.specs.Parting.{AtFields, AtItems, AtNamed, EndsApart, FieldsPart, IsPartedName, IsPath, ItemsPart, LeastParting, heads_same, once_named, only}
pub use Rattle.ion_model.specs.Same.{Scalar, counts_agree, field_count, field_same, fields, fields_same, items, layer_same, same_to, scalar, scalar_same, value_same}
unfoldable pub use Rattle.ion_model.specs.Same.{same}
pub use Rattle.ion_model.specs.Symbols.{AreTexts, IsText, has_text, symbol_cmp, symbol_same, text_cmp, text_same}
pub use Rattle.ion_model.specs.declared.path.Part.{Part}
pub use Rattle.ion_model.specs.declared.value.Field.{Field}
pub use Rattle.ion_model.specs.declared.value.Payload.{Payload}
pub use Rattle.ion_model.specs.declared.value.Payload.TheFolds.{fold-Field, fold-Payload, fold-Value, fold_out-Field, fold_out-Payload, fold_out-Value, map-Payload}
pub use Rattle.ion_model.specs.declared.value.Payload.TheOpen.{Payload-F}
pub use Rattle.ion_model.specs.declared.value.Payload.TheViews.{out-Payload, outs-Blob, outs-Clob, outs-Decimal, outs-Fields, outs-List, outs-Sexp, outs-Str, outs-Symbol, outs-Timestamp, outs-Truth, roll-Field, roll-Value, roll-out-Payload}
pub use Rattle.ion_model.specs.declared.value.Value.{Value}

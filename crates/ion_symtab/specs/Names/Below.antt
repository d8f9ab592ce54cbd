-- What Names passes on and what rests on no file of `specs/` here: types, and definitions of the crates below.
pub use Rattle.ion_atoms.specs.declared.refusal.Reason.{Reason}
pub use Rattle.ion_atoms.specs.declared.refusal.Reason.TheVariants.{BadTable, DuplicateTable, ImportGap, Incomplete, Memory, MissingImport, NullTable, RepeatedField, SymbolRange, TableTooLarge}
pub use Rattle.ion_atoms.specs.declared.refusal.Refusal.{Refusal}
pub use Rattle.ion_model.specs.Holds.{values_of}
pub use Rattle.ion_model.specs.Kept.{IsKept, KeptFields, KeptItems, KeptPayload, a_field, an_item, kept, kept_blob, kept_clob, kept_decimal, kept_fields, kept_int, kept_list, kept_null, kept_sexp, kept_string, kept_symbol, kept_timestamp, kept_truth, no_fields, no_items}
pub use Rattle.ion_model.specs.Kinds.{is_table}
pub use Rattle.ion_model.specs.Measures.{Layer, bare, field_of}
unfoldable pub use Rattle.ion_model.specs.Measures.{nodes}
pub use Rattle.ion_model.specs.Symbols.{AreTexts, IsText, has_text}
pub use Rattle.ion_model.specs.declared.value.Field.{Field}
pub use Rattle.ion_model.specs.declared.value.Payload.{Payload}
pub use Rattle.ion_model.specs.declared.value.Payload.TheOpen.{Payload-F}
pub use Rattle.ion_model.specs.declared.value.Payload.TheViews.{out-Payload}
pub use Rattle.ion_model.specs.declared.value.Value.{Value}
pub use Rattle.ion_symtab.specs.declared.catalog_index.Places.{Places}
pub use Rattle.ion_symtab.specs.declared.catalog_index.Versions.{Versions}
pub use Rattle.ion_visiting.specs.Events.{Event, Led}
unfoldable pub use Rattle.ion_visiting.specs.Events.{events_of}
pub use Rattle.ion_visiting.specs.Tables.{Hears}

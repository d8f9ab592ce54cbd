-- What Names passes on and what rests on no file of `specs/` here: types, and definitions of the crates below.
pub use Rattle.ion_atoms.specs.declared.kind.Kind.{Kind}
pub use Rattle.ion_model.specs.Kept.{IsKept, KeptPayload, kept_symbol}
pub use Rattle.ion_model.specs.Measures.{Layer, annotated, bare, field_of}
pub use Rattle.ion_model.specs.Symbols.{IsText}
pub use Rattle.ion_model.specs.declared.value.Field.{Field}
pub use Rattle.ion_model.specs.declared.value.Payload.TheViews.{out-Payload}
pub use Rattle.ion_model.specs.declared.value.Value.{Value}
pub use Rattle.ion_scalar.specs.declared.number.Number.{Number}
pub use Rattle.ion_scalar.specs.text.Texts.{number_text}
pub use Rattle.ion_spelling.specs.Brackets.{bracket_close, octet_between, open_octet}
pub use Rattle.ion_spelling.specs.Output.{adds, begins_identifier, blob_text, clob_text, escape, escape_by, escaped_text, hexadecimal_escape, hexadecimal_of, is_identifier, is_raw, is_unquoted, known_text, layer_text, letter_for, null_text, of_string, of_symbol, quoted, stands_raw, text_of, truth_text}
unfoldable pub use Rattle.ion_spelling.specs.Output.{symbol_text, value_text}
pub use Rattle.ion_spelling.specs.TextOut.{between, front, lines, no_text, with_begun, without_lines}
pub use Rattle.ion_spelling.specs.declared.quotes.Quotes.{Quotes}
pub use Rattle.ion_symtab.specs.Took.{Took}
pub use Rattle.ion_symtab.specs.declared.fault.Fault.{Fault}
pub use Rattle.ion_tokens.specs.Octets.{is_letter, is_word_octet}
pub use Rattle.ion_visiting.specs.Parts.{number_payload, payload_of}
pub use Rattle.ion_visiting.specs.declared.part.Part.{Part}

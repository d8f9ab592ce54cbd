-- What many files of this crate cite: types, and definitions of `specs/`, its own and of the crates below.
pub mod Below
unfoldable pub use Below.*
pub use Rattle.ion_spelling.specs.Brackets.{bracket_close, octet_between, open_octet}
pub use Rattle.ion_spelling.specs.Keywords.{is_keyword}
pub use Rattle.ion_spelling.specs.Output.{adds, enclosed, escape, escape_by, escaped_text, field_text, hexadecimal_escape, hexadecimal_of, is_unquoted, known_text, layer_text, letter_for, named_text, notes_text, of_clob, of_symbol, quoted, stands_raw, text_of, text_step}
unfoldable pub use Rattle.ion_spelling.specs.Output.{symbol_text, value_text}
pub use Rattle.ion_spelling.specs.TextOut.{Writes, Written, between, front, lines, no_text, with_begun, with_close, with_item, with_open, wrote}
pub use Rattle.ion_spelling.specs.declared.quotes.Quotes.{Quotes}

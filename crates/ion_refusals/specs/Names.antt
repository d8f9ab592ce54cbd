-- What many files of this crate cite: types, and definitions of `specs/`, its own and of the crates below.
pub mod Below
unfoldable pub use Below.*
pub use Rattle.ion_refusals.specs.Deciding.{Are, AwaitsColons, Comes, Container, Decides, EndDecides, HasRow, InField, InList, InSexp, InStruct, MayNote, NoColons, Open, Sight, TakesValue, bad_table, by_end, by_octet, keyword_as_annotation, keyword_as_name, list_open, no_symbol, none_open, null_table, other_version, place_of, sexp_open, struct_open, struct_too_deep, too_deep}

-- What many files of this crate cite: types, and definitions of `specs/`, its own and of the crates below.
pub use Rattle.ion_model.specs.Symbols.{symbol_same}
pub use Rattle.ion_names.specs.Among.{AreAmong, IsAmong, all_among_more, among_last, among_more, id_few, id_stays, same_is_equal}
pub use Rattle.ion_names.specs.Ids.{Names, NeedsLargeId, id_of, with_name, with_names}
unfoldable pub use Rattle.ion_names.specs.Ids.{system_names}
pub use Rattle.ion_names.specs.Later.{IsLater}
pub use Rattle.ion_names.specs.Texts.{name_fed, text_in}
pub use Rattle.ion_symtab.specs.Slots.{greatest_id}

-- What many files of this crate cite: types, and definitions of `specs/`.
pub mod Below
unfoldable pub use Below.*
pub use Rattle.ion_events.specs.Entries.{annotation_code, beyond, bit, code_of, decimal_entries, entry_of, fraction_entries, goes_on, high, int_entries, is_int64, label_entry, local_number, low, name_code, null_entry, number_entries, offset_count, plain, precision_code, spelled, timestamp_entries, truth_entry}
unfoldable pub use Rattle.ion_events.specs.Entries.{octets_of}
pub use Rattle.ion_events.specs.Layouts.{Lays, LaysStream, bracket_code, entry_at}
pub use Rattle.ion_events.specs.declared.draft.Draft.{Draft}
pub use Rattle.ion_events.specs.declared.entry.Entry.{Entry}
pub use Rattle.ion_events.specs.declared.entry.Place.{Place}

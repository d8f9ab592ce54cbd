-- What many files of this crate cite: types, and definitions of `specs/`, its own and of the crates below.
pub use Rattle.ion_atoms.specs.Reasons.{reason_number}
pub use Rattle.ion_atoms.specs.declared.refusal.Refusal.{Refusal}
pub use Rattle.ion_docs.specs.Conversion.{DenotesAnywhere, KeepsStream}
pub use Rattle.ion_docs.specs.Encodings.{Encoding, encoding_of}
pub use Rattle.ion_docs.specs.Formats.{documents}
pub use Rattle.ion_docs.specs.Headline.{IsConversionOf, IsListingOf, TellsOnly}
pub use Rattle.ion_memory.specs.declared.ending.Ending.{Ending}
pub use Rattle.ion_memory.specs.declared.ending.Ending.TheVariants.{Accepted, Different, Faulted, Refused, WrongLimits}
pub use Rattle.ion_memory.specs.declared.ending.Whose.TheVariants.{Catalog, Left, Only, Right}
pub use Rattle.ion_model.specs.declared.value.Value.{Value}
pub use Rattle.ion_streams.specs.Compared.{IsVerdict}
pub use Rattle.ion_streams.specs.Formats.{Format, format_of}
pub use Rattle.ion_streams.specs.Listing.{IsWriteCause, lines_of}
unfoldable pub use Rattle.ion_streams.specs.Listing.{accepted_line}
pub use Rattle.ion_streams.specs.Loaded.{IsCatalog, IsDocumentOf, IsLoaded}
pub use Rattle.ion_symtab.specs.Trace.{IsFront, plain}
pub use Rattle.ion_symtab.specs.declared.catalog.Catalog.{Catalog as Tables}
pub use Rattle.ion_symtab.specs.declared.fault.Fault.{Fault}
pub use Rattle.ion_symtab.specs.declared.fault.Fault.TheVariants.{Memory, Open, Read, TooLarge, TooManyReads, Write}
pub use Rattle.ion_symtab.specs.declared.inlet.Inlet.{Ghosts as Inlet}
pub use Rattle.ion_symtab.specs.declared.limits.Limits.{Limits}
pub use Rattle.ion_symtab.specs.declared.outlet.Outlet.{Ghosts as Outlet}
pub use Rattle.ion_symtab.specs.kept.ToWrite.{failed_of, passed_of, written_of}

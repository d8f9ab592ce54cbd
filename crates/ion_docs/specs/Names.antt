-- What many files of this crate cite: types, and definitions of `specs/`, its own and of the crates below.
pub mod Below
unfoldable pub use Below.*
pub use Rattle.ion_docs.specs.Conversion.{DenotesAnywhere, KeepsStream, WasRead, WritesKept}
pub use Rattle.ion_docs.specs.Converted.{ConvertsSoFar, IsConvertCause, IsConverted, ReadSoFar, at_end, at_refusal, in_reading, so_far}
pub use Rattle.ion_docs.specs.Documents.{Denotes, OpenAfter, Pieces, binary_pieces, binary_rest, in_binary, in_text, is_binary, text_pieces, text_rest}
pub use Rattle.ion_docs.specs.Encodings.{Encoding, IsFrontOf, IsPuttingFault, TookBehind, TookSomeBehind, WasTold, encoding_of}
pub use Rattle.ion_docs.specs.Formats.{documents}
pub use Rattle.ion_docs.specs.reading.Chosen.{chosen}
pub use Rattle.ion_docs.specs.reading.DocTold.{Begins, DocTold, EncodingTold, Handed, HasBuilt, awaits_in, awaits_of, failed_in, failed_of, kept_in, kept_of, pending_of, taken_in, taken_of}

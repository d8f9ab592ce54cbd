-- What many files of this crate cite: types, and definitions of `specs/`, its own and of the crates below.
pub use Rattle.ion.specs.Lines.{IsPosition, begins_character, characters, end_at, ends_line, last_line, lines_before, position}
pub use Rattle.ion.specs.declared.position.Position.{Position}
pub use Rattle.ion.specs.declared.spot.Spot.{Spot}
pub use Rattle.ion.specs.declared.stop.Stop.{Stop}
pub use Rattle.ion_model.specs.declared.value.Value.{Value}
pub use Rattle.ion_streams.specs.Formats.{Format, format_of}
pub use Rattle.ion_streams.specs.Outcomes.{ToldDocument, ToldRefused}
pub use Rattle.ion_streams.specs.declared.piece_reader.PieceReader.{PieceReader}
pub use Rattle.ion_streams.specs.declared.piece_reader.ReadState.{ReadState}
pub use Rattle.ion_streams.specs.declared.piece_reader.ReadState.TheVariants.{Ended, Open, Refused}
pub use Rattle.ion_streams.specs.reading.Read.{Begins, GaveSoFar, IsFresh, IsReady, IsWithin, NoReadFailed, Reads, left_of}
pub use Rattle.ion_streams.specs.reading.ReadState.{IfClosed, IfOpen, IfRefused, Stood, reads_of, work_of}
pub use Rattle.ion_symtab.specs.Cause.{IsReadCause}
pub use Rattle.ion_symtab.specs.Heard.{Heard, MayFollow}
pub use Rattle.ion_symtab.specs.Trace.{Grows, Streams, Trace, plain}
pub use Rattle.ion_symtab.specs.declared.catalog.Catalog.{Catalog}
pub use Rattle.ion_symtab.specs.declared.fault.Fault.{Fault}
pub use Rattle.ion_symtab.specs.declared.inlet.Inlet.{Ghosts as Inlet}
pub use Rattle.ion_symtab.specs.declared.items.Items.{Ghosts as Items}
pub use Rattle.ion_symtab.specs.declared.limits.Limits.{Limits}

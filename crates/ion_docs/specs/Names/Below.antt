-- What Names passes on and what rests on no file of `specs/` here: types, and definitions of the crates below.
pub use Rattle.ion_atoms.specs.Octets.{AreOctets}
pub use Rattle.ion_atoms.specs.declared.refusal.Reason.TheVariants.{DuplicateTable, Unexpected}
pub use Rattle.ion_atoms.specs.declared.refusal.Refusal.{Refusal}
pub use Rattle.ion_binary.specs.Output.{FitsIn as FitsInBinary, Progress, adds, names_after, nothing_yet, opening, table_octets}
unfoldable pub use Rattle.ion_binary.specs.Output.{bin_of, value_octets}
pub use Rattle.ion_binary.specs.Writing.{NeedsLargeId}
pub use Rattle.ion_binary.specs.writer.Puts.{behind, behind_more, bin_puts, puts, puts_more}
pub use Rattle.ion_docs.specs.declared.doc_reader.DocReader.{DocReader}
pub use Rattle.ion_docs.specs.declared.doc_walk.DocWalk.{DocWalk}
pub use Rattle.ion_docs.specs.declared.doc_walk.Encoding.TheVariants.{Binary, Text, Unbegun}
pub use Rattle.ion_model.specs.Kept.{AreKept, IsKept}
pub use Rattle.ion_model.specs.Parting.{IsPath}
unfoldable pub use Rattle.ion_model.specs.Same.{same}
pub use Rattle.ion_model.specs.declared.path.Part.{Part}
pub use Rattle.ion_model.specs.declared.value.Value.{Value}
pub use Rattle.ion_streams.specs.Checked.{IsChecked, IsVisited}
pub use Rattle.ion_streams.specs.Compared.{IsCompared, IsPathOf, IsVerdict, PartAt, parts}
pub use Rattle.ion_streams.specs.Formats.{Format, format_of}
pub use Rattle.ion_streams.specs.InTurn.{AskedWhile, AtOnce}
pub use Rattle.ion_streams.specs.Listing.{IsShown, IsWriteCause, ShowsSoFar, lines_of}
unfoldable pub use Rattle.ion_streams.specs.Listing.{accepted_line}
pub use Rattle.ion_streams.specs.Loaded.{AreApart, DescribeTables, DescribesUnder, IsCatalog, IsDocumentOf, IsLoaded, added, catalog_of, then_at, with_table}
pub use Rattle.ion_streams.specs.Outcomes.{AtOneEnd, IsRefused, SaysRefusal, ToldDocument, ToldRefused, given_all, given_last}
pub use Rattle.ion_streams.specs.declared.comparison.Side.TheVariants.{Left, Right}
pub use Rattle.ion_streams.specs.declared.comparison.Verdict.{Verdict}
pub use Rattle.ion_streams.specs.declared.comparison.Verdict.TheVariants.{Different, Equivalent, Refused}
pub use Rattle.ion_streams.specs.reading.Read.{GaveSoFar, IsFresh, left_of}
pub use Rattle.ion_streams.specs.reading.ReadState.{IfOpen, Stood, StoodEach, answered, reads_of, work_of}
pub use Rattle.ion_streams.specs.reading.Telling.{ToldNext, telling}
pub use Rattle.ion_symtab.specs.Cause.{IsReadCause, WereMade}
pub use Rattle.ion_symtab.specs.Promises.{BeginsNone, EndsValues, GivesNoTable, HasPieces, HasReasons, IsFirst, IsSmall, NoTables, Refuses, Shown, Shows}
pub use Rattle.ion_symtab.specs.Shared.{shared_table}
pub use Rattle.ion_symtab.specs.Slots.{Slot, greatest_id}
unfoldable pub use Rattle.ion_symtab.specs.Slots.{system_slots}
pub use Rattle.ion_symtab.specs.Steps.{RefusesBy, StepsOver}
pub use Rattle.ion_symtab.specs.Tables.{Table, find, is_named}
pub use Rattle.ion_symtab.specs.Took.{Took, TookFront}
pub use Rattle.ion_symtab.specs.Trace.{Answers, Finishes, Grows, IsFront, Streams, Trace, given_at, plain}
pub use Rattle.ion_symtab.specs.Walks.{EndsOn, HasTold, Telling, WalksOn, if_ended}
pub use Rattle.ion_symtab.specs.declared.catalog.Catalog.{Catalog}
pub use Rattle.ion_symtab.specs.declared.fault.Fault.{Fault}
pub use Rattle.ion_symtab.specs.declared.fault.Fault.TheVariants.{Memory, Open, Read, TooLarge, TooManyReads, Write}
pub use Rattle.ion_symtab.specs.declared.inlet.Inlet.{Ghosts as Inlet}
pub use Rattle.ion_symtab.specs.declared.items.Items.{Ghosts as Items}
pub use Rattle.ion_symtab.specs.declared.limits.Limits.{Limits}
pub use Rattle.ion_symtab.specs.declared.outlet.Outlet.{Ghosts as Outlet}
pub use Rattle.ion_symtab.specs.declared.target.Target.{Target}
pub use Rattle.ion_spelling.specs.Output.{FitsIn as FitsInText, text_of}
unfoldable pub use Rattle.ion_spelling.specs.Output.{symbol_text, value_text}
pub use Rattle.ion_visiting.specs.Building.{Built, builds, built, fresh, value_in, without_value}
pub use Rattle.ion_visiting.specs.Events.{Event, Led, ended}
unfoldable pub use Rattle.ion_visiting.specs.Events.{events_of}

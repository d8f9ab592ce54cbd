-- What Names passes on and what rests on no file of `specs/` here: types, and definitions of the crates below.
pub use Rattle.ion_atoms.specs.declared.refusal.Reason.{Reason}
pub use Rattle.ion_atoms.specs.declared.refusal.Reason.TheVariants.{DuplicateTable, Incomplete}
pub use Rattle.ion_atoms.specs.declared.refusal.Refusal.{Refusal}
pub use Rattle.ion_model.specs.Outlines.{outline_of}
pub use Rattle.ion_model.specs.Parting.{IsParting, IsPath}
unfoldable pub use Rattle.ion_model.specs.Same.{same}
pub use Rattle.ion_model.specs.declared.outline.Outline.{Outline}
pub use Rattle.ion_model.specs.declared.path.Part.{Part}
pub use Rattle.ion_model.specs.declared.value.Value.{Value}
pub use Rattle.ion_streams.specs.declared.comparison.Course.{Course}
pub use Rattle.ion_streams.specs.declared.comparison.Course.TheVariants.{Alike, Parted}
pub use Rattle.ion_streams.specs.declared.comparison.Side.TheVariants.{Left, Right}
pub use Rattle.ion_streams.specs.declared.comparison.Verdict.{Verdict}
pub use Rattle.ion_streams.specs.declared.piece_reader.Reached.{Reached}
pub use Rattle.ion_streams.specs.declared.piece_reader.Reached.TheVariants.{End, Value as AValue}
pub use Rattle.ion_streams.specs.declared.piece_reader.PieceReader.{PieceReader}
pub use Rattle.ion_streams.specs.declared.piece_reader.ReadState.{ReadState}
pub use Rattle.ion_streams.specs.declared.piece_reader.ReadState.TheVariants.{Ended, Open, Refused}
pub use Rattle.ion_symtab.specs.Cause.{IsReadCause, WereMade}
pub use Rattle.ion_symtab.specs.Heard.{AnsweredEnd, Heard, MayFollow}
pub use Rattle.ion_symtab.specs.Promises.{BeginsNone, HasReasons, IsReadersReason, Refuses, Shown, Shows}
pub use Rattle.ion_symtab.specs.Tables.{Table, find}
pub use Rattle.ion_symtab.specs.Took.{Took, TookFront}
pub use Rattle.ion_symtab.specs.Trace.{Answers, Finishes, Grows, IsFront, Streams, Trace, given_at, plain}
pub use Rattle.ion_symtab.specs.Walks.{EndsOn, HasTold, WalksOn}
pub use Rattle.ion_symtab.specs.declared.catalog.Catalog.{Catalog}
pub use Rattle.ion_symtab.specs.declared.fault.Fault.{Fault}
pub use Rattle.ion_symtab.specs.declared.inlet.Inlet.{Ghosts as Inlet}
pub use Rattle.ion_symtab.specs.declared.items.Items.{Ghosts as Items}
pub use Rattle.ion_symtab.specs.declared.limits.Limits.{Limits}
pub use Rattle.ion_symtab.specs.declared.outlet.Outlet.{Ghosts as Outlet}
pub use Rattle.ion_visiting.specs.Building.{Built, builds, fresh, value_in}
pub use Rattle.ion_visiting.specs.Events.{Event, Led, ended, stream_events}
unfoldable pub use Rattle.ion_visiting.specs.Events.{events_of}
pub use Rattle.ion_visiting.specs.Outlining.{no_outline, outline_in, outlines}
pub use Rattle.ion_visiting.specs.Tables.{Hears}
pub use Rattle.ion_visiting.specs.Tapes.{Holds, IsBlank, events_in, tapes}
pub use Rattle.ion_visiting.specs.declared.tape.Tape.{Tape}
pub use Rattle.ion_visiting.specs.Twins.{IsApart, IsBegun, TellsSecond, WasTold}
pub use Rattle.ion_visiting.specs.declared.twin.Twin.{Twin}

-- What many files of this crate cite of the crates below.
pub use Rattle.ion_atoms.specs.Decimals.{DecimalParts, IsDecimal, signed}
pub use Rattle.ion_atoms.specs.Timestamps.{HasOffset, IsCut, IsOffset, IsTimestamp, TimestampParts}
pub use Rattle.ion_atoms.specs.declared.kind.Kind.{Kind}
pub use Rattle.ion_atoms.specs.declared.timestamp.Local.{Local}
pub use Rattle.ion_atoms.specs.declared.timestamp.Precision.{Precision}
pub use Rattle.ion_model.specs.Kept.{AreKept, IsKept, KeptPayload}
pub use Rattle.ion_model.specs.Measures.{Layer}
pub use Rattle.ion_model.specs.Symbols.{IsText}
pub use Rattle.ion_model.specs.declared.value.Payload.{Payload}
pub use Rattle.ion_model.specs.declared.value.Payload.TheOpen.{Payload-F}
pub use Rattle.ion_model.specs.declared.value.Payload.TheViews.{out-Payload}
pub use Rattle.ion_model.specs.declared.value.Value.{Value}
pub use Rattle.ion_visiting.specs.Events.{Event, Led, annotation, closes, ended, layer_events, name, opens, part}
unfoldable pub use Rattle.ion_visiting.specs.Events.{events_of}
pub use Rattle.ion_visiting.specs.KeptEvents.{AreKeptEvents, KeptEvent}
pub use Rattle.ion_visiting.specs.declared.bracket.Bracket.{Bracket}

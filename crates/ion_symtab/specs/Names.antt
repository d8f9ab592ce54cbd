-- What many files of this crate cite: types, and definitions of `specs/`, its own and of the crates below.
pub mod Below
unfoldable pub use Below.*
pub use Rattle.ion_symtab.specs.Decided.{Decides, IsDecided}
pub use Rattle.ion_symtab.specs.Fields.{at_most_one, count_of, elements, elements_in, is_table_name, layer_symbol, natural, only, payload_of, symbol_of, table_name, version_of}
pub use Rattle.ion_symtab.specs.Heard.{AnsweredEnd, Heard}
pub use Rattle.ion_symtab.specs.Next.{Import, and_then, appends, appends_in, base, chosen, cut_or_filled, element_added, element_import, extended, import_added, import_named, import_of, import_slots, imported, instead, joined, local_slot, local_slots, next_fields, next_layer, shared_slot}
unfoldable pub use Rattle.ion_symtab.specs.Next.{next}
pub use Rattle.ion_symtab.specs.Outcome.{Gives}
pub use Rattle.ion_symtab.specs.Promises.{IsFirst, Shown}
pub use Rattle.ion_symtab.specs.Reasons.{IsIdReason, IsSharedReason, IsTableReason}
pub use Rattle.ion_symtab.specs.Shared.{described, imports_any, is_shared, shared_fields, shared_layer, shared_table}
pub use Rattle.ion_symtab.specs.Slots.{Slot, gap, greatest_id, nine_system_slots, slot_symbol, symbol_at, text, unknown}
unfoldable pub use Rattle.ion_symtab.specs.Slots.{resolve, system_slots}
pub use Rattle.ion_symtab.specs.Tables.{AreApart, Table, find, find_best, is_named, is_usable, newer, newest, otherwise}
pub use Rattle.ion_symtab.specs.Trace.{Answers, Grows, IsFront, Trace, given_at}
pub use Rattle.ion_symtab.specs.Walks.{DoesWalk, EndsOn, Telling, WalksOn, answer_of}
pub use Rattle.ion_symtab.specs.declared.inlet.Inlet.{Ghosts}
pub use Rattle.ion_symtab.specs.declared.segments.Segment.{Segment}
pub use Rattle.ion_symtab.specs.kept.Places.{Indexes, IsPlaceOf, newest_among, newest_of, newest_place, place_of, version_kept}
pub use Rattle.ion_symtab.specs.kept.Segments.{Counts, StartsBehind, StartsBy, segment_slots, slots_of}

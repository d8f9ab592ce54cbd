-- What Names passes on and what rests on no file of `specs/` here: types, and definitions of the crates below.
pub use Rattle.ion_atoms.specs.Kinds.{kind_name}
pub use Rattle.ion_atoms.specs.Octets.{AreOctets}
pub use Rattle.ion_atoms.specs.declared.kind.Kind.{Kind}
pub use Rattle.ion_model.specs.Kept.{AreKept, IsKept}
pub use Rattle.ion_model.specs.Measures.{Layer, annotated, greatest, layer_depth}
unfoldable pub use Rattle.ion_model.specs.Measures.{depth}
pub use Rattle.ion_model.specs.declared.value.Field.{Field}
pub use Rattle.ion_model.specs.declared.value.Payload.{Payload}
pub use Rattle.ion_model.specs.declared.value.Payload.TheFolds.{fold-Field, fold-Payload, fold-Value, fold_out-Field, fold_out-Payload, fold_out-Value, map-Payload}
pub use Rattle.ion_model.specs.declared.value.Payload.TheOpen.{Payload-F}
pub use Rattle.ion_model.specs.declared.value.Payload.TheViews.{out-Payload}
pub use Rattle.ion_model.specs.declared.value.Value.{Value}
pub use Rattle.ion_scalar.specs.declared.number.Number.{Number}
pub use Rattle.ion_scalar.specs.text.Texts.{number_text}
pub use Rattle.ion_symtab.specs.Took.{Took}
pub use Rattle.ion_symtab.specs.declared.limits.Limits.{Limits}
pub use Rattle.ion_symtab.specs.declared.outlet.Outlet.{Ghosts as Outlet}
pub use Rattle.ion_tokens.specs.Ascii.{backslash, carriage_return, delete, digit_0, double_quote, line_feed, lower_a, lower_n, lower_r, lower_t, single_quote, space, tab, underscore}
pub use Rattle.ion_tokens.specs.Blobs.{base64_of}
pub use Rattle.ion_tokens.specs.Octets.{hexadecimal_digit, is_letter, is_word_octet}
pub use Rattle.ion_tokens.specs.declared.mode.Style.{Style}
pub use Rattle.ion_visiting.specs.Events.{Event, Led, annotation, field_events, layer_events, name, opens, part, stream_events}
unfoldable pub use Rattle.ion_visiting.specs.Events.{events_of}
pub use Rattle.ion_visiting.specs.KeptEvents.{AreKeptEvents, KeptEvent}
pub use Rattle.ion_visiting.specs.declared.bracket.Bracket.{Bracket}

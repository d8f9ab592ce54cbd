use Rattle.std.proofs.Common.{◌∷◌, take}
use Rattle.std.specs.List.{flat_map}
use Rattle.ion_visiting.specs.Names.{Fields, Led, events_of, field_events, opens}
use Rattle.ion_visiting.proofs.telling.+tell.Given as goal

abbrev pub invariant-tell_items-loop-item : goal.invariant-tell_items-loop-item
invariant-tell_items-loop-item g l =
    Led g.V.Visitor.takes (opens l.bracket ∷ flat_map events_of (take l.item-index l.items)) l.fn.visitor l.visitor

abbrev pub invariant-tell_fields-loop-field : goal.invariant-tell_fields-loop-field
invariant-tell_fields-loop-field g l =
    Led g.V.Visitor.takes (opens Fields ∷ flat_map field_events (take l.field-index l.fields)) l.fn.visitor l.visitor

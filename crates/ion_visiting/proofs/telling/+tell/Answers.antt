use Rattle.std.proofs.Common.{map, sym, subst}
use Rattle.std.specs.List.{flat_map}
use Rattle.std.proofs.lemmas.List.{append-nil}
use Rattle.std.proofs.lemmas.Grind.{flat_map-append}
use Rattle.ion_visiting.specs.Names.{Fields, Led, annotation, events_of, field_events, layer_events, out-Payload}
use Rattle.ion_visiting.specs.laws.Led.{events_out, led_both}
use Rattle.ion_visiting.proofs.ToldItems.{told_next, told_within}
use Rattle.ion_visiting.proofs.telling.+tell.Goals as goal

pub tell-returns-then-tell_annotations : goal.tell-returns-then-tell_annotations
tell-returns-then-tell_annotations g t c = λ is.
    let v = c.args.value.now in
    subst (λ es. Led g.V.Visitor.takes es c.args.visitor.now c.tell_payload.new.visitor) (sym (events_out v))
    (led_both g.V.Visitor.takes (map annotation v.annotations) (layer_events (out-Payload v.payload)) _ c.tell_annotations.new.visitor _
    (subst (λ ss. Led g.V.Visitor.takes (map annotation ss) c.args.visitor.now c.tell_annotations.new.visitor) c.as_slice.ensures
    (c.tell_annotations.ensures c.if-tell_annotations.true)) (c.tell_payload.ensures is))

pub tell_items-loop-item-preserved : goal.tell_items-loop-item-preserved
tell_items-loop-item-preserved g t c =
    let takes = g.V.Visitor.takes in
    let before = c.loop-item.invariant in
    let item = subst (λ es. Led takes es c.loop-item.visitor c.tell.new.visitor) (sym (append-nil (events_of c.item-item.result)))
    (c.tell.ensures c.if-not-tell.false) in (
      before.0,
      before.1,
      told_next takes (flat_map events_of) (flat_map-append events_of) c.args.items.now c.loop-item.item-index c.item-item.result
          before.0 c.loop-item.visitor c.tell.new.visitor c.loop-item-test.true c.item-item.is before.2 item,
    )

pub tell_items-returns : goal.tell_items-returns
tell_items-returns g t c = λ is.
    told_within g.V.Visitor.takes (flat_map events_of) c.args.bracket c.args.items.now c.loop-item.item-index _ c.loop-item.visitor _
    c.loop-item-test.false c.loop-item.invariant (c.close.ensures is)

pub tell_fields-loop-field-preserved : goal.tell_fields-loop-field-preserved
tell_fields-loop-field-preserved g t c =
    let takes = g.V.Visitor.takes in
    let before = c.loop-field.invariant in
    let value = subst (λ es. Led takes es c.tell_name.new.visitor c.tell.new.visitor) (sym (append-nil (events_of c.field-item.result.value)))
    (c.tell.ensures c.if-not-tell.false) in (
      before.0,
      before.1,
      told_next takes (flat_map field_events) (flat_map-append field_events) c.args.fields.now c.loop-field.field-index c.field-item.result
          before.0 c.loop-field.visitor c.tell.new.visitor c.loop-field-test.true c.field-item.is before.2
          (c.tell_name.new.visitor, c.tell_name.ensures c.if-not-tell_name.false, value),
    )

pub tell_fields-returns : goal.tell_fields-returns
tell_fields-returns g t c = λ is.
    told_within g.V.Visitor.takes (flat_map field_events) Fields c.args.fields.now c.loop-field.field-index _ c.loop-field.visitor _
    c.loop-field-test.false c.loop-field.invariant (c.close.ensures is)

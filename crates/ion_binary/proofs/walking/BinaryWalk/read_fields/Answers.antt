use Rattle.std.proofs.Common.{rules, ◌≡◌, ◌+◌, ◌-◌, length, take, drop, refl, subst, arith}
use Rattle.std.proofs.lemmas.Grind.{common_steps}
use Rattle.std.specs.Option.{IfSome}
use Rattle.ion_binary.specs.Names.{HasName}
use Rattle.ion_binary.proofs.WalkRuns.{led_on_by, led_on_refused, led_on_took, led_took}
use Rattle.ion_binary.proofs.WholeFields.{field_goes, field_refused, field_took, name_behind}
use Rattle.ion_binary.proofs.walking.BinaryWalk.read_fields.Goals as goal

pub returns-in_default-field_in-clause-does : goal.returns-in_default-field_in-clause-does
returns-in_default-field_in-clause-does g c = λ fs h.
    let l = c.loop-next in
    let rest = take (length c.args.piece.now - l.at) (drop l.at c.args.piece.now) in
    let n : HasName l.self rest c.in-Some.id c.in-Some.named = subst (λ o. IfSome o (λ name. HasName l.self rest name.0 name.1)) c.in-Some.is l.invariant.next in
    name_behind g.V.Visitor.takes c.args.self.now fs c.args.piece.now l.at l.self c.args.visitor.now l.visitor l.invariant.setting.catalog
    l.invariant.setting.limits l.invariant.used (l.invariant.ran fs h) l.invariant.at c.in-Some.id c.in-Some.named n c.name_came.new.self c.name_came.result
    c.name_came.ensures.moves.used c.name_came.ensures.does

pub returns-in_default-symbol-clause-does : goal.returns-in_default-symbol-clause-does
returns-in_default-symbol-clause-does g c = λ fs h.
    let l = c.loop-next in
    let rest = take (length c.args.piece.now - l.at) (drop l.at c.args.piece.now) in
    let n : HasName l.self rest c.in-Some.id c.in-Some.named = subst (λ o. IfSome o (λ name. HasName l.self rest name.0 name.1)) c.in-Some.is l.invariant.next in
    name_behind g.V.Visitor.takes c.args.self.now fs c.args.piece.now l.at l.self c.args.visitor.now l.visitor l.invariant.setting.catalog
    l.invariant.setting.limits l.invariant.used (l.invariant.ran fs h) l.invariant.at c.in-Some.id c.in-Some.named n c.name_came-in_default-symbol.new.self c.name_came-in_default-symbol.result
    c.name_came-in_default-symbol.ensures.moves.used c.name_came-in_default-symbol.ensures.does

pub returns-then-self-end-clause-does : goal.returns-then-self-end-clause-does
returns-then-self-end-clause-does g c = λ fs h.
    let r = c.args.self.now in
    let piece = c.args.piece.now in
    let l = c.loop-next in
    let s = l.self in
    let field = c.in-Some-field_in.field in
    let rest = take (length piece - l.at) (drop l.at piece) in
    let n : HasName s rest c.in-Some.id c.in-Some.named = subst (λ o. IfSome o (λ name. HasName s rest name.0 name.1)) c.in-Some.is l.invariant.next in
    let has = c.in-Some-field_in.ensures in
    let behind = has.0.behind in
    let few = has.0.few in
    let within = has.0.within in
    let new = c.proceed_or_end.new.self in
    let to = c.proceed_or_end.ensures.moves.used in
    let before = l.invariant.ran fs h in
    led_on_took g.V.Visitor.takes r fs piece l.at s c.args.visitor.now l.visitor c.proceed_or_end.new.visitor l.invariant.setting.catalog
    l.invariant.setting.limits l.invariant.used before new c.proceed_or_end.result l.invariant.at
    (omega (arith, behind, few, to), omega (arith, within, to))
    (field_took g.V.Visitor.takes s rest c.in-Some.id c.in-Some.named n c.args.end l.invariant.fields field has c.in-Ok.symbol.now c.in-Ok.ensures
    c.name.new.self l.visitor c.name.new.visitor (c.name.ensures c.if-not-name.false) c.tell_leaf.new.filter c.tell_leaf.new.visitor
    c.in-Ok-tell_leaf.ensures.told new c.proceed_or_end.result c.proceed_or_end.new.visitor to c.proceed_or_end.ensures.does before.frames
    before.went.holds)

pub loop-next-preserved : goal.loop-next-preserved
loop-next-preserved g c =
    let r = c.args.self.now in
    let piece = c.args.piece.now in
    let l = c.loop-next in
    let s = l.self in
    let field = c.in-Some-field_in.field in
    let rest = take (length piece - l.at) (drop l.at piece) in
    let reach = l.invariant.at in
    let size : length rest ≡ length piece - l.at = grind (arith, common_steps) in
    let n : HasName s rest c.in-Some.id c.in-Some.named = subst (λ o. IfSome o (λ name. HasName s rest name.0 name.1)) c.in-Some.is l.invariant.next in
    let has = c.in-Some-field_in.ensures in
    let behind = has.0.behind in
    let few = has.0.few in
    let within = has.0.within in
    let new = record s { used = s.used + field.to; filter = c.tell_leaf.new.filter } in
    record {
      at = omega (arith, within, size, reach);
      ran = λ fs h.
          let before = l.invariant.ran fs h in
          led_on_by g.V.Visitor.takes r fs piece l.at s c.args.visitor.now l.visitor c.tell_leaf.new.visitor l.invariant.setting.catalog
          l.invariant.setting.limits l.invariant.used before new field.to (omega (arith, behind, few)) within refl
          (field_goes g.V.Visitor.takes s rest c.in-Some.id c.in-Some.named n c.args.end l.invariant.fields field has c.in-Ok.symbol.now c.in-Ok.ensures
          c.name.new.self l.visitor c.name.new.visitor (c.name.ensures c.if-not-name.false) c.tell_leaf.new.filter c.tell_leaf.new.visitor
          c.in-Ok-tell_leaf.ensures.told c.if-self-end.false before.frames before.went.holds);
      used = omega (arith, l.invariant.used);
      setting = search rules;
      phase = l.invariant.phase;
      fields = l.invariant.fields;
      next = c.name_in-next.ensures;
      goes = λ e. absurd (omega (arith, e, behind, few));
    }

pub returns-in-Err-clause-does : goal.returns-in-Err-clause-does
returns-in-Err-clause-does g c = λ fs h.
    let r = c.args.self.now in
    let piece = c.args.piece.now in
    let l = c.loop-next in
    let s = l.self in
    let field = c.in-Some-field_in.field in
    let rest = take (length piece - l.at) (drop l.at piece) in
    let n : HasName s rest c.in-Some.id c.in-Some.named = subst (λ o. IfSome o (λ name. HasName s rest name.0 name.1)) c.in-Some.is l.invariant.next in
    let new = record s { used = s.used + field.to; filter = c.tell_leaf.new.filter } in
    let before = l.invariant.ran fs h in
    led_on_refused g.V.Visitor.takes r fs piece l.at s c.args.visitor.now l.visitor c.tell_leaf.new.visitor l.invariant.setting.catalog
    l.invariant.setting.limits l.invariant.used before new c.in-Err.reason l.invariant.at
    (field_refused g.V.Visitor.takes s rest c.in-Some.id c.in-Some.named n c.args.end l.invariant.fields field c.in-Some-field_in.ensures
    c.in-Ok.symbol.now c.in-Ok.ensures c.name.new.self l.visitor c.name.new.visitor (c.name.ensures c.if-not-name.false)
    new c.tell_leaf.new.visitor c.in-Err.reason refl c.in-Err.ensures.refused before.frames before.went.holds)

pub returns-clause-does : goal.returns-clause-does
returns-clause-does g c = λ fs h.
    led_took g.V.Visitor.takes c.args.self.now fs c.args.piece.now c.loop-next.at c.loop-next.self c.args.visitor.now c.loop-next.visitor
    c.loop-next.invariant.used (c.loop-next.invariant.ran fs h)

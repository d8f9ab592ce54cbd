use Rattle.std.proofs.Common.{rules, ◌≡◌, ◌+◌, ◌-◌, length, take, drop, refl, subst, arith}
use Rattle.std.proofs.lemmas.Grind.{common_steps}
use Rattle.std.specs.Option.{IfSome}
use Rattle.ion_binary.specs.Names.{HasItem}
use Rattle.ion_binary.proofs.WalkRuns.{led_on_by, led_on_refused, led_took}
use Rattle.ion_binary.proofs.WholeItems.{item_refused, item_took}
use Rattle.ion_binary.proofs.walking.BinaryWalk.read_items.Goals as goal

pub loop-next-preserved : goal.loop-next-preserved
loop-next-preserved g c =
    let r = c.args.self.now in
    let piece = c.args.piece.now in
    let l = c.loop-next in
    let s = l.self in
    let item = c.in-Some.item in
    let rest = take (length piece - l.at) (drop l.at piece) in
    let reach = l.invariant.at in
    let size : length rest ≡ length piece - l.at = grind (arith, common_steps) in
    let has : HasItem s c.args.end rest item = subst (λ o. IfSome o (HasItem s c.args.end rest)) c.in-Some.is l.invariant.next in
    let new = record s { used = s.used + item.to; filter = c.tell_leaf.new.filter } in
    let some = has.0.behind in
    let few = has.0.few in
    let within = has.0.within in
    record {
      at = omega (arith, within, size, reach);
      ran = λ fs h.
          let before = l.invariant.ran fs h in
          led_on_by g.V.Visitor.takes r fs piece l.at s c.args.visitor.now l.visitor c.tell_leaf.new.visitor l.invariant.setting.catalog l.invariant.setting.limits
          l.invariant.used before new item.to (omega (arith, some, few)) within refl
          (item_took g.V.Visitor.takes s c.args.end l.invariant.ready l.invariant.items rest item has c.tell_leaf.new.filter l.visitor c.tell_leaf.new.visitor
          c.in-Ok.ensures.told before.frames before.went.holds);
      used = omega (arith, l.invariant.used);
      setting = search rules;
      ready = l.invariant.ready;
      items = l.invariant.items;
      next = c.item_before-next.ensures;
      goes = λ e. absurd (omega (arith, e, some, few));
    }

pub returns-in-Err-clause-does : goal.returns-in-Err-clause-does
returns-in-Err-clause-does g c = λ fs h.
    let r = c.args.self.now in
    let piece = c.args.piece.now in
    let l = c.loop-next in
    let s = l.self in
    let item = c.in-Some.item in
    let rest = take (length piece - l.at) (drop l.at piece) in
    let has : HasItem s c.args.end rest item = subst (λ o. IfSome o (HasItem s c.args.end rest)) c.in-Some.is l.invariant.next in
    let new = record s { used = s.used + item.to; filter = c.tell_leaf.new.filter } in
    let before = l.invariant.ran fs h in
    led_on_refused g.V.Visitor.takes r fs piece l.at s c.args.visitor.now l.visitor c.tell_leaf.new.visitor l.invariant.setting.catalog l.invariant.setting.limits
    l.invariant.used before new c.in-Err.reason l.invariant.at
    (item_refused g.V.Visitor.takes s c.args.end l.invariant.ready l.invariant.items rest item has c.tell_leaf.new.filter l.visitor c.tell_leaf.new.visitor
    c.in-Err.reason c.in-Err.ensures.refused before.frames before.went.holds)

pub returns-clause-does : goal.returns-clause-does
returns-clause-does g c = λ fs h.
    led_took g.V.Visitor.takes c.args.self.now fs c.args.piece.now c.loop-next.at c.loop-next.self c.args.visitor.now c.loop-next.visitor
    c.loop-next.invariant.used (c.loop-next.invariant.ran fs h)

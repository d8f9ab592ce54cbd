use Rattle.std.proofs.Common.{rules, ◌-◌, Ok, length, take, drop, false, arith, subst, sym}
use Rattle.ion_binary.specs.Names.{BinaryWalk, Effect, Walks, run_of, told}
use Rattle.ion_binary.specs.walking.Runs.{TakesUp, Took}
use Rattle.ion_binary.proofs.WalkRuns.{led_on_end, led_on_gives, led_on_more, led_on_none, led_on_refused}
use Rattle.ion_binary.proofs.walking.BinaryWalk.advance.Goals as goal

pub loop-i-init : goal.loop-i-init
loop-i-init g c = record {
  i = search rules;
  ran = λ fs h. led_on_none g.V.Visitor.takes c.args.self.now fs c.args.piece.now h c.args.visitor.now;
  used = search rules;
  setting = search rules;
}

pub loop-i-preserved : goal.loop-i-preserved
loop-i-preserved g c =
    let up = subst (λ (e : Effect). TakesUp c.loop-i.self.used c.read_piece.new.self.used (take (length c.args.piece.now - c.loop-i.i)
    (drop c.loop-i.i c.args.piece.now)) (Ok e)) c.in-Ok-Goes.field-0-is c.in-Ok-Goes.ensures.up in
    record {
      i = search rules;
      ran = λ fs h.
          let s = c.loop-i.self in
          let new = c.read_piece.new.self in
          let piece = c.args.piece.now in
          let before = c.loop-i.invariant.ran fs h in
          led_on_more g.V.Visitor.takes c.args.self.now fs piece c.loop-i.i s c.args.visitor.now c.loop-i.visitor c.read_piece.new.visitor
          c.loop-i.invariant.setting.catalog c.loop-i.invariant.setting.limits c.loop-i.invariant.used before new up
          (subst (λ (e : Effect). Took g.V.Visitor.takes (told before.frames) s.used (run_of s before.frames) (take (length piece - c.loop-i.i) (drop c.loop-i.i piece))
          (Ok e) new c.loop-i.visitor c.read_piece.new.visitor) c.in-Ok-Goes.field-0-is
          (c.in-Ok-Goes.ensures.does before.frames before.went.holds));
      used = omega (arith, up.0, c.loop-i.invariant.used);
      setting = search rules;
    }

pub returns-in-Ok-Gives-clause-does : goal.returns-in-Ok-Gives-clause-does
returns-in-Ok-Gives-clause-does g c = λ fs h.
    let s = c.loop-i.self in
    let new = c.read_piece.new.self in
    let piece = c.args.piece.now in
    let before = c.loop-i.invariant.ran fs h in
    let up = subst (λ (e : Effect). TakesUp s.used new.used (take (length piece - c.loop-i.i) (drop c.loop-i.i piece)) (Ok e)) c.in-Ok-Gives.field-0-is
    c.in-Ok-Gives.ensures.up in
    led_on_gives g.V.Visitor.takes c.args.self.now fs piece c.loop-i.i s c.args.visitor.now c.loop-i.visitor c.read_piece.new.visitor
    c.loop-i.invariant.setting.catalog c.loop-i.invariant.setting.limits c.loop-i.invariant.used before new up
    (subst (λ (e : Effect). Took g.V.Visitor.takes (told before.frames) s.used (run_of s before.frames) (take (length piece - c.loop-i.i) (drop c.loop-i.i piece))
    (Ok e) new c.loop-i.visitor c.read_piece.new.visitor) c.in-Ok-Gives.field-0-is
    (c.in-Ok-Gives.ensures.does before.frames before.went.holds))

pub returns-in-Err-clause-does : goal.returns-in-Err-clause-does
returns-in-Err-clause-does g c = λ fs h.
    let s = c.loop-i.self in
    let before = c.loop-i.invariant.ran fs h in
    led_on_refused g.V.Visitor.takes c.args.self.now fs c.args.piece.now c.loop-i.i s c.args.visitor.now c.loop-i.visitor c.read_piece.new.visitor
    c.loop-i.invariant.setting.catalog c.loop-i.invariant.setting.limits c.loop-i.invariant.used before c.read_piece.new.self c.in-Err.reason
    c.loop-i.invariant.i (c.in-Err.ensures.does before.frames before.went.holds)

pub returns-clause-does : goal.returns-clause-does
returns-clause-does g c = λ fs h.
    let r = c.args.self.now in
    let piece = c.args.piece.now in
    subst (λ (s : BinaryWalk). Walks g.V.Visitor.takes (told fs) r.used (run_of r fs) piece
    (Ok (record { used = length piece; ended = false })) s c.args.visitor.now c.loop-i.visitor) (sym c.let_go.ensures)
    (led_on_end g.V.Visitor.takes r fs piece c.loop-i.i c.loop-i.self c.args.visitor.now c.loop-i.visitor (omega arith) (c.loop-i.invariant.ran fs h))

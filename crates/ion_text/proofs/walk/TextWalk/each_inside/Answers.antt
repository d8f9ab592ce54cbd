use Rattle.std.proofs.Common.{◌≡◌, ◌<◌, ◌≤◌, ◌-◌, length, arith}
use Rattle.ion_text.proofs.Inside.{steps_none, steps_on}
use Rattle.ion_text.proofs.WholeTokens.{settings_none, settings_on}
use Rattle.ion_text.proofs.walk.TextWalk.each_inside.Goals as goal

pub loop-spot-init : goal.loop-spot-init
loop-spot-init g c = (
  steps_none g.V.Visitor.takes c.args.self.now c.args.spot.now c.args.octets.now c.args.visitor.now c.requires.stands c.requires.within,
  settings_none c.args.self.now,
)

pub loop-spot-preserved : goal.loop-spot-preserved
loop-spot-preserved g c = (
  steps_on g.V.Visitor.takes c.args.self.now c.loop-spot.self c.step_inside.new.self c.args.spot.now c.loop-spot.spot c.step_inside.new.spot
      c.args.octets.now c.args.visitor.now c.loop-spot.visitor c.step_inside.new.visitor c.loop-spot.invariant.0
      (c.step_inside.ensures.steps c.if-not-step_inside.false),
  settings_on c.args.self.now c.loop-spot.self c.step_inside.new.self c.loop-spot.invariant.1 c.step_inside.ensures.same,
)

pub returns-then-spot-from-clause-steps : goal.returns-then-spot-from-clause-steps
returns-then-spot-from-clause-steps g c = λ ok.
    steps_on g.V.Visitor.takes c.args.self.now c.loop-spot.self c.step_inside.new.self c.args.spot.now c.loop-spot.spot c.step_inside.new.spot
    c.args.octets.now c.args.visitor.now c.loop-spot.visitor c.step_inside.new.visitor c.loop-spot.invariant.0
    (c.step_inside.ensures.steps c.if-not-step_inside.false)

pub returns-then-spot-from-clause-same : goal.returns-then-spot-from-clause-same
returns-then-spot-from-clause-same g c = settings_on c.args.self.now c.loop-spot.self c.step_inside.new.self c.loop-spot.invariant.1 c.step_inside.ensures.same

pub returns-then-not-step_inside-clause-same : goal.returns-then-not-step_inside-clause-same
returns-then-not-step_inside-clause-same g c =
    settings_on c.args.self.now c.loop-spot.self c.step_inside.new.self c.loop-spot.invariant.1 c.step_inside.ensures.same

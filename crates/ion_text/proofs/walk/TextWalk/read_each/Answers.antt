use Rattle.std.proofs.Common.{◌≡◌, ◌+◌, ◌-◌, Ok, List, ℕ, length, take, drop, arith, ap, ◌∙◌, subst, length-drop}
use Rattle.std.proofs.lemmas.List.{take_rest}
use Rattle.ion_text.specs.Names.{Ended, Strode}
use Rattle.ion_text.proofs.WholeTokens.{settings_none, settings_on, strode_none, strode_on}
use Rattle.ion_text.proofs.LastTokens.{ends_on}
use Rattle.ion_text.proofs.walk.TextWalk.read_each.Goals as goal

pub loop-taken-init : goal.loop-taken-init
loop-taken-init g c = (strode_none g.V.Visitor.takes c.args.self.now c.args.rest.now c.args.octets.now c.args.visitor.now, settings_none c.args.self.now)

pub read_some-requires : goal.read_some-requires
read_some-requires g c =
    let octets = c.args.octets.now in
    let at = c.loop-taken.at in
    let size : length (take (length octets - at) (drop at octets)) ≡ length octets - at =
    ap (λ (w : List ℕ). length w) (take_rest octets at) ∙ length-drop at octets in
    let within = c.loop-taken.invariant.0.within in
    let used = c.loop-taken.invariant.0.used in
    let room = c.requires in
    omega arith

pub loop-taken-preserved : goal.loop-taken-preserved
loop-taken-preserved g c =
    let octets = c.args.octets.now in
    let at = c.loop-taken.at in
    let two = c.in_ok-taken.ensures in
    let moved = c.read_some.new.rest.used - c.loop-taken.rest.used in
    let y = subst (λ t. Ended g.V.Visitor.takes c.loop-taken.self c.read_some.new.self c.loop-taken.rest c.read_some.new.rest
    (take (length octets - at) (drop at octets)) (moved, t) c.loop-taken.visitor c.read_some.new.visitor) c.in-Uses.is two.ended in
    let now : at + moved ≡ c.read_some.new.rest.used - c.args.rest.now.used = omega (arith, c.loop-taken.invariant.0.used, y.used) in (
      subst (λ (n : ℕ). Strode g.V.Visitor.takes c.args.self.now c.read_some.new.self c.args.rest.now c.read_some.new.rest octets n
          c.args.visitor.now c.read_some.new.visitor) now
          (strode_on g.V.Visitor.takes c.args.self.now c.loop-taken.self c.read_some.new.self c.args.rest.now c.loop-taken.rest c.read_some.new.rest octets
          (take (length octets - at) (drop at octets)) at moved c.args.visitor.now c.loop-taken.visitor c.read_some.new.visitor (take_rest octets at)
          c.loop-taken.invariant.1 c.loop-taken.invariant.0 y),
      settings_on c.args.self.now c.loop-taken.self c.read_some.new.self c.loop-taken.invariant.1 two.same,
    )

pub loop-taken-smaller : goal.loop-taken-smaller
loop-taken-smaller g c =
    let octets = c.args.octets.now in
    let at = c.loop-taken.at in
    let size : length (take (length octets - at) (drop at octets)) ≡ length octets - at =
    ap (λ (w : List ℕ). length w) (take_rest octets at) ∙ length-drop at octets in
    let two = c.in_ok-taken.ensures.ended in
    omega (arith, size, c.loop-taken.invariant.0.used, c.loop-taken.invariant.0.within, two.used, two.within, c.if-now-at.false)

pub returns-then-now-at : goal.returns-then-now-at
returns-then-now-at g c =
    let octets = c.args.octets.now in
    let at = c.loop-taken.at in
    ends_on g.V.Visitor.takes c.args.self.now c.loop-taken.self c.read_some.new.self c.args.rest.now c.loop-taken.rest c.read_some.new.rest octets
    (take (length octets - at) (drop at octets)) at c.args.visitor.now c.loop-taken.visitor c.read_some.new.visitor (take_rest octets at)
    c.loop-taken.invariant.1 c.loop-taken.invariant.0 (Ok c.in_ok-taken.taken) c.in_ok-taken.ensures

pub returns-in_default : goal.returns-in_default
returns-in_default g c =
    let octets = c.args.octets.now in
    let at = c.loop-taken.at in
    ends_on g.V.Visitor.takes c.args.self.now c.loop-taken.self c.read_some.new.self c.args.rest.now c.loop-taken.rest c.read_some.new.rest octets
    (take (length octets - at) (drop at octets)) at c.args.visitor.now c.loop-taken.visitor c.read_some.new.visitor (take_rest octets at)
    c.loop-taken.invariant.1 c.loop-taken.invariant.0 (Ok c.in_ok-taken.taken) c.in_ok-taken.ensures

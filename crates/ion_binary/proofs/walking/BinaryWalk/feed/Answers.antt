use Rattle.std.proofs.Common.{◌+◌, ap, refl, subst}
use Rattle.ion_binary.specs.Names.{IsInside, Phase, counted, machine_of, on_phase, setting_of, told}
use Rattle.ion_binary.proofs.Beginning.{stays}
use Rattle.ion_binary.proofs.Ending.{does_same}
use Rattle.ion_binary.proofs.Tellings.{does_alone}
use Rattle.ion_binary.proofs.walking.BinaryWalk.feed.Goals as goal

pub returns-in-InMarker-clause-does : goal.returns-in-InMarker-clause-does
returns-in-InMarker-clause-does g c = λ fs h.
    let r = c.args.self.now in
    let n = record r { used = r.used + 1 } in
    does_same g.V.Visitor.takes (told fs) _ _ c.on_marker.result c.on_marker.new.self c.args.visitor.now c.args.visitor.now
    (ap (λ p. on_phase (setting_of r) (counted (machine_of r fs)) p c.args.octet) c.in-InMarker.is)
    (does_alone g.V.Visitor.takes (told fs) _ c.on_marker.result c.on_marker.new.self c.args.visitor.now
    (c.on_marker.ensures.does fs (stays r n fs refl refl refl h.inside h) (subst (λ (p : Phase). IsInside p fs) c.in-InMarker.is h.inside)))

pub returns-in-InNumber-clause-does : goal.returns-in-InNumber-clause-does
returns-in-InNumber-clause-does g c = λ fs h.
    let r = c.args.self.now in
    let n = record r { used = r.used + 1 } in
    does_same g.V.Visitor.takes (told fs) _ _ c.on_number.result c.on_number.new.self c.args.visitor.now c.on_number.new.visitor
    (ap (λ p. on_phase (setting_of r) (counted (machine_of r fs)) p c.args.octet) c.in-InNumber.is)
    (c.on_number.ensures.does fs (stays r n fs refl refl refl h.inside h))

pub returns-in-InPad-clause-does : goal.returns-in-InPad-clause-does
returns-in-InPad-clause-does g c = λ fs h.
    let r = c.args.self.now in
    let n = record r { used = r.used + 1 } in
    does_same g.V.Visitor.takes (told fs) _ _ c.on_pad.result c.on_pad.new.self c.args.visitor.now c.on_pad.new.visitor
    (ap (λ p. on_phase (setting_of r) (counted (machine_of r fs)) p c.args.octet) c.in-InPad.is)
    (c.on_pad.ensures.does fs (stays r n fs refl refl refl h.inside h))

use Rattle.std.proofs.Common.{◌+◌, ◌++◌, List, ℕ, ap, length, refl, sym}
use Rattle.ion_binary.specs.Names.{judge, judged, setting_of, spot_of, told}
use Rattle.ion_binary.specs.machine.EachOctet.{moved}
use Rattle.ion_binary.proofs.Beginning.{stays}
use Rattle.ion_binary.proofs.Ending.{does_same}
use Rattle.ion_binary.proofs.walking.BinaryWalk.read_end.Goals as goal

pub returns-then-is_empty-clause-does : goal.returns-then-is_empty-clause-does
returns-then-is_empty-clause-does g c = λ fs h around.
    let r = c.args.self.now in
    let octets = c.args.octets.now in
    let n = record r { used = r.used + length octets } in
    does_same g.V.Visitor.takes (told fs) _ _ c.leaf.result c.leaf.new.self c.args.visitor.now c.leaf.new.visitor
    (ap (λ (w : List ℕ). judged (setting_of r) (moved (spot_of r) (r.used + length octets)) fs (judge r.context c.args.scalar (w ++ octets)))
    (c.is_empty.ensures c.if-is_empty.true))
    (c.leaf.ensures.does fs (stays r n fs refl refl refl h.inside h) around)

pub returns-clause-does : goal.returns-clause-does
returns-clause-does g c = λ fs h around.
    let r = c.args.self.now in
    let octets = c.args.octets.now in
    let n = record r { used = r.used + length octets; body = c.extend_from_slice.new.self } in
    does_same g.V.Visitor.takes (told fs) _ _ c.kept_scalar.result c.kept_scalar.new.self c.args.visitor.now c.kept_scalar.new.visitor
    (ap (λ (w : List ℕ). judged (setting_of r) (moved (spot_of r) (r.used + length octets)) fs (judge r.context c.args.scalar w))
    (sym c.in_ok-extend_from_slice.ensures.ok))
    (c.kept_scalar.ensures.does fs (stays r n fs refl refl refl h.inside h) around)

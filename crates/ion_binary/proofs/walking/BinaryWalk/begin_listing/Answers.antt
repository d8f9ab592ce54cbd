use Rattle.std.proofs.Common.{[], ◌∷◌, refl, ap, sym, ◌∙◌}
use Rattle.std.specs.Prelude.{◌+◌}
use Rattle.ion_binary.specs.Names.{BinaryWalk, Container, Ready, bracket_of, open_containers, proceed, setting_of, spot_of}
use Rattle.ion_binary.specs.machine.Frames as frames
use Rattle.ion_binary.proofs.Beginning.{front_does}
use Rattle.ion_binary.proofs.Ending.{pushed}
use Rattle.ion_binary.proofs.Shells.{deepens}
use Rattle.ion_binary.proofs.walking.BinaryWalk.begin_listing.Goals as goal

pub returns-then-not-may_deepen-clause-does : goal.returns-then-not-may_deepen-clause-does
returns-then-not-may_deepen-clause-does g c = λ fs h around other.
    let r = c.args.self.now in
    rw (deepens r fs c.may_deepen.result h c.may_deepen.ensures ∙ c.if-not-may_deepen.true) refl

pub returns-clause-does : goal.returns-clause-does
returns-clause-does g c = λ fs h around.
    let r = c.args.self.now in
    let s = c.begin_value.new.self in
    let e = c.begin_value.ensures.same in
    front_does g.V.Visitor.takes r s.filter fs h around c.args.visitor.now c.begin_value.new.visitor (c.in_ok-begin_value.ensures.told fs h around)
    (record s { filter = c.open.new.self; frames = c.push.new.self; phase = Ready }) c.proceed.new.self (frames.Items (s.used + c.args.size) c.args.listing []) (bracket_of c.args.listing) _
    c.proceed.result c.open.new.visitor c.proceed.new.visitor (rw c.bracket_of-bracket.ensures at (c.open.ensures c.in_ok-heard.ensures.ok)) refl around around tt tt
    (pushed s.frames.items c.push.new.self.items (Container.Items (s.used + c.args.size) c.args.listing) c.in_ok-push.ensures.items
    ∙ ap (λ (w : BinaryWalk). Container.Items (s.used + c.args.size) c.args.listing ∷ open_containers w) e)
    (rw (deepens r fs c.may_deepen.result h c.may_deepen.ensures ∙ c.if-not-may_deepen.false)
    (ap (λ (w : BinaryWalk). proceed (setting_of w) (spot_of w) (frames.Items (w.used + c.args.size) c.args.listing [] ∷ fs)) (sym e)))
    c.proceed.ensures.does

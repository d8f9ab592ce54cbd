use Rattle.std.proofs.Common.{[], ◌∷◌, refl, ap, sym, ◌∙◌}
use Rattle.std.specs.Prelude.{◌+◌}
use Rattle.ion_binary.specs.Names.{BinaryWalk, Container, InNumber, Purpose, at, goes, open_containers, spot_of}
use Rattle.ion_binary.specs.machine.Frames as frames
use Rattle.ion_binary.proofs.Beginning.{wrapper_does}
use Rattle.ion_binary.proofs.Ending.{pushed}
use Rattle.ion_binary.proofs.walking.BinaryWalk.begin_wrapper.Goals as goal

pub returns-clause-does : goal.returns-clause-does
returns-clause-does g c = λ fs h bare_there around.
    let r = c.args.self.now in
    let s = c.begin_value.new.self in
    let e = c.begin_value.ensures.same in
    let end = s.used + c.args.size in
    wrapper_does g.V.Visitor.takes r s.filter fs h around c.args.visitor.now c.begin_value.new.visitor (c.in_ok-begin_value.ensures.told fs h around)
    (record s { frames = c.push.new.self; phase = InNumber Purpose.AnnotationsLength 0 }) end
    (goes (at (spot_of r) (frames.Annotated (r.used + c.args.size) [] ∷ fs) (InNumber Purpose.AnnotationsLength 0))) bare_there refl
    (pushed s.frames.items c.push.new.self.items (Container.Annotated end) c.in_ok-push.ensures.items
    ∙ ap (λ (w : BinaryWalk). Container.Annotated end ∷ open_containers w) e) tt
    (ap (λ (w : BinaryWalk). goes (at (spot_of w) (frames.Annotated (w.used + c.args.size) [] ∷ fs) (InNumber Purpose.AnnotationsLength 0))) (sym e))

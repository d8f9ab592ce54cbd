use Rattle.std.proofs.Common.{◌+◌, ◌∷◌, refl, ap, ◌∙◌}
use Rattle.ion_binary.specs.Names.{BinaryWalk, Container, Form, Goes, open_containers}
use Rattle.std.specs.Prelude.{Ok}
use Rattle.ion_binary.proofs.Ending.{pushed}
use Rattle.ion_binary.proofs.Shells.{may_begin}
use Rattle.ion_binary.proofs.WalkRuns.{front_did}
use Rattle.ion_binary.proofs.WholeHeaders.{front_run, moved_on}
use Rattle.ion_binary.proofs.WholeWrappers.{note_refused, noted_leaf_refused, noted_leaf_took, noted_took}
use Rattle.ion_binary.proofs.walking.BinaryWalk.read_wrapper.Goals as goal

pub returns-in-Err-clause-does : goal.returns-in-Err-clause-does
returns-in-Err-clause-does g c =
    let same = c.begin_value.ensures.same in
    note_refused c.args.self.now c.args.piece.now c.args.front c.args.size c.in-Some.note c.requires.opens c.in-Some.ensures g.V.Visitor.takes c.begin_value.new.self
    c.in-Err.reason c.args.visitor.now c.begin_value.new.visitor
    (rw same at c.in-Err.ensures) (rw same refl)

pub returns-in-Ok-tell_leaf-clause-does : goal.returns-in-Ok-tell_leaf-clause-does
returns-in-Ok-tell_leaf-clause-does g c =
    let r = c.args.self.now in
    let s = c.begin_value.new.self in
    let same = c.begin_value.ensures.same in
    let leaf = c.in-Some-leaf_at.noted in
    let to = r.used + leaf.to in
    let f = c.tell_leaf.new.filter in
    let result = c.ended.result in
    let new = c.ended.new.self in
    let b = c.tell_leaf.new.visitor in
    let d = c.ended.new.visitor in
    noted_leaf_took r c.args.piece.now c.args.front c.args.size c.in-Some.note c.requires.opens c.in-Some.ensures g.V.Visitor.takes s.filter c.annotation.new.self
    c.in-Ok.symbol.now (rw same at c.in-Ok.ensures) c.args.visitor.now c.begin_value.new.visitor
    c.annotation.new.visitor c.in_ok-begin_value.ensures.told (c.annotation.ensures c.in_ok-heard.ensures.ok) leaf c.in-Some-leaf_at.ensures c.if-to-end.true f new
    result b d c.ended.ensures.moves.used
    (rw same at c.in-Ok-tell_leaf.ensures.told) (rw same at c.ended.ensures.does)

pub returns-in-Err-tell_leaf-clause-does : goal.returns-in-Err-tell_leaf-clause-does
returns-in-Err-tell_leaf-clause-does g c =
    let r = c.args.self.now in
    let s = c.begin_value.new.self in
    let same = c.begin_value.ensures.same in
    let leaf = c.in-Some-leaf_at.noted in
    let f = c.tell_leaf.new.filter in
    let b = c.tell_leaf.new.visitor in
    noted_leaf_refused r c.args.piece.now c.args.front c.args.size c.in-Some.note c.requires.opens c.in-Some.ensures g.V.Visitor.takes s.filter c.annotation.new.self
    c.in-Ok.symbol.now (rw same at c.in-Ok.ensures) c.args.visitor.now c.begin_value.new.visitor
    c.annotation.new.visitor c.in_ok-begin_value.ensures.told (c.annotation.ensures c.in_ok-heard.ensures.ok) leaf c.in-Some-leaf_at.ensures c.if-to-end.true f
    (record s { used = r.used + leaf.to; filter = f }) (Ok Goes) b b refl c.in-Err-tell_leaf.reason
    (λ other. rw same at (c.in-Err-tell_leaf.ensures.refused other))

pub returns-clause-does : goal.returns-clause-does
returns-clause-does g c = λ fs h.
    let r = c.args.self.now in
    let piece = c.args.piece.now in
    let s = c.begin_value.new.self in
    let same = c.begin_value.ensures.same in
    let f = c.annotation.new.self in
    let a = c.args.visitor.now in
    let b = c.annotation.new.visitor in
    let end = r.used + c.args.front + c.args.size in
    rw same (noted_took r piece c.args.front c.args.size c.in-Some.note c.requires.opens c.in-Some.ensures g.V.Visitor.takes s.filter f c.in-Ok.symbol.now
    (rw same at c.in-Ok.ensures) a c.begin_value.new.visitor b c.in_ok-begin_value.ensures.told
    (c.annotation.ensures c.in_ok-heard.ensures.ok) (record s { frames = c.push.new.self })
    (pushed s.frames.items c.push.new.self.items (Container.Annotated end) c.in_ok-push.ensures.items
    ∙ ap (λ (w : BinaryWalk). Container.Annotated end ∷ open_containers w) same) fs h)

pub returns-in_default-clause-does : goal.returns-in_default-clause-does
returns-in_default-clause-does g c = λ fs h.
    let r = c.args.self.now in
    let o = c.requires.opens in
    let may = may_begin r fs h Form.Wrapper (r.used + c.args.front + c.args.size) o.fits in
    front_did g.V.Visitor.takes r fs h c.args.piece.now c.begin_wrapper.new.self c.args.visitor.now c.begin_wrapper.new.visitor c.args.front _ o.within
    (front_run r fs h c.args.piece.now c.args.front c.args.size Form.Wrapper o) c.begin_wrapper.result c.begin_wrapper.ensures.moves.used
    (c.begin_wrapper.ensures.does fs (moved_on r fs h c.args.front) may.0 may.1)

use Rattle.std.proofs.Common.{◌≡◌, ◌≢◌, ◌≤◌, ◌-◌, ◌+◌, ◌<◌, ◌∙◌, List, ℕ, ap, subst, arith, length, length-drop, take, drop}
use Rattle.std.proofs.lemmas.List.{take_rest}
use Rattle.std.proofs.lemmas.Result.{IfErr-weaker}
use Rattle.ion_text.specs.Names.{Known, Memory, Taken, TookSo, scanned}
use Rattle.ion_text.specs.walk.Advances.{gone, with_offset}
use Rattle.ion_text.proofs.Advancing.{both_took, left_reached, told_reached, with_offset_if}
use Rattle.ion_text.proofs.walk.TextWalk.read_piece.Goals as goal

pub gone-count-requires : goal.gone-count-requires
gone-count-requires g c =
    let begun : (scanned c.args.self.now.scanner).used ≡ c.in-Some.rest.used = ap (λ (k : Known). k.used) c.in-Some.ensures.rests in
    omega (arith, c.in-Ok-Uses.ensures.on)

pub returns-in-Ok-Uses-clause-took : goal.returns-in-Ok-Uses-clause-took
returns-in-Ok-Uses-clause-took g c = λ fs ss h.
    let old = c.args.self.now in
    let mid = c.read_tokens.new.self in
    let piece = c.args.piece.now in
    let k = c.gone-count.result in
    let begun : (scanned old.scanner).used ≡ c.in-Some.rest.used = ap (λ (k : Known). k.used) c.in-Some.ensures.rests in
    let on = c.in-Ok-Uses.ensures.on in
    let used : (scanned mid.scanner).used ≡ (scanned old.scanner).used + k = omega (arith, c.gone-count.ensures) in
    let same : gone old mid ≡ k = omega arith in
    let within = c.in-Ok-Uses.ensures.within in
    let some = c.requires.some in
    let inside : k < length piece = omega arith in
    let strode = subst (λ k. TookSo g.V.Visitor.takes fs ss old mid piece k c.args.visitor.now c.read_tokens.new.visitor Taken.Uses) same
    (subst (λ (t : Taken). TookSo g.V.Visitor.takes fs ss old mid piece (gone old mid) c.args.visitor.now c.read_tokens.new.visitor t)
    c.in-Ok-Uses.field-0-is (c.in-Ok-Uses.ensures.took fs ss h)) in
    both_took g.V.Visitor.takes old mid fs ss piece (take (length piece - k) (drop k piece)) k c.args.visitor.now c.read_tokens.new.visitor
    (take_rest piece k) inside strode used (ap (λ (b : _). b.now) c.in-Ok-Uses.ensures.same.catalog) c.in-Ok-Uses.ensures.same.limits
    (with_offset c.read_front-in-Ok-Uses.new.refused c.read_front-in-Ok-Uses.result) c.read_front-in-Ok-Uses.new.self c.read_front-in-Ok-Uses.new.visitor (with_offset_if _ c.read_front-in-Ok-Uses.new.refused c.read_front-in-Ok-Uses.result c.read_front-in-Ok-Uses.ensures.on)
    (c.read_front-in-Ok-Uses.ensures.took strode.frames strode.notes strode.holds)

pub returns-in-Ok-Tells-clause-took : goal.returns-in-Ok-Tells-clause-took
returns-in-Ok-Tells-clause-took g c = λ fs ss h.
    let old = c.args.self.now in
    let new = c.read_tokens.new.self in
    let piece = c.args.piece.now in
    let within = c.in-Ok-Tells.ensures.within in
    let some = c.requires.some in
    let inside : gone old new < length piece = omega arith in
    told_reached g.V.Visitor.takes old new fs ss piece (gone old new) c.args.visitor.now c.read_tokens.new.visitor inside
    (subst (λ (t : Taken). TookSo g.V.Visitor.takes fs ss old new piece (gone old new) c.args.visitor.now c.read_tokens.new.visitor t)
    c.in-Ok-Tells.field-0-is (c.in-Ok-Tells.ensures.took fs ss h))

pub returns-in-Ok-Leaves-clause-took : goal.returns-in-Ok-Leaves-clause-took
returns-in-Ok-Leaves-clause-took g c = λ fs ss h.
    let old = c.args.self.now in
    let new = c.read_tokens.new.self in
    let piece = c.args.piece.now in
    let within = c.in-Ok-Leaves.ensures.within in
    let some = c.requires.some in
    let inside : gone old new < length piece = omega arith in
    left_reached g.V.Visitor.takes old new fs ss piece (gone old new) c.args.visitor.now c.read_tokens.new.visitor inside
    (subst (λ (t : Taken). TookSo g.V.Visitor.takes fs ss old new piece (gone old new) c.args.visitor.now c.read_tokens.new.visitor t)
    c.in-Ok-Leaves.field-0-is (c.in-Ok-Leaves.ensures.took fs ss h))

pub returns-in-Ok-Uses-clause-decides : goal.returns-in-Ok-Uses-clause-decides
returns-in-Ok-Uses-clause-decides g c =
    let piece = c.args.piece.now in
    let k = c.gone-count.result in
    let begun : (scanned c.args.self.now.scanner).used ≡ c.in-Some.rest.used = ap (λ (x : Known). x.used) c.in-Some.ensures.rests in
    let on = c.in-Ok-Uses.ensures.on in
    let within = c.in-Ok-Uses.ensures.within in
    let some = c.requires.some in
    let used : (scanned c.read_tokens.new.self.scanner).used ≡ (scanned c.args.self.now.scanner).used + k = omega (arith, c.gone-count.ensures) in
    let inside : k < length piece = omega (arith, c.gone-count.ensures) in
    let size : length (take (length piece - k) (drop k piece)) ≡ length piece - k = ap (λ (w : List ℕ). length w) (take_rest piece k) ∙ length-drop k piece in
    let mid = (scanned c.read_tokens.new.self.scanner).used in
    let refused = c.read_front-in-Ok-Uses.new.refused in
    IfErr-weaker c.read_front-in-Ok-Uses.result
    (λ reason. reason ≢ Memory → (mid < refused) × (refused ≤ mid + length (take (length piece - k) (drop k piece)))) _
    (λ reason decides other. let d = decides other in (omega (arith, d.0), omega (arith, d.1, size))) c.read_front-in-Ok-Uses.ensures.decides

use Rattle.std.proofs.Common.{◌≡◌, ◌+◌, ◌-◌, ◌++◌, ◌∙◌, length, ap, sym, refl, arith}
use Rattle.std.proofs.lemmas.List.{take_all}
use Rattle.ion_binary.specs.Names.{InBody, in_body, led, spot_of}
use Rattle.ion_binary.specs.machine.EachOctet.{moved}
use Rattle.ion_binary.proofs.Beginning.{stays}
use Rattle.ion_binary.proofs.Insides.{body_led}
use Rattle.ion_binary.proofs.WalkRuns.{around_body, ends_does, ends_run, ends_used, front_did, inside_took}
use Rattle.ion_binary.proofs.walking.BinaryWalk.read_body.Goals as goal

pub returns-then-missing-count-clause-does : goal.returns-then-missing-count-clause-does
returns-then-missing-count-clause-does g c = λ fs h.
    let r = c.args.self.now in
    let piece = c.args.piece.now in
    let t = c.args.scalar in
    let k = c.args.missing + 1 in
    let same : c.args.missing ≡ k - 1 = omega arith in
    let phase = c.requires.phase ∙ ap (λ n. InBody t n) same in
    let new = c.read_end.new.self in
    let a = c.args.visitor.now in
    let b = c.read_end.new.visitor in
    front_did g.V.Visitor.takes r fs h piece new a b k _ (omega arith)
    (ends_run g.V.Visitor.takes r fs h piece new a b t k phase (omega arith) (omega arith)) c.read_end.result
    (ends_used g.V.Visitor.takes r fs h piece new a b t k phase (omega arith) (omega arith) c.read_end.ensures.moves.used)
    (ends_does g.V.Visitor.takes r fs h piece new a b t k phase (omega arith) (omega arith) c.read_end.result c.read_end.ensures.does)

pub returns-clause-does : goal.returns-clause-does
returns-clause-does g c = λ fs h.
    let r = c.args.self.now in
    let piece = c.args.piece.now in
    let k = length piece in
    let t = c.args.scalar in
    let new = record r { body = c.extend_from_slice.new.self; used = r.used + k; phase = InBody t (c.args.missing - k) } in
    inside_took g.V.Visitor.takes r new fs piece k c.args.visitor.now refl (
      body_led r.catalog.now r.limits (spot_of r) fs r.body t c.args.missing k r.phase piece c.requires.phase (omega arith) (omega arith)
          ∙ ap (λ b. led (in_body (moved (spot_of r) (r.used + k)) fs t (c.args.missing - k) b)) (ap (λ w. r.body ++ w) (take_all k piece (omega arith)) ∙ sym c.in_ok-extend_from_slice.ensures.ok),
      stays r new fs refl refl refl (around_body r.phase t c.args.missing fs c.requires.phase h.inside) h,
    )

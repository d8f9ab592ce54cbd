use Rattle.ion_binary.specs.Names.{machine_of}
use Rattle.ion_binary.proofs.WalkRuns.{front_did, inside_took, octet_run}
use Rattle.ion_binary.proofs.WholeFields.{name_took}
use Rattle.ion_binary.proofs.walking.BinaryWalk.read_piece.Goals as goal

pub returns-then-piece-named-ge-LEAST_OF_CONTAINERS-clause-does : goal.returns-then-piece-named-ge-LEAST_OF_CONTAINERS-clause-does
returns-then-piece-named-ge-LEAST_OF_CONTAINERS-clause-does g c =
    name_took g.V.Visitor.takes c.args.self.now c.args.piece.now c.in-Some.id c.in-Some.named c.in-Some.ensures.is c.name_came.new.self c.name_came.result
    c.args.visitor.now c.name_came.ensures.moves.used c.name_came.ensures.does

pub returns-in-InPad-clause-does : goal.returns-in-InPad-clause-does
returns-in-InPad-clause-does g c = λ fs h.
    inside_took g.V.Visitor.takes c.args.self.now c.read_pad.new.self fs c.args.piece.now c.read_pad.result c.args.visitor.now
    c.read_pad.ensures.moves.used (c.read_pad.ensures.led fs h)

pub returns-clause-does : goal.returns-clause-does
returns-clause-does g c = λ fs h.
    let r = c.args.self.now in
    let piece = c.args.piece.now in
    front_did g.V.Visitor.takes r fs h piece c.feed.new.self c.args.visitor.now c.feed.new.visitor 1 _ c.requires.some
    (octet_run r.catalog.now r.limits r.used (machine_of r fs) piece c.requires.some) c.feed.result c.feed.ensures.moves.used (c.feed.ensures.does fs h)

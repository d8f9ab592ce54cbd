use Rattle.std.proofs.Common.{◌+◌}
use Rattle.ion_binary.specs.Names.{Form, Opens}
use Rattle.ion_binary.proofs.Shells.{may_begin}
use Rattle.ion_binary.proofs.WalkRuns.{front_did}
use Rattle.ion_binary.proofs.WholeHeaders.{descriptor_run, front_run, leaf_fits, moved_on}
use Rattle.ion_binary.proofs.walking.BinaryWalk.read_opening.Goals as goal

pub returns-in-None-clause-does : goal.returns-in-None-clause-does
returns-in-None-clause-does g c = λ fs h.
    let r = c.args.self.now in
    let piece = c.args.piece.now in
    let it = c.in-Some.whole in
    let has = c.in-Some.ensures in
    let fits = c.in-None.ensures in
    front_did g.V.Visitor.takes r fs h piece c.leaf.new.self c.args.visitor.now c.leaf.new.visitor it.to _ has.within
    (leaf_fits r fs h piece it has c.requires.ready fits) c.leaf.result c.leaf.ensures.moves.used
    (c.leaf.ensures.does fs (moved_on r fs h it.to) (may_begin r fs h Form.Struct (r.used + it.to) fits))

pub returns-else-piece-lt-LEAST_OF_CONTAINERS-clause-does : goal.returns-else-piece-lt-LEAST_OF_CONTAINERS-clause-does
returns-else-piece-lt-LEAST_OF_CONTAINERS-clause-does g c = λ fs h.
    let r = c.args.self.now in
    let piece = c.args.piece.now in
    let form = c.in-Some-header_at.form in
    let front = c.in-Some-header_at.front in
    let size = c.in-Some-header_at.size in
    let found = c.in-Some-header_at.ensures in
    let fits = c.in-None-unfit.ensures in
    let opens : Opens r piece form front size = record {
      ready = c.requires.ready;
      some = found.front;
      within = found.within;
      small = found.small;
      header = found.header;
      full = found.full;
      fits = fits;
    } in
    front_did g.V.Visitor.takes r fs h piece c.begin.new.self c.args.visitor.now c.begin.new.visitor front _ found.within
    (front_run r fs h piece front size form opens) c.begin.result c.begin.ensures.moves.used
    (c.begin.ensures.does fs (moved_on r fs h front) (may_begin r fs h form (r.used + front + size) fits))

pub returns-clause-does : goal.returns-clause-does
returns-clause-does g c = λ fs h.
    let r = c.args.self.now in
    let piece = c.args.piece.now in
    front_did g.V.Visitor.takes r fs h piece c.on_descriptor.new.self c.args.visitor.now c.on_descriptor.new.visitor 1 _ c.requires.some
    (descriptor_run r fs piece c.opening_of-2.result c.requires.some c.requires.ready c.opening_of-2.ensures) c.on_descriptor.result
    c.on_descriptor.ensures.moves.used (c.on_descriptor.ensures.does fs (moved_on r fs h 1))

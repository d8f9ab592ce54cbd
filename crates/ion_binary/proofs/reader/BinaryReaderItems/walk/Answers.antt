use Rattle.ion_binary.specs.Names.{Told}
use Rattle.ion_symtab.specs.laws.Builds.{tells_held}
use Rattle.ion_binary.proofs.reader.BinaryReaderItems.walk.Goals as goal

pub returns-clause-tells : goal.returns-clause-tells
returns-clause-tells g c =
    tells_held g.V.Visitor.takes (λ r. r.walk) Told (record c.args.self.now { walk = c.walk.new.self }) (Told c.args.self.now.walk) c.args.piece.now
    c.walk.result c.args.visitor.now c.walk.new.visitor c.walk.ensures.tells

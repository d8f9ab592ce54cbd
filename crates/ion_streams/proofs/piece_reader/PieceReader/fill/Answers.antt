use Rattle.std.proofs.Common.{rules, ◌<◌}
use Rattle.ion_streams.proofs.piece_reader.PieceReader.fill.Goals as goal

pub returns-in-Ok-clause-asked : goal.returns-in-Ok-clause-asked
returns-in-Ok-clause-asked g c = λ going.
    let some : 0 < c.in-Ok.count = search rules in
    c.in-Ok.ensures.asked some

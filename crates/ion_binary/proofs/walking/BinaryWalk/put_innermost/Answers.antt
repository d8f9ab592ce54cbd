use Rattle.std.proofs.Common.{sym}
use Rattle.std.specs.Vec.{vec_len}
use Rattle.ion_binary.proofs.Staying.{last_set}
use Rattle.ion_binary.proofs.walking.BinaryWalk.put_innermost.Goals as goal

pub returns-in-Some-clause-there : goal.returns-in-Some-clause-there
returns-in-Some-clause-there c = λ k ks is.
    let frames = c.args.self.now.frames in
    last_set frames.items ks (vec_len frames) k c.args.container (sym frames.ok.0) is

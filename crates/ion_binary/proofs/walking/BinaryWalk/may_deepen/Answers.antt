use Rattle.std.proofs.Common.{arith, sym, lt-ltb}
use Rattle.std.proofs.lemmas.List.{length-reverse, length-map}
use Rattle.ion_binary.specs.Names.{levels, name_of, open_containers, shell, shells}
use Rattle.ion_binary.proofs.Levels.{levels_few}
use Rattle.ion_binary.proofs.walking.BinaryWalk.may_deepen.Goals as goal

pub returns-then-len-depth : goal.returns-then-len-depth
returns-then-len-depth c =
    let r = c.args.self.now in
    sym (lt-ltb (levels (shells r)) r.limits.depth
    (omega (arith, levels_few (shells r), length-map (open_containers r) (shell (name_of r)), length-reverse r.frames.items)))

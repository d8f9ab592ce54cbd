use Rattle.std.proofs.Common.{ap, arith, length}
use Rattle.ion_symtab.proofs.Systems.{nine_symbols}
use Rattle.ion_symtab.proofs.context.Context.apply.Goals as goal

pub of_system-requires : goal.of_system-requires
of_system-requires c = omega (arith, nine_symbols c.self.inside.system c.self.invariant.0, ap length c.in_ok-share.ensures)

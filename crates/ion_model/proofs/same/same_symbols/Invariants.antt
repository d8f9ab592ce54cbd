use Rattle.std.proofs.Common.{◌≡◌, length, drop}
use lib.Pointwise.{pointwise}
use Rattle.ion_model.specs.Names.{symbol_same}
use Rattle.ion_model.proofs.same.same_symbols.Given as goal

abbrev pub invariant-loop-i : goal.invariant-loop-i
invariant-loop-i l = (length l.a ≡ length l.b) × (pointwise symbol_same (drop l.i l.a) (drop l.i l.b) ≡ pointwise symbol_same l.a l.b)

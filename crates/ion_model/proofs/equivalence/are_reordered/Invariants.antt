use Rattle.std.proofs.Common.{◌≡◌, length}
use Rattle.ion_model.proofs.Pairing.{ArePaired}
use Rattle.ion_model.proofs.equivalence.are_reordered.Given as goal

abbrev pub invariant-loop-field : goal.invariant-loop-field
invariant-loop-field l = record { long : length l.paired ≡ 64; pairs : ArePaired l.fs l.gs l.paired l.field-index }

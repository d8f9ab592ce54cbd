use Rattle.std.proofs.Common.{ap}
use Rattle.ion_binary.specs.visiting.BinaryOut.{Encoded}
use Rattle.ion_binary.proofs.BinaryTold.{value_told, values_told}
use Rattle.ion_binary.proofs.laws.binary_told.Goals as goal

pub returns-clause-value : goal.returns-clause-value
returns-clause-value c = value_told

pub returns-clause-values : goal.returns-clause-values
returns-clause-values c = λ s b h.
    let told = values_told s b h in
    (ap (λ (x : Encoded). x.whole) told.0, ap (λ (x : Encoded). x.names) told.0, ap (λ (x : Encoded). x.begun) told.0, told.1)

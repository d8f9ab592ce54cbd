use Rattle.std.proofs.Common.{Ok, take}
use Rattle.ion_text.specs.Names.{number_read, number_reads}
use Rattle.ion_scalar.specs.text.laws.OneNumber.{one_answer}
use Rattle.ion_text.proofs.TokenSteps.{number_says}
use Rattle.ion_text.proofs.walk.untold.untold_number.Goals as goal

pub returns-in-Some-clause-found : goal.returns-in-Some-clause-found
returns-in-Some-clause-found c =
    let kept = take c.in-Some.count c.args.octets.now in
    let found = c.in-Some.ensures in
    let read = found.reads in
    let same = one_answer kept (Ok read.0) (number_read kept) read.1 (number_reads kept) in
    (read.0, λ here rest value. record { kept = kept; found = found.found here rest value; says = number_says kept read.0 same })

use Rattle.std.proofs.Common.{Ok, take}
use Rattle.ion_text.specs.Names.{number_read, number_reads}
use Rattle.ion_scalar.specs.text.laws.OneNumber.{one_answer}
use Rattle.ion_text.proofs.TokenSteps.{number_says}
use Rattle.ion_text.proofs.tokens.finders.short_number_at.Goals as goal

pub returns-clause-found : goal.returns-clause-found
returns-clause-found c = λ x parts here rest value.
    let kept = take c.in_ok-numeral.numeral.count c.args.octets.now in
    let same = one_answer kept (Ok x) (number_read kept) (c.plain_number_of-short.ensures x parts) (number_reads kept) in
    record { kept = kept; found = c.in_ok-numeral.ensures.found here rest value; says = number_says kept x same }

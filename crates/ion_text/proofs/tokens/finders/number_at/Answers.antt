use Rattle.std.proofs.Common.{◌≡◌, Ok, take}
use Rattle.ion_text.specs.Names.{number_read, number_reads}
use Rattle.ion_text.proofs.TokenSteps.{number_says}
use Rattle.ion_text.proofs.tokens.finders.number_at.Goals as goal

pub returns-clause-found : goal.returns-clause-found
returns-clause-found c = λ here rest value.
    let kept = take c.in_ok-count.count c.args.octets.now in
    let same : Ok c.in-Ok.read ≡ number_read kept = c.in-Ok.ensures.only (number_read kept) (number_reads kept) in
    record { kept = kept; found = c.in_ok-count.ensures here rest value; says = number_says kept c.in-Ok.read same }

pub returns-clause-says : goal.returns-clause-says
returns-clause-says c =
    let kept = take c.in_ok-count.count c.args.octets.now in
    number_says kept c.in-Ok.read (c.in-Ok.ensures.only (number_read kept) (number_reads kept))

use Rattle.ion_scalar.specs.Names.{IsWhole}
use Rattle.ion_scalar.specs.text.laws.Texts.{int_reads}
use Rattle.ion_scalar.proofs.text.int_before.Goals as goal

pub returns-clause-again : goal.returns-clause-again
returns-clause-again c =
    let kept : IsWhole c.args.whole = rw (← c.get.ensures.same) c.get.ensures.range in
    int_reads c.args.whole kept

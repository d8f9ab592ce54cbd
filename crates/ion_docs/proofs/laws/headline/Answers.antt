use Rattle.ion_docs.proofs.Headline.{some_verdict, equivalent_both, different_both, left_refused, right_refused}
use Rattle.ion_docs.proofs.laws.headline.Goals as goal

pub returns : goal.returns
returns c = record {
  some = λ g k. some_verdict g k c.paths.ensures.some;
  one = c.one_verdict.ensures;
  equivalent = equivalent_both;
  different = different_both;
  left = left_refused;
  right = right_refused;
}

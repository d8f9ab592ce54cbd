use Rattle.ion_scalar.specs.text.laws.Unsigned.{token_answer}
use Rattle.ion_scalar.proofs.number.numeral_of.Goals as goal

pub returns : goal.returns
returns c = token_answer _ _ _ _ c.split_sign-negative.ensures.sign c.split_sign-negative.ensures.octets c.number_behind.ensures

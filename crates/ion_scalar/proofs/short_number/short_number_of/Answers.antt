use Rattle.ion_scalar.specs.text.laws.ShortNumbers.{short_token}
use Rattle.ion_scalar.proofs.short_number.short_number_of.Goals as goal

pub returns : goal.returns
returns c = short_token _ _ _ _ c.split_sign-negative.ensures.sign c.split_sign-negative.ensures.octets c.short_body.ensures

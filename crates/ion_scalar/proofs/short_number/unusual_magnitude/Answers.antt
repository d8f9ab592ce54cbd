use Rattle.ion_scalar.specs.text.laws.ShortNumbers.{marked_from}
use Rattle.ion_scalar.proofs.short_number.unusual_magnitude.Goals as goal

pub marked_digits-requires-clause-run : goal.marked_digits-requires-clause-run
marked_digits-requires-clause-run c = marked_from _ _ _ c.requires.run

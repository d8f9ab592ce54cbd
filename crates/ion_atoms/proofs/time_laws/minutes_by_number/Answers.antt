use Rattle.ion_atoms.specs.laws.Calendar.{minute-in_years, minute_number-injective}
use Rattle.ion_atoms.proofs.time_laws.minutes_by_number.Goals as goal

pub returns-clause-within : goal.returns-clause-within
returns-clause-within c = minute-in_years

pub returns-clause-one : goal.returns-clause-one
returns-clause-one c = minute_number-injective

use Rattle.ion_atoms.specs.laws.Calendar.{first-le, le-last, day_number-injective}
use Rattle.ion_atoms.proofs.time_laws.days_by_number.Goals as goal

pub returns-clause-first : goal.returns-clause-first
returns-clause-first c = first-le

pub returns-clause-last : goal.returns-clause-last
returns-clause-last c = le-last

pub returns-clause-one : goal.returns-clause-one
returns-clause-one c = day_number-injective

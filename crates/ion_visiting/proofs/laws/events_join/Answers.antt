use Rattle.ion_visiting.specs.laws.Led.{led_both, led_split}
use Rattle.ion_visiting.proofs.laws.events_join.Goals as goal

pub returns-clause-joins : goal.returns-clause-joins
returns-clause-joins g c = led_both g.V.Visitor.takes

pub returns-clause-splits : goal.returns-clause-splits
returns-clause-splits g c = led_split g.V.Visitor.takes

use Rattle.ion_docs.proofs.Described.{describes_each, described_each}
use Rattle.ion_docs.proofs.laws.catalogs.Goals as goal

pub returns-clause-each : goal.returns-clause-each
returns-clause-each c = describes_each

pub returns-clause-all : goal.returns-clause-all
returns-clause-all c = described_each

use Rattle.std.proofs.Common.{sym, subst, ◌∙◌}
use Rattle.ion_scalar.specs.Names.{ReadsTimestampBody}
use Rattle.ion_scalar.specs.binary.laws.TimestampReasons.{timestamp_answers, timestamp_only}
use Rattle.ion_scalar.proofs.timestamp_body.timestamp_of.Goals as goal

pub returns-clause-answer : goal.returns-clause-answer
returns-clause-answer c = subst (ReadsTimestampBody c.args.octets.now) (sym c.read_timestamp.ensures) (timestamp_answers c.args.octets.now)

pub returns-clause-only : goal.returns-clause-only
returns-clause-only c = λ answer reads. c.read_timestamp.ensures ∙ timestamp_only c.args.octets.now answer reads

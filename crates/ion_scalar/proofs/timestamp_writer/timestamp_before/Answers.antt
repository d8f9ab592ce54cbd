use Rattle.ion_scalar.specs.binary.laws.TimestampSpellings.{octets_are, timestamp_again}
use Rattle.ion_scalar.proofs.timestamp_writer.timestamp_before.Goals as goal

pub returns-clause-octets : goal.returns-clause-octets
returns-clause-octets c =
    octets_are c.args.timestamp c.utc_of.result c.offset.result _ _ _ c.utc_of.ensures.value c.offset.ensures.value
    c.ahead_before.ensures c.fields_before.ensures.octets

pub returns-clause-again : goal.returns-clause-again
returns-clause-again c = timestamp_again c.args.timestamp c.utc_of.ensures.kept

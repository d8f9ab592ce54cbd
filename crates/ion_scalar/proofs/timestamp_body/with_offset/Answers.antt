use Rattle.std.proofs.Common.{sym}
use Rattle.ion_scalar.specs.binary.laws.Timestamp.{fields_told, fields_are}
use Rattle.ion_scalar.proofs.timestamp_body.with_offset.Goals as goal

pub show-requires-clause-utc : goal.show-requires-clause-utc
show-requires-clause-utc c =
    let os = c.args.octets.now in
    fields_are os c.in_ok-utc.utc (fields_told c.in_ok-utc.utc os (sym c.in_ok-utc.ensures))

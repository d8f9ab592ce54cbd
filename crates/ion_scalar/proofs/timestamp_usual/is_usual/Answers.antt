use Rattle.std.proofs.lemmas.List.{take_rest}
use Rattle.ion_scalar.specs.binary.laws.Usual.{usual_timestamp}
use Rattle.ion_scalar.proofs.timestamp_usual.is_usual.Goals as goal

pub returns-in-Ok : goal.returns-in-Ok
returns-in-Ok c = λ e.
    usual_timestamp c.args.octets.now _ c.in-Ok.used c.in-Ok.ensures.value
    (rw (take_rest c.args.octets.now c.in-Ok.used) at (c.is_usual_time.ensures e))

use Rattle.std.proofs.Common.{sym, arith}
use Rattle.ion_binary.proofs.Descriptors.{scalar_follows, scalar_known}
use Rattle.ion_binary.proofs.form.opening_of.Goals as goal

pub returns-in-Some : goal.returns-in-Some
returns-in-Some c = sym (scalar_follows c.in-Some.scalar c.args.octet c.in-Some.ensures (omega arith))

pub returns-in-Some-2 : goal.returns-in-Some-2
returns-in-Some-2 c = sym (scalar_known c.in-Some.scalar c.args.octet c.in-Some.ensures (omega arith) (omega arith))

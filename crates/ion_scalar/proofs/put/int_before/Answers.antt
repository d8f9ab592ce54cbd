use Rattle.std.proofs.Common.{◌-◌, length, arith}
use Rattle.ion_scalar.specs.Names.{ROOM}
use Rattle.ion_scalar.proofs.Places.{room_for}
use Rattle.ion_scalar.proofs.put.int_before.Goals as goal

pub push_signed-requires-clause-room : goal.push_signed-requires-clause-room
push_signed-requires-clause-room c = room_for 256 c.args.magnitude 16 (ROOM - length c.args.octets.now - 1) (omega arith) (omega arith) (omega arith)

pub returns-clause-few : goal.returns-clause-few
returns-clause-few c =
    let few = c.push_signed.ensures.few 16 (omega arith) in
    omega arith

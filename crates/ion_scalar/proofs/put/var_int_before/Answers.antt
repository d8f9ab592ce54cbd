use Rattle.std.proofs.Common.{◌-◌, length, arith}
use Rattle.ion_scalar.specs.Names.{ROOM}
use Rattle.ion_scalar.proofs.Places.{room_for}
use Rattle.ion_scalar.proofs.put.var_int_before.Goals as goal

pub push_signed-requires-clause-room : goal.push_signed-requires-clause-room
push_signed-requires-clause-room c =
    let push = c.push_front-2.ensures in
    room_for 128 c.from-front.result 8 (ROOM - length c.push_front-2.new.self - 1) (omega arith) (omega arith) (rw push (omega arith))

pub returns-clause-few : goal.returns-clause-few
returns-clause-few c =
    let few = rw c.push_front-2.ensures at c.push_signed.ensures.few 8 (omega arith) in
    omega arith

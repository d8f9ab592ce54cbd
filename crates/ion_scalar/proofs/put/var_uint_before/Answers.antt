use Rattle.std.proofs.Common.{◌-◌, length, arith}
use Rattle.ion_scalar.specs.Names.{ROOM}
use Rattle.ion_scalar.proofs.Places.{room_for}
use Rattle.ion_scalar.proofs.put.var_uint_before.Goals as goal

pub push_digits-requires-clause-room : goal.push_digits-requires-clause-room
push_digits-requires-clause-room c =
    let push = c.push_front.ensures in
    room_for 128 c.from.result 8 (ROOM - length c.push_front.new.self) (omega arith) (omega arith) (rw push (omega arith))

pub returns-clause-few : goal.returns-clause-few
returns-clause-few c =
    let few = rw c.push_front.ensures at c.push_digits.ensures.few 8 (omega arith) in
    omega arith

pub returns-clause-few_of_small : goal.returns-clause-few_of_small
returns-clause-few_of_small c = λ small.
    let few = rw c.push_front.ensures at c.push_digits.ensures.few 2 (omega arith) in
    omega arith

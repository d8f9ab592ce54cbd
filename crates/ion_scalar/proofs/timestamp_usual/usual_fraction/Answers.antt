use Rattle.std.proofs.Common.{◌<◌, ◌^◌, ◌-◌, drop, get_or, false, sym, arith}
use Rattle.std.proofs.lemmas.Bool.{ltb-true}
use Rattle.std.proofs.lemmas.List.{take_rest}
use Rattle.ion_scalar.specs.Names.{int_magnitude}
use Rattle.ion_scalar.specs.binary.laws.Usual.{int_told, usual_fraction}
use Rattle.ion_scalar.proofs.timestamp_usual.usual_fraction.Goals as goal

pub returns-in-Some : goal.returns-in-Some
returns-in-Some c = λ e minute second.
    let os = c.args.octets.now in
    let told = int_told (drop 1 os) false c.in-Some.magnitude (sym (rw (take_rest os 1) at c.in-Some.ensures)) in
    let small = ltb-true c.in-Some.magnitude c.ten_to.result e in
    let bound : int_magnitude (drop 1 os) < 10 ^ (get_or os 0 0 - 192) = rw told.1 (rw c.ten_to.ensures at small) in
    usual_fraction os (omega arith) (omega arith) told.0 bound minute second

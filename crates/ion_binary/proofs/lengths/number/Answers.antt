use Rattle.std.proofs.Common.{◌<◌, length, take, get_or, sym, subst, arith}
use Rattle.ion_binary.specs.Names.{VarUInt}
use Rattle.ion_binary.proofs.OneDigit.{one_digit}
use Rattle.ion_binary.proofs.lengths.number.Goals as goal

pub returns-then-octets-ge128-clause-is : goal.returns-then-octets-ge128-clause-is
returns-then-octets-ge128-clause-is c =
    let octets = c.args.octets.now in
    let some : 0 < length octets = grind (arith, c.is_empty.ensures, c.if-is_empty.false) in
    let fits = c.type_inv.octets 0 in
    let octet : get_or octets 0 0 < 256 = omega arith in
    subst (VarUInt (take 1 octets)) (sym c.from.ensures) (one_digit octets some c.if-octets-ge128.true octet)

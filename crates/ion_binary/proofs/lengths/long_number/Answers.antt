use Rattle.std.proofs.Common.{◌≤◌, length, take, sym, subst, ◌∙◌, arith}
use Rattle.std.proofs.lemmas.List.{length-take-le, take-take}
use Rattle.ion_binary.specs.Names.{VarUInt}
use Rattle.ion_scalar.specs.binary.laws.VarUInt.{var_uint_ok}
use Rattle.ion_binary.proofs.lengths.long_number.Goals as goal

pub returns-in-Ok-clause-is : goal.returns-in-Ok-clause-is
returns-in-Ok-clause-is c =
    let octets = c.args.octets.now in
    let near = c.min.result in
    let read = c.in-Ok.read in
    let begins = var_uint_ok (take near octets) read.0 read.1 (sym c.read_var_uint.ensures ∙ c.in-Ok.is) in
    let few : near ≤ length octets = omega (arith, c.min.ensures) in
    let size = length-take-le near octets few in
    subst (λ w. VarUInt w read.0) (take-take read.1 near octets (omega (arith, begins.within, size))) begins.is

use Rattle.std.proofs.Common.{rules, ◌≡◌, ◌++◌}
use Rattle.ion_binary.specs.Names.{var_uint_octets}
use Rattle.ion_binary.proofs.BinaryTold.{id_put}
use Rattle.ion_binary.proofs.binary_out.BinaryOut.put_symbol_id.Goals as goal

pub returns-in-Some-clause-put : goal.returns-in-Some-clause-put
returns-in-Some-clause-put g c = λ e.
    let put : c.put_digits.new.out.items ≡ c.self.inside.value.items ++ var_uint_octets c.in-Some.id = search rules in
    id_put _ c.symbol_id.new.self c.args.self.now _ c.in-Some.id c.put_digits.new.out.items c.self.view_is c.in-Some.ensures.named c.in-Some.ensures.id put

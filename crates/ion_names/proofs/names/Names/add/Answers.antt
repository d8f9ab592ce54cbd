use Rattle.std.proofs.Common.{◌∙◌}
use Rattle.ion_names.specs.laws.Later.{id_later}
use Rattle.ion_names.proofs.names.Names.add.Goals as goal

pub returns-clause-id : goal.returns-clause-id
returns-clause-id g c = λ later h.
    let known = c.in_ok-id.ensures in
    known.id ∙ id_later c.args.self.now c.args.name c.insert.new.self later known.ok h

use Rattle.std.proofs.Common.{Some, ap, ◌∙◌}
use Rattle.std.proofs.lemmas.Option.{same_Some}
use Rattle.ion_visiting.specs.Names.{body_payload}
use Rattle.ion_visiting.specs.laws.Filters.{part_passes}
use Rattle.ion_visiting.proofs.table_filter.TableFilter.number_body.Goals as goal

pub returns-in-Some-true-clause-told : goal.returns-in-Some-true-clause-told
returns-in-Some-true-clause-told g c = λ is.
    let plain = same_Some _ _ is in
    part_passes g.V.Visitor.takes (body_payload c.args.body.now) c.args.self.now c.lets_pass.new.self c.args.visitor.now c.number_body.new.self
    (c.lets_pass.ensures.plain plain) (c.lets_pass.ensures.passes plain) (c.number_body.ensures.told (c.in-Some-true.is ∙ ap Some c.in-Some-true.field-0-test))

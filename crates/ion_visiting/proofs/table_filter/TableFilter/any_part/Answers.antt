use Rattle.std.proofs.Common.{sym, ◌∙◌}
use Rattle.ion_visiting.specs.laws.Filters.{part_passes}
use Rattle.ion_visiting.proofs.table_filter.TableFilter.any_part.Goals as goal

pub returns-clause-told : goal.returns-clause-told
returns-clause-told g c = λ is payload.
    part_passes g.V.Visitor.takes payload c.args.self.now c.pass.new.self c.args.visitor.now c.any_part.new.self (sym c.may_be_table.ensures ∙ c.if-may_be_table.false)
    c.pass.ensures (c.in_ok-told.ensures.told is payload)

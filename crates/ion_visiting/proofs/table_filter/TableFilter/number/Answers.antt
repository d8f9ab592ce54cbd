use Rattle.std.proofs.Common.{refl, sym, ap, ◌∙◌}
use Rattle.ion_visiting.specs.Names.{number_payload, part}
use Rattle.ion_visiting.specs.Tables.{is_of_table}
use Rattle.ion_visiting.specs.laws.Filters.{number_null, table_tells, visitor_tells}
use Rattle.ion_visiting.proofs.table_filter.TableFilter.number.Goals as goal

pub returns-then-enter_table : goal.returns-then-enter_table
returns-then-enter_table g c = λ is.
    table_tells g.V.Visitor.takes (part (number_payload c.args.number)) c.args.self.now c.enter_table.new.self _ c.args.visitor.now tt
    (ap (is_of_table c.args.self.now.table) (number_null c.args.number) ∙ (sym c.is_table.ensures ∙ c.if-is_table.true)) (c.enter_table.ensures c.if-enter_table.true) refl refl (c.number.ensures is)

pub returns-then-let_pass : goal.returns-then-let_pass
returns-then-let_pass g c = λ is.
    visitor_tells g.V.Visitor.takes (part (number_payload c.args.number)) c.args.self.now c.let_pass.new.self c.args.visitor.now c.let_pass.new.visitor _ tt
    (ap (is_of_table c.args.self.now.table) (number_null c.args.number) ∙ (sym c.is_table.ensures ∙ c.if-is_table.false)) (c.let_pass.ensures c.if-let_pass.true) (c.number-then-let_pass.ensures is)

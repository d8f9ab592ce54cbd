use Rattle.std.proofs.Common.{refl, sym, ◌∙◌}
use Rattle.ion_visiting.specs.Names.{part}
use Rattle.ion_model.specs.declared.value.Payload.TheVariants as payloads
use Rattle.ion_visiting.specs.laws.Filters.{table_tells, visitor_tells}
use Rattle.ion_visiting.proofs.table_filter.TableFilter.symbol.Goals as goal

pub returns-then-enter_table : goal.returns-then-enter_table
returns-then-enter_table g c = λ is.
    table_tells g.V.Visitor.takes (part (payloads.Symbol c.args.symbol.now)) c.args.self.now c.enter_table.new.self _ c.args.visitor.now tt
    (sym c.is_table.ensures ∙ c.if-is_table.true) (c.enter_table.ensures c.if-enter_table.true) refl refl (c.tell_symbol.ensures is)

pub returns-then-let_pass : goal.returns-then-let_pass
returns-then-let_pass g c = λ is.
    visitor_tells g.V.Visitor.takes (part (payloads.Symbol c.args.symbol.now)) c.args.self.now c.let_pass.new.self c.args.visitor.now c.let_pass.new.visitor _ tt
    (sym c.is_table.ensures ∙ c.if-is_table.false) (c.let_pass.ensures c.if-let_pass.true) (c.tell_symbol-then-let_pass.ensures is)

use Rattle.std.proofs.Common.{Some}
use Rattle.ion_visiting.specs.laws.Filters.{note_passes}
use Rattle.ion_visiting.proofs.table_filter.TableFilter.pass_text.Goals as goal

pub returns-then-let_pass : goal.returns-then-let_pass
returns-then-let_pass g c = λ is.
    note_passes g.V.Visitor.takes (Some c.args.text.now) c.args.self.now c.let_pass.new.self c.args.visitor.now c.let_pass.new.visitor _
    (c.let_pass.ensures c.if-let_pass.true) (c.annotation.ensures is)

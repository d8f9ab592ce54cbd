use Rattle.std.proofs.Common.{Some, refl}
use Rattle.ion_visiting.specs.laws.Filters.{none_noted, unknown_noted, yes_noted}
use Rattle.ion_visiting.proofs.table_filter.TableFilter.text_annotation.Goals as goal

pub returns-in-No : goal.returns-in-No
returns-in-No g c = λ is.
    none_noted g.V.Visitor.takes (Some c.args.text.now) c.args.self.now c.pass_text.new.self c.args.visitor.now c.pass_text.new.visitor c.in-No.is
    (c.pass_text.ensures is)

pub returns-in-Unknown : goal.returns-in-Unknown
returns-in-Unknown g c = λ is.
    unknown_noted g.V.Visitor.takes (Some c.args.text.now) c.args.self.now c.pass_text-in-Unknown.new.self c.args.visitor.now
    c.pass_text-in-Unknown.new.visitor c.in-Unknown.is c.requires (c.pass_text-in-Unknown.ensures is)

pub returns-in-Yes : goal.returns-in-Yes
returns-in-Yes g c = λ is.
    yes_noted g.V.Visitor.takes (Some c.args.text.now) c.args.self.now _ c.args.visitor.now c.in-Yes.is refl refl (c.annotation.ensures is)

use Rattle.std.proofs.Common.{refl, ap}
use Rattle.ion_visiting.specs.Names.{TableFilter}
use Rattle.ion_visiting.specs.laws.Filters.{further_kept, none_noted, yes_noted}
use Rattle.ion_visiting.proofs.table_filter.TableFilter.annotation.Goals as goal

pub returns-in-No : goal.returns-in-No
returns-in-No g c = λ is.
    none_noted g.V.Visitor.takes c.args.symbol.now c.args.self.now c.pass_annotation-in-No.new.self c.args.visitor.now c.pass_annotation-in-No.new.visitor c.in-No.is
    (c.pass_annotation-in-No.ensures is)

pub returns-in-Noted : goal.returns-in-Noted
returns-in-Noted g c = λ is.
    let e = c.keep-in-Noted.ensures is in
    further_kept g.V.Visitor.takes c.args.symbol.now c.args.self.now c.keep-in-Noted.new.self c.args.visitor.now c.in-Noted.is
    (ap (λ (f : TableFilter). f.table) e) (ap (λ (f : TableFilter). f.notes) e) (ap (λ (f : TableFilter). f.tables) e)

pub returns-in-Yes : goal.returns-in-Yes
returns-in-Yes g c = λ is.
    yes_noted g.V.Visitor.takes c.args.symbol.now c.args.self.now _ c.args.visitor.now c.in-Yes.is refl refl (c.tell_annotation.ensures is)

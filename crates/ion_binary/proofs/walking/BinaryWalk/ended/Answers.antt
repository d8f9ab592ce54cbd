use Rattle.std.proofs.Common.{◌++◌, Ok, ap, refl, reverse, sym, ◌∙◌}
use Rattle.std.specs.Prelude.{◌==◌}
use Rattle.ion_binary.specs.Names.{Goes, deliver, events_of, heard, setting_of, spot_of}
use Rattle.ion_visiting.specs.laws.Filters.{hears_none}
use Rattle.ion_binary.specs.walking.Holds.{told_in}
use Rattle.ion_binary.proofs.Ending.{left_at_top}
use Rattle.ion_binary.proofs.Tellings.{does_alone}
use Rattle.ion_binary.proofs.WalkRuns.{empty_where}
use Rattle.ion_binary.proofs.walking.BinaryWalk.ended.Goals as goal

pub returns-then-is_empty-clause-does : goal.returns-then-is_empty-clause-does
returns-then-is_empty-clause-does g c = λ fs v h.
    let r = c.args.self.now in
    let none = empty_where r.frames.items (ap (λ n. n == 0) (sym r.frames.ok.0) ∙ (sym c.is_empty.ensures ∙ c.if-is_empty.true)) in
    let es = told_in fs ++ events_of v in
    let a = c.args.visitor.now in
    left_at_top g.V.Visitor.takes (deliver (setting_of r) (spot_of r) fs v) es a r c.give.result c.give.new.self a
    (fs, v, refl, record { behind = h; hears = hears_none g.V.Visitor.takes (heard es) (heard es) a refl }) (ap reverse none) c.give.ensures.does

pub returns-then-stays_open-clause-does : goal.returns-then-stays_open-clause-does
returns-then-stays_open-clause-does g c = λ fs v h.
    let r = c.args.self.now in
    does_alone g.V.Visitor.takes (told_in fs ++ events_of v) (deliver (setting_of r) (spot_of r) fs v) (Ok Goes) c.stays_open.new.self
    c.args.visitor.now
    (c.stays_open.ensures.does c.if-stays_open.true fs v h)

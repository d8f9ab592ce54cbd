use Rattle.std.proofs.Common.{refl}
use Rattle.ion_binary.specs.Names.{setting_of, spot_of}
use Rattle.ion_binary.proofs.Ending.{items_behind, named_behind, wrapper_behind}
use Rattle.ion_binary.proofs.walking.BinaryWalk.behind_value.Goals as goal

pub returns-in-Items-clause-does : goal.returns-in-Items-clause-does
returns-in-Items-clause-does g c =
    let r = c.args.self.now in
    items_behind g.V.Visitor.takes (setting_of r) (spot_of r) r c.args.container c.close_items.result c.close_items.new.self c.args.visitor.now
    c.close_items.new.visitor c.in-Items.end c.in-Items.listing c.in-Items.is c.close_items.ensures.does

pub returns-in-Named-clause-does : goal.returns-in-Named-clause-does
returns-in-Named-clause-does g c =
    let r = c.args.self.now in
    named_behind g.V.Visitor.takes (setting_of r) (spot_of r) r c.args.container c.close_fields.result c.close_fields.new.self c.args.visitor.now
    c.close_fields.new.visitor c.in-Named.end c.in-Named.is c.close_fields.ensures.does

pub returns-in-Annotated-clause-does : goal.returns-in-Annotated-clause-does
returns-in-Annotated-clause-does g c =
    wrapper_behind g.V.Visitor.takes c.args.self.now c.args.self.now c.args.container _ c.args.visitor.now c.in-Annotated.is refl

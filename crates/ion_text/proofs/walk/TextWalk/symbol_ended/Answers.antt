use Rattle.ion_text.specs.Names.{ended, setting_of, spot_of}
use Rattle.ion_model.specs.declared.value.Payload.TheVariants as payloads
use Rattle.ion_text.proofs.Ended.{whole_does}
use Rattle.ion_text.proofs.Holding.{symbol_layer}
use Rattle.ion_text.proofs.walk.TextWalk.symbol_ended.Goals as goal

pub returns-clause-does : goal.returns-clause-does
returns-clause-does g c =
    let r = c.args.self.now in
    whole_does g.V.Visitor.takes (λ fs v. ended (setting_of r) (spot_of r c.args.end) fs v) r (payloads.Symbol c.args.symbol) c.symbol-told.new.self c.ended.result
    c.ended.new.self c.args.visitor.now c.symbol-told.new.visitor c.requires (symbol_layer c.args.symbol) (c.symbol-told.ensures c.in_ok-heard.ensures.ok) c.ended.ensures.does

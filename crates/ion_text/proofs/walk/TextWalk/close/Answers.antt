use Rattle.std.proofs.Common.{reverse, sym, ◌∙◌, arith}
use Rattle.ion_text.specs.Names.{setting_of, spot_of}
use Rattle.ion_text.proofs.Opened.{closes_does, popped}
use Rattle.ion_text.proofs.walk.TextWalk.close.Goals as goal

pub returns-clause-does : goal.returns-clause-does
returns-clause-does g c =
    let r = c.args.self.now in
    closes_does g.V.Visitor.takes (setting_of r) (spot_of r c.args.end) r c.args.bracket (reverse c.pop-closed.new.self.items) c.close.new.self
    c.ended.result c.ended.new.self c.args.visitor.now c.close.new.visitor c.requires
    (popped c.args.bracket r.frames.items c.pop-closed.new.self.items c.pop-closed.result c.pop-closed.ensures.items
    (λ s. c.pop-closed.ensures.variant.1 (omega (arith, s, r.frames.ok.0))) (sym c.closes.ensures ∙ c.if-not-closes.false))
    (c.close.ensures c.in_ok-heard.ensures.ok) c.ended.ensures.does

use Rattle.std.proofs.Common.{[], sym, subst, ◌∙◌}
use Rattle.ion_text.specs.Names.{Does, Held, Holds, released, setting_of, spot_of, told}
use Rattle.ion_text.proofs.Ended.{bare_alone}
use Rattle.ion_text.proofs.Taking.{does_alone}
use Rattle.ion_text.proofs.walk.TextWalk.release.Goals as goal
use Rattle.ion_text.specs.laws.showing.tokens.Exacts.{top_none}

pub returns-then-not-self-clause-does : goal.returns-then-not-self-clause-does
returns-then-not-self-clause-does g c = λ fs ss h.
    let r = c.args.self.now in
    let f = top_none fs (sym (c.is_top.ensures fs ss h) ∙ c.if-is_top.true) in
    let n = bare_alone ss (sym h.0.notes ∙ c.if-not-self.true) in
    let none = subst (λ ss. Holds r [] ss) n (subst (λ fs. Holds r fs ss) f h) in
    subst (λ fs. Does g.V.Visitor.takes (told fs ss) (released (setting_of r) (spot_of r c.args.end) fs ss c.args.held) c.mark.result c.mark.new.self
    c.args.visitor.now c.args.visitor.now) (sym f)
    (subst (λ ss. Does g.V.Visitor.takes (told [] ss) (released (setting_of r) (spot_of r c.args.end) [] ss c.args.held) c.mark.result c.mark.new.self
    c.args.visitor.now c.args.visitor.now) (sym n)
    (subst (λ (k : Held). Does g.V.Visitor.takes (told [] []) (released (setting_of r) (spot_of r c.args.end) [] [] k) c.mark.result c.mark.new.self
    c.args.visitor.now c.args.visitor.now) (sym c.in-Version.is)
    (does_alone g.V.Visitor.takes (told [] []) _ c.mark.result c.mark.new.self c.args.visitor.now (c.mark.ensures.does c.in-Version.symbol none))))

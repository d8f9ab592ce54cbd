use Rattle.std.proofs.Common.{◌≡◌, ◌∙◌, ap, Bool, if◌then◌else◌, Option, Some}
use Rattle.std.specs.Prelude.{option_map}
use Rattle.ion_text.specs.Names.{Stage}
use Rattle.ion_text.proofs.Opened.{comma_goes}
use Rattle.ion_text.proofs.walk.TextWalk.on_comma.Goals as goal

-- what may come, by whether it is a field's name
abbrev stage_of : Option Bool → Option Stage
stage_of names = option_map (λ (b : Bool). if b then Stage.Name else Stage.Ready) names

pub returns-then-names-clause-does : goal.returns-then-names-clause-does
returns-then-names-clause-does c =
    let is : stage_of c.names_behind_comma.result ≡ Some Stage.Name = ap stage_of (rw c.if-names.true at c.in-Some.is) in
    comma_goes c.args.self.now c.set_stage.new.self Stage.Name (c.names_behind_comma.ensures ∙ is) c.set_stage.ensures c.requires

pub returns-clause-does : goal.returns-clause-does
returns-clause-does c =
    let is : stage_of c.names_behind_comma.result ≡ Some Stage.Ready = ap stage_of (rw c.if-names.false at c.in-Some.is) in
    comma_goes c.args.self.now c.set_stage-2.new.self Stage.Ready (c.names_behind_comma.ensures ∙ is) c.set_stage-2.ensures c.requires

use Rattle.ion_tokens.proofs.runs.Base64Groups.{front_of_nothing}
use Rattle.ion_tokens.proofs.gone_front.GoneFront.begin_base64.Goals as goal

pub invariant_of-self : goal.invariant_of-self
invariant_of-self c = front_of_nothing c.self.inside.gone c.nothing.result (c.is_nothing.ensures.0 c.if-is_nothing.true) c.nothing.ensures

use Rattle.std.proofs.Common.{◌≡◌, subst, true}
use Rattle.ion_tokens.specs.machine.LetGo.{Decodes, Front}
use Rattle.ion_tokens.proofs.gone_front.GoneFront.stands.Goals as goal

pub returns : goal.returns
returns c = subst (λ (f : Front). f.is_base64 ≡ true → Decodes f.octets) c.self.view_is (λ yes. (c.self.inside.octets, c.self.invariant.stands yes))

use Rattle.ion_tokens.proofs.runs.Base64Groups.{front_more}
use Rattle.ion_tokens.proofs.gone_front.GoneFront.add_base64.Goals as goal

pub invariant_of-self : goal.invariant_of-self
invariant_of-self c =
    let front = c.self.inside in
    rw (c.add.ensures, c.add-2.ensures)
    (front_more front.gone front.octets c.args.text.now c.args.octets.now front.is_base64 c.self.invariant c.requires.fewer c.requires.stands)

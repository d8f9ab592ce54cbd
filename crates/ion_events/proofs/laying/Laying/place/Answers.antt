use Rattle.std.proofs.Common.{◌∙◌}
use Rattle.ion_events.proofs.Placed.{shows_known}
use Rattle.ion_events.proofs.laying.Laying.place.Goals as goal

pub returns-in-Some : goal.returns-in-Some
returns-in-Some g c = λ p e.
    let told = c.is_text_at.ensures in
    let yes = c.if-is_text_at.true in
    shows_known c.args.self.now c.args.self.now c.args.text.now p c.guess-guess.result (told.id yes) (told.named yes) (c.known.ensures p (c.in-Some.is ∙ e))

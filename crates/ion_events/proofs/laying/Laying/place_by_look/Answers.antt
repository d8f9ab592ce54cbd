use Rattle.std.proofs.Common.{◌∙◌, refl}
use Rattle.ion_events.specs.Laying.{IsNamed}
use Rattle.ion_events.proofs.Placed.{shows_found, shows_put}
use Rattle.ion_events.proofs.laying.Laying.place_by_look.Goals as goal

pub returns-in-Some : goal.returns-in-Some
returns-in-Some g c = λ p e.
    let h = c.in_ok-id.ensures c.in_ok-id.id refl in
    let m = record c.id_of.new.self { guesses = c.note.new.self } in
    let named : IsNamed c.args.self.now c.args.text.now c.in_ok-id.id m = record { draft = h.draft; names = h.names; is = h.is; places = h.places } in
    shows_found c.args.self.now m c.args.text.now p c.in_ok-id.id named (c.known.ensures p (c.in-Some.is ∙ e))

pub returns-in-None : goal.returns-in-None
returns-in-None g c = λ p e.
    let h = c.in_ok-id.ensures c.in_ok-id.id refl in
    let m = record c.id_of.new.self { guesses = c.note.new.self } in
    let named : IsNamed c.args.self.now c.args.text.now c.in_ok-id.id m = record { draft = h.draft; names = h.names; is = h.is; places = h.places } in
    shows_put c.args.self.now c.put.new.self c.args.text.now p c.in_ok-id.id m named (c.put.ensures p e)

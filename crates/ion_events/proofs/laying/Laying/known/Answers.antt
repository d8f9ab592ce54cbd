use Rattle.std.proofs.Common.{◌≡◌, List, Some, Option, ap, sym, refl, ◌∙◌, length, slice_get}
use Rattle.std.proofs.lemmas.Option.{slice_get_read}
use Rattle.ion_events.specs.Names.{Place}
use Rattle.ion_events.proofs.laying.Laying.known.Goals as goal

pub returns-in-Some : goal.returns-in-Some
returns-in-Some g c = λ p e.
    let places = c.deref.result.now in
    let id = c.args.id in
    let k = c.in-Some.ensures.lookup in
    let read : slice_get places id ≡ Some c.in-Some.place.now = slice_get_read places (length places) id c.in-Some.place.now refl k.3.0 k.1 in
    ap (λ (xs : List (Option Place)). slice_get xs id) (sym c.deref.ensures.value) ∙ read ∙ ap Some e

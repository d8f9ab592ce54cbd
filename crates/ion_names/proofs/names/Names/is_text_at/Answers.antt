use Rattle.std.proofs.Common.{◌≡◌, Some, ap, sym, refl, ◌∙◌, length, slice_get}
use Rattle.std.proofs.lemmas.Option.{slice_get_read}
use Rattle.ion_names.specs.Names.{Names, id_of}
use Rattle.ion_names.proofs.Ids.{id_at}
use Rattle.ion_names.proofs.names.Names.is_text_at.Goals as goal

pub returns-in-Some-clause-id : goal.returns-in-Some-clause-id
returns-in-Some-clause-id g c h =
    let names = c.self.inside.symbols.keys in
    let k = c.in-Some.ensures.lookup in
    let found : slice_get c.as_slice.result.now c.args.id ≡ Some c.in-Some.symbol.now =
    slice_get_read c.as_slice.result.now (length c.as_slice.result.now) c.args.id c.in-Some.symbol.now refl k.3.0 k.1 in
    let at : slice_get names c.args.id ≡ Some c.in-Some.symbol.now = ap (λ (xs : Names). slice_get xs c.args.id) (sym c.as_slice.ensures.keys) ∙ found in
    id_at names c.args.id (Some c.args.text.now) c.in-Some.symbol.now c.as_slice.ensures.unique at (sym c.is_of_text.ensures ∙ h)
    ∙ ap (λ ns. id_of ns (Some c.args.text.now)) c.self.view_is

use Rattle.std.proofs.Common.{◌≡◌, ◌∙◌, ◌<◌, length, Some, true, refl, arith, ap, sym}
use Rattle.std.proofs.lemmas.Option.{slice_get_read, slice_get-get_or}
use Rattle.std.specs.Ordering.{is_eq}
use Rattle.ion_model.specs.Names.{order, symbol_same}
use Rattle.ion_atoms.specs.laws.Ties.{tie_from_is_eq}
use Rattle.ion_model.proofs.Pairing.{field-is}
use Rattle.ion_model.proofs.equivalence.partner.Goals as goal

pub returns-then-is_eq : goal.returns-then-is_eq
returns-then-is_eq c =
    let f = c.args.field.now in
    let g = c.index-gs-at.result in
    let named : symbol_same f.name g.name ≡ true = cc in
    let tie : is_eq (order f.value g.value) ≡ true = cc in
    let far : c.loop-at.at < length c.args.paired.now = omega arith in (
      slice_get_read c.args.gs.now (length c.args.gs.now) c.loop-at.at g refl c.loop-at-test.true c.index-gs-at.is
          ∙ ap Some (sym (field-is f g named (tie_from_is_eq _ tie))),
      slice_get-get_or _ _ _ far ∙ ap Some c.if-not-paired-at.true,
    )

use Rattle.std.proofs.Common.{◌≡◌, ◌+◌, ⊎_elim, map, [], ◌∷◌, Option, Some, MatchOption, option_map, Bor, true, false, refl, arith, rules, ap, sym, subst, ◌∙◌}
use lib.Pointwise.{pointwise}
use Rattle.ion_model.specs.Names.{Field, IsPath, LeastParting, Part, depth, fields_same, greatest, once_named, out-Payload, same, symbol_same}
use Rattle.ion_model.specs.laws.Measures.{depth-at-Fields, depth-at-List, depth-at-Sexp, greatest-at}
use Rattle.ion_model.specs.laws.PartingSteps.{AgreeTo}
use Rattle.ion_model.proofs.PartingLaws.{both_hold, differ_at, ends_here, list_parts, once_deep, once_parts, one_ends, sexp_parts, struct_parts}
use Rattle.ion_model.proofs.path.+part.Goals as goal

-- what a field that was found is
found_is : (found : Option (Bor Field)) (f : Bor Field) (o : Option Field) → found ≡ Some f → option_map (λ (f : Bor Field). f.now) found ≡ o → o ≡ Some f.now
found_is found f o e h = sym h ∙ ap (option_map (λ (f : Bor Field). f.now)) e

pub part_fields-part_values-requires : goal.part_fields-part_values-requires
part_fields-part_values-requires t c =
    let fs = c.args.fs.now in
    let gs = c.args.gs.now in
    let name = c.in-Some.name in
    let least : LeastParting fs gs name = subst (λ o. MatchOption o (fields_same same fs gs ≡ true) (λ s. LeastParting fs gs s)) c.in-Some.is
    c.in_ok-least_name.ensures in
    let left : once_named name fs ≡ Some c.in-Some-Some.f.now =
    found_is _ _ _ c.in-Some-Some.is-0 (c.once_named-left.ensures ∙ ap (once_named name) c.as_slice.ensures) in
    let right : once_named name gs ≡ Some c.in-Some-Some.g.now =
    found_is _ _ _ c.in-Some-Some.is-1 (c.once_named-right.ensures ∙ ap (once_named name) c.as_slice-2.ensures) in
    (omega (arith, c.decreases, once_deep name fs c.in-Some-Some.f.now left), once_parts fs gs name c.in-Some-Some.f.now c.in-Some-Some.g.now least left right)

pub part_items-part_values-requires : goal.part_items-part_values-requires
part_items-part_values-requires t c =
    let agree : AgreeTo c.args.vs.now c.args.ws.now c.in_ok-before.before = c.in_ok-before.ensures in (
      omega (arith, c.decreases, greatest-at depth _ _ _ c.if-before-vs.true c.index-vs-before.is),
      differ_at c.args.vs.now c.args.ws.now c.in_ok-before.before c.index-vs-before.result c.index-ws-before.result c.if-before-vs.true c.if-before-ws.true
          c.index-vs-before.is c.index-ws-before.is agree.further,
    )

pub part_items-returns-clause-path : goal.part_items-returns-clause-path
part_items-returns-clause-path t c =
    let agree : AgreeTo c.args.vs.now c.args.ws.now c.in_ok-before.before = c.in_ok-before.ensures in
    record {
      rest = Part.Item (c.in_ok-before.before + 1) ∷ [];
      is = c.in_ok-push.ensures.items;
      path = record {
        before = c.in_ok-before.before;
        number = refl;
        agree = agree.agree;
        there = one_ends (IsPath []) c.args.vs.now c.args.ws.now c.in_ok-before.before
            (λ p q. ⊎_elim (λ h. omega (arith, h)) (λ h. omega (arith, h)) c.else-before-vs.either) agree.within agree.agree c.requires;
      };
    }

pub part_values-part_items-requires : goal.part_values-part_items-requires
part_values-part_items-requires t c =
    let a = c.args.a.now in
    let b = c.args.b.now in
    let annotations : pointwise symbol_same a.annotations b.annotations ≡ true = cc in (
      omega (arith, c.decreases, depth-at-List a _ c.in-List-List.is-0, ap (λ xs. greatest (map depth xs)) c.as_slice-in-List-List.ensures),
      rw (c.as_slice-in-List-List.ensures, c.as_slice-in-List-List-2.ensures)
          (list_parts a b c.in-List-List.vs c.in-List-List.ws c.in-List-List.is-0 c.in-List-List.is-1 annotations c.requires),
    )

pub part_values-part_items-requires-in-Sexp-Sexp : goal.part_values-part_items-requires-in-Sexp-Sexp
part_values-part_items-requires-in-Sexp-Sexp t c =
    let a = c.args.a.now in
    let b = c.args.b.now in
    let annotations : pointwise symbol_same a.annotations b.annotations ≡ true = cc in (
      omega (arith, c.decreases, depth-at-Sexp a _ c.in-Sexp-Sexp.is-0, ap (λ xs. greatest (map depth xs)) c.as_slice-in-Sexp-Sexp.ensures),
      rw (c.as_slice-in-Sexp-Sexp.ensures, c.as_slice-in-Sexp-Sexp-2.ensures)
          (sexp_parts a b c.in-Sexp-Sexp.vs c.in-Sexp-Sexp.ws c.in-Sexp-Sexp.is-0 c.in-Sexp-Sexp.is-1 annotations c.requires),
    )

pub part_values-part_fields-requires : goal.part_values-part_fields-requires
part_values-part_fields-requires t c =
    let a = c.args.a.now in
    let b = c.args.b.now in
    let annotations : pointwise symbol_same a.annotations b.annotations ≡ true = cc in (
      omega (arith, c.decreases, depth-at-Fields a _ c.in-Fields-Fields.is-0),
      struct_parts a b c.in-Fields-Fields.fs c.in-Fields-Fields.gs c.in-Fields-Fields.is-0 c.in-Fields-Fields.is-1 annotations c.requires,
    )

pub part_values-returns-in_default-4 : goal.part_values-returns-in_default-4
part_values-returns-in_default-4 t c =
    let ends : both_hold (out-Payload c.args.a.now.payload) (out-Payload c.args.b.now.payload) ≡ false = search rules in
    record {
      path = record { rest = []; is = search rules; path = ends_here c.args.a.now c.args.b.now ends c.requires };
      memory = tt;
    }

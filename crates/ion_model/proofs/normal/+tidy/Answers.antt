use Rattle.std.proofs.Common.{◌<◌, length, arith, ◌∙◌, refl, length-set}
use Rattle.std.proofs.lemmas.Result.{on_ok_weaker}
use Rattle.std.proofs.lemmas.List.Sorted.{IsPermutation-refl, All-permutation}
use Rattle.std.proofs.lemmas.Cmp.{lists_equiv}
use Rattle.ion_model.specs.Names.{IsNormal, depth, field_same, roll-Field, same}
use Rattle.ion_atoms.specs.laws.Tests.{both}
use Rattle.ion_model.specs.laws.Equivalence.{field_same-equiv, same-equiv, symbol_same-equiv}
use Rattle.ion_model.specs.laws.Measures.{depth-at, greatest-at}
use Rattle.ion_model.proofs.NormalLaws.{always_ok, done_more, fields_moved, later_more, normal_from, same_with, walked}
use Rattle.ion_model.proofs.normal.+tidy.Goals as goal

pub tidy-tidy_payload-requires : goal.tidy-tidy_payload-requires
tidy-tidy_payload-requires t c = (omega (arith, c.decreases, depth-at c.args.value.now _ refl), tt)

pub tidy-returns-clause-same : goal.tidy-returns-clause-same
tidy-returns-clause-same t c = same_with c.args.value.now c.tidy_payload.new.payload c.args.value.now.payload refl c.tidy_payload.ensures.same

pub tidy-returns-clause-normal : goal.tidy-returns-clause-normal
tidy-returns-clause-normal t c = on_ok_weaker _ (normal_from _) c.tidy_payload.ensures.normal

pub tidy_fields-returns-in_err-tidy_rows-clause-same : goal.tidy_fields-returns-in_err-tidy_rows-clause-same
tidy_fields-returns-in_err-tidy_rows-clause-same t c = fields_moved c.args.rows.now.items c.tidy_rows.new.rows.items _ c.in_err-tidy_rows.ensures.same
    (IsPermutation-refl c.tidy_rows.new.rows.items)

pub tidy_fields-returns-clause-same : goal.tidy_fields-returns-clause-same
tidy_fields-returns-clause-same t c = fields_moved c.args.rows.now.items c.tidy_rows.new.rows.items c.sort_rows.new.rows.items c.in_ok-tidy_rows.ensures.same
    c.sort_rows.ensures.permutation

pub tidy_fields-returns-clause-inner : goal.tidy_fields-returns-clause-inner
tidy_fields-returns-clause-inner t c =
    on_ok_weaker {P = Unit {0}} c.sort_rows.result (λ _. All-permutation (λ f. IsNormal f.value) _ _ c.sort_rows.ensures.permutation
    c.in_ok-tidy_rows.ensures.inner) (always_ok c.sort_rows.result)

pub tidy_rows-loop-i-init : goal.tidy_rows-loop-i-init
tidy_rows-loop-i-init t c =
    record { long = refl; same = (lists_equiv (field_same-equiv same same-equiv)).refl c.args.rows.now.items; later = λ k d h. refl; normal = λ k d h. absurd (omega arith) }

pub tidy_rows-tidy-requires : goal.tidy_rows-tidy-requires
tidy_rows-tidy-requires t c =
    let lt : c.loop-i.i < length c.args.rows.now.items = omega (arith, c.args.rows.now.ok.0) in
    let at = c.index_mut.ensures.value ∙ c.loop-i.invariant.later c.loop-i.i c.index_mut.result.now (omega arith) in
    (omega (arith, c.decreases, greatest-at (λ f. depth f.value) c.args.rows.now.items c.loop-i.i c.index_mut.result.now lt at), tt)

pub tidy_rows-returns-in_err-tidy-clause-same : goal.tidy_rows-returns-in_err-tidy-clause-same
tidy_rows-returns-in_err-tidy-clause-same t c =
    let lt : c.loop-i.i < length c.loop-i.rows.items = omega (arith, c.args.rows.now.ok.0, c.loop-i.invariant.long) in
    walked (field_same same) c.loop-i.rows.items c.args.rows.now.items c.loop-i.i
    (roll-Field (record { name = c.index_mut.result.now.name; value = c.tidy.new.value })) c.index_mut.result.now lt c.loop-i.invariant.same
    c.loop-i.invariant.later c.index_mut.ensures.value (both _ _ (symbol_same-equiv.refl c.index_mut.result.now.name) c.in_err-tidy.ensures.same)

pub tidy_rows-loop-i-preserved : goal.tidy_rows-loop-i-preserved
tidy_rows-loop-i-preserved t c =
    let lt : c.loop-i.i < length c.loop-i.rows.items = omega (arith, c.args.rows.now.ok.0, c.loop-i.invariant.long) in
    record {
      long = length-set _ _ _ ∙ c.loop-i.invariant.long;
      same = walked _ c.loop-i.rows.items c.args.rows.now.items c.loop-i.i _ c.index_mut.result.now lt c.loop-i.invariant.same
          c.loop-i.invariant.later c.index_mut.ensures.value (both _ _ (symbol_same-equiv.refl c.index_mut.result.now.name) c.in_ok-tidy.ensures.same);
      later = later_more c.loop-i.rows.items c.args.rows.now.items c.loop-i.i
          (roll-Field (record { name = c.index_mut.result.now.name; value = c.tidy.new.value })) c.loop-i.invariant.later;
      normal = done_more (λ f. IsNormal f.value) c.loop-i.rows.items c.loop-i.i _ lt c.loop-i.invariant.normal c.in_ok-tidy.ensures.normal;
    }

pub tidy_values-loop-i-init : goal.tidy_values-loop-i-init
tidy_values-loop-i-init t c =
    record { long = refl; same = (lists_equiv same-equiv).refl c.args.values.now.items; later = λ k d h. refl; normal = λ k d h. absurd (omega arith) }

pub tidy_values-tidy-requires : goal.tidy_values-tidy-requires
tidy_values-tidy-requires t c =
    let lt : c.loop-i.i < length c.args.values.now.items = omega (arith, c.args.values.now.ok.0) in
    let at = c.index_mut.ensures.value ∙ c.loop-i.invariant.later c.loop-i.i c.index_mut.result.now (omega arith) in
    (omega (arith, c.decreases, greatest-at depth c.args.values.now.items c.loop-i.i c.index_mut.result.now lt at), tt)

pub tidy_values-returns-in_err-tidy-clause-same : goal.tidy_values-returns-in_err-tidy-clause-same
tidy_values-returns-in_err-tidy-clause-same t c =
    let lt : c.loop-i.i < length c.loop-i.values.items = omega (arith, c.args.values.now.ok.0, c.loop-i.invariant.long) in
    walked same c.loop-i.values.items c.args.values.now.items c.loop-i.i c.tidy.new.value c.index_mut.result.now lt c.loop-i.invariant.same
    c.loop-i.invariant.later c.index_mut.ensures.value (c.in_err-tidy.ensures.same)

pub tidy_values-loop-i-preserved : goal.tidy_values-loop-i-preserved
tidy_values-loop-i-preserved t c =
    let lt : c.loop-i.i < length c.loop-i.values.items = omega (arith, c.args.values.now.ok.0, c.loop-i.invariant.long) in
    record {
      long = length-set _ _ _ ∙ c.loop-i.invariant.long;
      same = walked same c.loop-i.values.items c.args.values.now.items c.loop-i.i c.tidy.new.value c.index_mut.result.now lt c.loop-i.invariant.same
          c.loop-i.invariant.later c.index_mut.ensures.value (c.in_ok-tidy.ensures.same);
      later = later_more c.loop-i.values.items c.args.values.now.items c.loop-i.i c.tidy.new.value c.loop-i.invariant.later;
      normal = done_more IsNormal c.loop-i.values.items c.loop-i.i c.tidy.new.value lt c.loop-i.invariant.normal c.in_ok-tidy.ensures.normal;
    }

use Rattle.std.proofs.Common.{◌<◌, length, arith, sym, ◌∙◌}
use Rattle.ion_model.specs.Names.{depth, same}
use Rattle.ion_model.specs.laws.Measures.{greatest-at}
use Rattle.ion_model.specs.laws.Same.{counts_agree_fails, counts_agree_more, same-is}
use Rattle.ion_model.proofs.same.+same.Goals as goal

pub same_items-same_value-requires : goal.same_items-same_value-requires
same_items-same_value-requires t c =
    let within : c.loop-i.i < length c.args.ws.now = omega arith in
    (omega (arith, c.decreases, greatest-at depth _ _ _ c.loop-i-test.true c.index-vs-i.is, greatest-at depth _ _ _ within c.index-ws-i.is), tt)

pub agree-count-requires : goal.agree-count-requires
agree-count-requires t c = (omega (arith, c.decreases, greatest-at (λ f. depth f.value) _ _ _ c.loop-field-test.true c.field-item.is), tt)

pub same_value-returns-then-same_symbols : goal.same_value-returns-then-same_symbols
same_value-returns-then-same_symbols t c = rw (same-is c.args.a.now c.args.b.now) (grind (arith))

pub same_value-returns-else-same_symbols : goal.same_value-returns-else-same_symbols
same_value-returns-else-same_symbols t c = rw (same-is c.args.a.now c.args.b.now) (grind arith)

pub agree-count-requires-in-loop-field : goal.agree-count-requires-in-loop-field
agree-count-requires-in-loop-field t c = (omega (arith, c.decreases, greatest-at (λ f. depth f.value) _ _ _ c.loop-field-test.true c.field-item.is), tt)

pub count-same_value-requires : goal.count-same_value-requires
count-same_value-requires t c = (omega (arith, c.decreases, greatest-at (λ f. depth f.value) _ _ _ c.loop-field-test.true c.field-item.is), tt)

pub agree-returns-then-count : goal.agree-returns-then-count
agree-returns-then-count t c =
    counts_agree_fails same c.args.a.now c.args.b.now c.args.of.now _ _ c.loop-field-test.true c.field-item.is
    (λ e. c.if-count.true (c.count.ensures ∙ e ∙ sym c.count-in-loop-field.ensures))

pub agree-loop-field-preserved : goal.agree-loop-field-preserved
agree-loop-field-preserved t c =
    counts_agree_more same c.args.a.now c.args.b.now c.args.of.now _ _ c.loop-field-test.true c.field-item.is
    (sym c.count.ensures ∙ c.if-count.false ∙ c.count-in-loop-field.ensures) c.loop-field.invariant

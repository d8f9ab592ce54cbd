use Rattle.std.proofs.Common.{◌∙◌, arith, drop-set-lt}
use Rattle.ion_c.specs.Telling.{IsAnsweredPair}
use Rattle.ion_c.proofs.Written.{one_more}
use Rattle.ion_c.proofs.pairs.compare_each.Goals as goal

pub loop-i-preserved : goal.loop-i-preserved
loop-i-preserved c =
    let right = c.compared_under-outcome.ensures c.args.catalog.now c.args.depth c.args.item c.set_up-setting.ensures.some c.set_up-setting.ensures.none in
    record {
      each = one_more (λ pair answer. IsAnsweredPair c.args.catalog.now c.args.depth c.args.item pair answer) c.args.pairs.now c.loop-i.answers c.loop-i.i _
          c.answer_of.result (c.compared_under-outcome.result.ending, c.compared_under-outcome.result.text.items, right, c.answer_of.ensures)
          c.loop-i.invariant.each;
      others = λ k behind. drop-set-lt k c.loop-i.answers c.loop-i.i c.answer_of.result (omega arith) ∙ c.loop-i.invariant.others k (omega arith);
    }

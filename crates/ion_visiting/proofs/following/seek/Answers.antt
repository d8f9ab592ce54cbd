use Rattle.std.proofs.Common.{suc, refl, arith}
use Rattle.std.proofs.lemmas.Grind.{common_steps}
use Rattle.ion_visiting.specs.Following.{no_step, one_step}
use Rattle.ion_visiting.proofs.following.seek.Goals as goal

pub loop-init : goal.loop-init
loop-init c = record { k = 0; steps = no_step; bit = refl }

pub loop-preserved : goal.loop-preserved
loop-preserved c =
    let before = c.loop.invariant in
    record {
      k = suc before.k;
      steps = one_step before.k c.loop.place c.loop.others c.behind_value-place.result before.steps c.in-Some.ensures.field
          c.behind_value-place.ensures;
      bit = grind (arith, common_steps, before.bit);
    }

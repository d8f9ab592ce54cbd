use Rattle.std.proofs.Common.{length-take, length-drop, arith, refl, ◌∙◌}
use Rattle.ion_symtab.specs.laws.Took.{Took-nil, Took-kept, Took-more}
use Rattle.ion_symtab.proofs.writing.write_whole.Goals as goal

pub loop-at-init : goal.loop-at-init
loop-at-init g c = record { within = omega arith; taken = Took-nil _ _ _; not_passed = refl; no_write_failed = λ fine. fine }

pub returns-in-Err-clause-front : goal.returns-in-Err-clause-front
returns-in-Err-clause-front g c = record {
  count = c.loop-at.at;
  front = Took-kept _ _ _ _ _ _ c.loop-at.invariant.taken c.in-Err.ensures.kept;
}

pub loop-at-preserved : goal.loop-at-preserved
loop-at-preserved g c = record {
  within = omega (arith, simp (length-take, length-drop) at c.in-Ok.ensures.within);
  taken = Took-more _ _ _ _ _ _ _ _ c.loop-at.invariant.taken c.in-Ok.ensures.taken;
  not_passed = c.write.ensures.not_passed ∙ c.loop-at.invariant.not_passed;
  no_write_failed = λ fine. c.in-Ok.ensures.failed;
}

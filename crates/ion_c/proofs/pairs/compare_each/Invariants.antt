use Rattle.std.proofs.Common.{◌≡◌, ℕ, ◌<◌, ◌≤◌, drop, slice_get, Some}
use Rattle.ion_c.specs.Telling.{IsAnsweredPair}
use Rattle.ion_c.specs.declared.answer.Answer.{Answer}
use Rattle.ion_c.specs.declared.pairs.Pair.{Pair}
use Rattle.ion_c.proofs.pairs.compare_each.Given as goal

abbrev pub invariant-loop-i : goal.invariant-loop-i
invariant-loop-i l = record {
  each : (k : ℕ) (pair : Pair) (answer : Answer) → k < l.i → slice_get l.pairs k ≡ Some pair → slice_get l.answers k ≡ Some answer
      → IsAnsweredPair l.catalog l.fn.depth l.fn.item pair answer;
  others : (k : ℕ) → l.i ≤ k → drop k l.answers ≡ drop k l.initial.answers;
}

use Rattle.std.proofs.Common.{◌≡◌, Some, map, take}
use Rattle.ion_model.proofs.value.Value.annotated.Given as goal

abbrev pub invariant-loop-text : goal.invariant-loop-text
invariant-loop-text l = l.annotations.items ≡ map (λ t. Some t.now) (take l.text-index l.texts)

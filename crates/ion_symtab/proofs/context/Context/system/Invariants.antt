use Rattle.std.proofs.Common.{◌≡◌, Some, map, take}
use Rattle.ion_symtab.proofs.context.Context.system.Given as goal

abbrev pub invariant-loop-text : goal.invariant-loop-text
invariant-loop-text l = l.system.items ≡ map (λ t. Some t.now) (take l.text-index l.text-items)

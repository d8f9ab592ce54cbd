use Rattle.std.proofs.Common.{◌≡◌, ◌++◌, Some, map}
use Rattle.ion_model.specs.Names.{field_of}
use Rattle.ion_model.proofs.value.Value.record.Given as goal

-- what is named and what is left are all
abbrev pub invariant-loop-name : goal.invariant-loop-name
invariant-loop-name l = l.named.items ++ map (λ f. field_of (Some f.0.now) f.1) l.name-iterator.rest.items
    ≡ map (λ f. field_of (Some f.0.now) f.1) l.fn.fields.items

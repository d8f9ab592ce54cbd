use Rattle.std.proofs.Common.{◌≡◌, ◌++◌, map, drop}
use Rattle.ion_model.specs.Holds.{values_of}
use Rattle.ion_model.proofs.holds.all_named.Given as goal

-- what is found and what is left are all
abbrev pub invariant-loop-field : goal.invariant-loop-field
invariant-loop-field l = map (λ v. v.now) l.values.items ++ values_of l.name (drop l.field-index l.fields) ≡ values_of l.name l.fields

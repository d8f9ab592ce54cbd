use Rattle.std.proofs.Common.{◌≡◌, slice_get, drop}
use Rattle.ion_model.specs.Holds.{values_of}
use Rattle.ion_model.proofs.holds.first_named.Given as goal

abbrev pub invariant-loop-field : goal.invariant-loop-field
invariant-loop-field l = slice_get (values_of l.name (drop l.field-index l.fields)) 0 ≡ slice_get (values_of l.name l.fields) 0

use Rattle.std.proofs.Common.{◌≡◌, fold, flat_map, drop}
use Rattle.ion_model.specs.Hashed.{hashed, field_hashed}
use Rattle.ion_model.proofs.hashed.+hashed.Given as goal

-- to feed those to come now is to feed all of them from the start
abbrev pub invariant-hash_items-loop-item : goal.invariant-hash_items-loop-item
invariant-hash_items-loop-item g l =
    fold g.H.Hasher.write l.state (flat_map hashed (drop l.item-index l.items)) ≡ fold g.H.Hasher.write l.initial.state (flat_map hashed l.items)

abbrev pub invariant-hash_fields-loop-field : goal.invariant-hash_fields-loop-field
invariant-hash_fields-loop-field g l =
    fold g.H.Hasher.write l.state (flat_map field_hashed (drop l.field-index l.fields)) ≡ fold g.H.Hasher.write l.initial.state (flat_map field_hashed l.fields)

use Rattle.std.proofs.Common.{◌≡◌, ◌<◌, ◌^◌, ◌-◌, min, max, map, drop}
use Rattle.ion_model.specs.Names.{depth, greatest}
use Rattle.ion_model.proofs.measures.+depth.Given as goal

-- the deepest so far and the deepest of those to come are the deepest of all
abbrev pub invariant-items_depth-loop-item : goal.invariant-items_depth-loop-item
invariant-items_depth-loop-item l =
    (l.deepest < 2 ^ 64) × (min (max l.deepest (greatest (map depth (drop l.item-index l.items)))) (2 ^ 64 - 1)
    ≡ min (greatest (map depth l.items)) (2 ^ 64 - 1))

abbrev pub invariant-fields_depth-loop-field : goal.invariant-fields_depth-loop-field
invariant-fields_depth-loop-field l =
    (l.deepest < 2 ^ 64) × (min (max l.deepest (greatest (map (λ f. depth f.value) (drop l.field-index l.fields)))) (2 ^ 64 - 1)
    ≡ min (greatest (map (λ f. depth f.value) l.fields)) (2 ^ 64 - 1))

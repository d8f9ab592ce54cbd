use Rattle.std.proofs.Common.{◌≡◌, ◌<◌, ◌^◌, ◌-◌, ◌+◌, suc, min, map, sum, drop}
use Rattle.ion_model.specs.Names.{nodes}
use Rattle.ion_model.proofs.measures.+nodes.Given as goal

-- the nodes so far and those of what is to come are the nodes of all
abbrev pub invariant-items_nodes-loop-item : goal.invariant-items_nodes-loop-item
invariant-items_nodes-loop-item l =
    (l.total < 2 ^ 64) × (min (l.total + sum (map nodes (drop l.item-index l.items))) (2 ^ 64 - 1) ≡ min (sum (map nodes l.items)) (2 ^ 64 - 1))

abbrev pub invariant-fields_nodes-loop-field : goal.invariant-fields_nodes-loop-field
invariant-fields_nodes-loop-field l =
    (l.total < 2 ^ 64) × (min (l.total + sum (map (λ f. suc (nodes f.value)) (drop l.field-index l.fields))) (2 ^ 64 - 1)
    ≡ min (sum (map (λ f. suc (nodes f.value)) l.fields)) (2 ^ 64 - 1))

use Rattle.std.proofs.Common.{List, map, ◌≡◌, ℕ, ◌+◌, ◌*◌, length, true, take, drop, max}
use lib.Pointwise.{pointwise}
use Rattle.ion_model.specs.Names.{Field, Value, counts_agree, depth, field_count, greatest, same}
use Rattle.ion_model.proofs.same.+same.Given as goal

abbrev pub invariant-agree-loop-field : goal.invariant-agree-loop-field
invariant-agree-loop-field l = counts_agree same l.a l.b (take l.field-index l.of) ≡ true

abbrev pub invariant-count-loop-field : goal.invariant-count-loop-field
invariant-count-loop-field l = l.n + field_count same (drop l.field-index l.fields) l.of ≡ field_count same l.fields l.of

abbrev pub invariant-same_items-loop-i : goal.invariant-same_items-loop-i
invariant-same_items-loop-i l = (length l.vs ≡ length l.ws) × (pointwise same (drop l.i l.vs) (drop l.i l.ws) ≡ pointwise same l.vs l.ws)

-- how deep two values, lists or structs go
abbrev pub deep : Value → Value → ℕ
deep v w = max (depth v) (depth w)

abbrev pub items_deep : List Value → ℕ
items_deep vs = greatest (map depth vs)

abbrev pub fields_deep : List Field → ℕ
fields_deep fs = greatest (map (λ f. depth f.value) fs)

abbrev pub decreases-same_value : goal.decreases-same_value
decreases-same_value l = 8 * deep l.a.now l.b.now + 1

abbrev pub decreases-same_payload : goal.decreases-same_payload
decreases-same_payload l = 8 * deep l.a.now l.b.now

abbrev pub decreases-same_items : goal.decreases-same_items
decreases-same_items l = 8 * max (items_deep l.vs.now) (items_deep l.ws.now) + 2

abbrev pub decreases-same_fields : goal.decreases-same_fields
decreases-same_fields l = 8 * max (fields_deep l.a.now) (fields_deep l.b.now) + 4

abbrev pub decreases-agree : goal.decreases-agree
decreases-agree l = 8 * max (max (fields_deep l.a.now) (fields_deep l.b.now)) (fields_deep l.of.now) + 3

abbrev pub decreases-count : goal.decreases-count
decreases-count l = 8 * max (fields_deep l.fields.now) (depth l.of.now.value) + 2

use Rattle.std.proofs.Common.{◌≡◌, ℕ, ◌+◌, ◌*◌, ◌<◌, ◌≤◌, true, length, map, get_or}
use lib.Pointwise.{pointwise}
use Rattle.ion_model.specs.Names.{Field, IsNormal, Value, depth, field_same, greatest, layer_depth, out-Payload, same}
use Rattle.ion_model.proofs.normal.+tidy.Given as goal

abbrev pub decreases-tidy : goal.decreases-tidy
decreases-tidy l = 4 * depth l.value.now + 1

abbrev pub decreases-tidy_payload : goal.decreases-tidy_payload
decreases-tidy_payload l = 4 * layer_depth (out-Payload l.payload.now)

abbrev pub decreases-tidy_fields : goal.decreases-tidy_fields
decreases-tidy_fields l = 4 * greatest (map (λ f. depth f.value) l.rows.now.items) + 3

abbrev pub decreases-tidy_rows : goal.decreases-tidy_rows
decreases-tidy_rows l = 4 * greatest (map (λ f. depth f.value) l.rows.now.items) + 2

abbrev pub decreases-tidy_values : goal.decreases-tidy_values
decreases-tidy_values l = 4 * greatest (map depth l.values.now.items) + 2

abbrev pub invariant-tidy_rows-loop-i : goal.invariant-tidy_rows-loop-i
invariant-tidy_rows-loop-i l = record {
  long : length l.rows.items ≡ length l.initial.rows.items;
  same : pointwise (field_same same) l.rows.items l.initial.rows.items ≡ true;
  later : (k : ℕ) (d : Field) → l.i ≤ k → get_or l.rows.items k d ≡ get_or l.initial.rows.items k d;
  normal : (k : ℕ) (d : Field) → k < l.i → IsNormal (get_or l.rows.items k d).value;
}

abbrev pub invariant-tidy_values-loop-i : goal.invariant-tidy_values-loop-i
invariant-tidy_values-loop-i l = record {
  long : length l.values.items ≡ length l.initial.values.items;
  same : pointwise same l.values.items l.initial.values.items ≡ true;
  later : (k : ℕ) (d : Value) → l.i ≤ k → get_or l.values.items k d ≡ get_or l.initial.values.items k d;
  normal : (k : ℕ) (d : Value) → k < l.i → IsNormal (get_or l.values.items k d);
}

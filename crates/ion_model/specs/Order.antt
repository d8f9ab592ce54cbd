-- The order of values: by kind, a null before the rest, then the payload, then the annotations. Lists, annotations
-- and fields as they stand go item by item, a proper prefix first; a field goes by name, then by value. As with
-- equivalence, one level first, and then as many as the values have.
use Rattle.std.specs.Prelude.{ℕ, zero, suc, max}
use Rattle.std.specs.Ordering.{then_cmp, on, nat_cmp, int_cmp, bool_cmp}
use Rattle.std.specs.Cmp.Lexicographic.{slice_cmp}
use Rattle.std.specs.declared.cmp.Ordering.{Ordering}
use Rattle.std.specs.declared.cmp.Ordering.TheVariants.{Equal}
use Rattle.ion_model.specs.declared.value.Value.{Value}
use Rattle.ion_model.specs.declared.value.Field.{Field}
use Rattle.ion_model.specs.declared.value.Payload.TheViews.{out-Payload}
use Rattle.ion_atoms.specs.Decimals.{decimal_cmp}
use Rattle.ion_model.specs.Measures.{Layer, depth}
use Rattle.ion_model.specs.Same.{Scalar, scalar, items, fields}
use Rattle.ion_model.specs.Symbols.{text_cmp, symbol_cmp}
use Rattle.ion_atoms.specs.Timestamps.{timestamp_cmp}

-- by kind, a null first
abbrev pub heads_cmp : Layer → Layer → Ordering
heads_cmp = on scalar (then_cmp (on (λ s. s.kind) nat_cmp) (on (λ s. s.full) bool_cmp))

-- by kind, a null first, then by the part that payloads of the kind have; false before true
abbrev pub scalar_cmp : Scalar → Scalar → Ordering
scalar_cmp =
    then_cmp (on (λ s. s.kind) nat_cmp) (then_cmp (on (λ s. s.full) bool_cmp) (then_cmp (on (λ s. s.truth) bool_cmp)
    (then_cmp (on (λ s. s.int) int_cmp) (then_cmp (on (λ s. s.decimal) decimal_cmp) (then_cmp (on (λ s. s.timestamp) timestamp_cmp)
    (then_cmp (on (λ s. s.symbol) symbol_cmp) (on (λ s. s.text) text_cmp)))))))

module _ (R : Value → Value → Ordering) where
  -- by name, then by value
  abbrev pub field_cmp : Field → Field → Ordering
  field_cmp = then_cmp (on (λ f. f.name) symbol_cmp) (on (λ f. f.value) R)

  -- two payloads, where R orders the values inside
  abbrev pub layer_cmp : Layer → Layer → Ordering
  layer_cmp = then_cmp (on scalar scalar_cmp) (then_cmp (on items (slice_cmp R)) (on fields (slice_cmp field_cmp)))

  -- two values, where R orders the values inside
  abbrev pub value_cmp : Value → Value → Ordering
  value_cmp = then_cmp (on (λ v. out-Payload v.payload) layer_cmp) (on (λ v. v.annotations) (slice_cmp symbol_cmp))

-- the order as far as the first n levels show
abbrev pub order_to : ℕ → Value → Value → Ordering
order_to zero v w = Equal
order_to (suc n) v w = value_cmp (order_to n) v w

-- the order of values: no value has more levels than one above its depth
unfoldable pub order : Value → Value → Ordering
order v w = order_to (suc (max (depth v) (depth w))) v w

-- Normal forms: the fields of each struct stand in ascending order, at every level.
use Rattle.std.specs.Prelude.{ℕ, zero, suc, List, length, slice_index_or, ◌<◌, ◌≡◌, true}
use Rattle.std.specs.List.Sorted.{IsSortedBy}
use Rattle.std.specs.Ordering.{is_lt}
use Rattle.ion_model.specs.declared.value.Value.{Value}
use Rattle.ion_model.specs.declared.value.Field.{Field}
use Rattle.ion_model.specs.declared.value.Payload.TheViews.{out-Payload}
use Rattle.ion_model.specs.Measures.{Layer}
use Rattle.ion_model.specs.Same.{items, fields, fields_same, same}
use Rattle.ion_model.specs.Order.{order, field_cmp}

-- the fields stand in ascending order, by name and then by value
abbrev pub FieldsInOrder : List Field → Type 0
FieldsInOrder fs = IsSortedBy (λ f g. is_lt (field_cmp order f g)) fs

-- normal as far as n levels show
abbrev pub IsNormalTo : ℕ → Value → Type 0
IsNormalTo zero v = Unit {0}
IsNormalTo (suc n) v =
    ((k : ℕ) (d : Value) → k < length (items (out-Payload v.payload)) → IsNormalTo n (slice_index_or (items (out-Payload v.payload)) k d))
    × ((k : ℕ) (d : Field) → k < length (fields (out-Payload v.payload)) → IsNormalTo n (slice_index_or (fields (out-Payload v.payload)) k d).value)
    × FieldsInOrder (fields (out-Payload v.payload))

-- at every level the fields of each struct stand in ascending order
pub record IsNormal (v : Value) : Type 0 where
  pub to : (n : ℕ) → IsNormalTo n v

-- each of these values is in normal form
abbrev pub AllNormal : List Value → Type 0
AllNormal vs = (k : ℕ) (d : Value) → k < length vs → IsNormal (slice_index_or vs k d)

-- the value of each of these fields is in normal form
abbrev pub AllFieldsNormal : List Field → Type 0
AllFieldsNormal fs = (k : ℕ) (d : Field) → k < length fs → IsNormal (slice_index_or fs k d).value

-- the values inside are normal, and fields in order
abbrev pub LayerNormal : Layer → Type 0
LayerNormal a = AllNormal (items a) × AllFieldsNormal (fields a) × FieldsInOrder (fields a)

-- the fields of a struct in normal form: their values are, they are in order, and the struct is equivalent
pub record AreNormalOf (rows fs : List Field) : Type 0 where
  pub inner : AllFieldsNormal rows
  pub ordered : FieldsInOrder rows
  pub same : fields_same same rows fs ≡ true

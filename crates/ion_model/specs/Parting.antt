-- Where two values that aren't equivalent part: the path from them down to two values that differ in annotations, kind,
-- nullness or scalar, or to an item that one side lacks, or to a name whose values stand in different numbers.
use Rattle.std.specs.Prelude.{ℕ, List, [], ◌∷◌, ◌+◌, ◌-◌, ◌≡◌, ◌≢◌, take, drop, Bool, true, false, ◌&&◌, Option, Some, None}
use Rattle.std.specs.List.{filter}
use Rattle.std.specs.Ordering.{is_lt}
use lib.Pointwise.{pointwise}
use Rattle.ion_model.specs.Measures.{Layer}
use Rattle.ion_model.specs.Same.{field_count, fields, items, same, scalar, scalar_same}
use Rattle.ion_model.specs.Symbols.{symbol_cmp, symbol_same}
use Rattle.ion_model.specs.declared.path.Part.{Part}
use Rattle.ion_model.specs.declared.value.Field.{Field}
use Rattle.ion_model.specs.declared.value.Payload.TheViews.{out-Payload}
use Rattle.ion_model.specs.declared.value.Value.{Value}

-- annotations, kinds, nullness and scalars agree
abbrev pub heads_same : Value → Value → Bool
heads_same v w = pointwise symbol_same v.annotations w.annotations && scalar_same (scalar (out-Payload v.payload)) (scalar (out-Payload w.payload))

-- a field stands in different numbers among these
abbrev pub IsParted : List Field → List Field → Field → Type 0
IsParted fs gs f = field_count same fs f ≢ field_count same gs f

-- s is a name with which some value stands in different numbers
pub record IsPartedName (fs gs : List Field) (s : Option (List ℕ)) : Type 0 where
  pub field : Field
  pub named : field.name ≡ s
  pub parted : IsParted fs gs field

-- s is the least name with which some value stands in different numbers
pub record LeastParting (fs gs : List Field) (s : Option (List ℕ)) : Type 0 where
  pub field : Field
  pub named : field.name ≡ s
  pub parted : IsParted fs gs field
  pub least : (f : Field) → IsParted fs gs f → is_lt (symbol_cmp f.name s) ≡ false

-- the only one of a list, none if there are more or fewer
abbrev pub only : List Field → Option Field
only [] = None
only (f ∷ []) = Some f
only (f ∷ g ∷ fs) = None

-- the field of this name, if the name stands once
abbrev pub once_named : Option (List ℕ) → List Field → Option Field
once_named s fs = only (filter (λ f. symbol_same s f.name) fs)

-- the rest of a path leads on from two values; behind what one side lacks, or what stands more than once, it ends
module _ (rest : List Part) (Leads : Value → Value → Type 0) where
  -- at the first of the items left on both sides
  abbrev pub AtItems : List Value → List Value → Type 0
  AtItems [] [] = ⊥
  AtItems [] (w ∷ ws) = rest ≡ []
  AtItems (v ∷ vs) [] = rest ≡ []
  AtItems (v ∷ vs) (w ∷ ws) = Leads v w

  -- at the fields of a name
  abbrev pub AtFields : Option Field → Option Field → Type 0
  AtFields (Some f) (Some g) = Leads f.value g.value
  AtFields (Some f) None = rest ≡ []
  AtFields None _ = rest ≡ []

  -- the same, where N holds of the name if it stands otherwise than once in both
  abbrev pub AtNamed : Type 0 → Option Field → Option Field → Type 0
  AtNamed N (Some f) (Some g) = Leads f.value g.value
  AtNamed N (Some f) None = (rest ≡ []) × N
  AtNamed N None _ = (rest ≡ []) × N

  -- the items part first at number n, counted from 1
  pub record ItemsPart (n : ℕ) (vs ws : List Value) : Type 0 where
    pub before : ℕ
    pub number : n ≡ before + 1
    pub agree : pointwise same (take before vs) (take before ws) ≡ true
    pub there : AtItems (drop before vs) (drop before ws)

  -- the fields part, at the least name s
  pub record FieldsPart (s : Option (List ℕ)) (fs gs : List Field) : Type 0 where
    pub name : LeastParting fs gs s
    pub there : AtFields (once_named s fs) (once_named s gs)

  abbrev pub PartAt : Part → Layer → Layer → Type 0
  PartAt (Part.Item n) a b = ItemsPart n (items a) (items b)
  PartAt (Part.Name s) a b = FieldsPart s (fields a) (fields b)

-- the path to where two values part
abbrev pub IsPath : List Part → Value → Value → Type 0
IsPath [] v w = heads_same v w ≡ false
IsPath (part ∷ rest) v w = (heads_same v w ≡ true) × PartAt rest (IsPath rest) part (out-Payload v.payload) (out-Payload w.payload)

-- what stands at the end of a path truly differs: two values that aren't equivalent, an item that one side lacks, or the
-- values of one name, of which one stands in different numbers
abbrev pub EndsApart : List Part → Value → Value → Type 0
EndsApart [] v w = same v w ≡ false
EndsApart (Part.Item n ∷ rest) v w =
    AtItems rest (EndsApart rest) (drop (n - 1) (items (out-Payload v.payload))) (drop (n - 1) (items (out-Payload w.payload)))
EndsApart (Part.Name s ∷ rest) v w =
    let fs = fields (out-Payload v.payload) in
    let gs = fields (out-Payload w.payload) in
    AtNamed rest (EndsApart rest) (IsPartedName fs gs s) (once_named s fs) (once_named s gs)

-- what the answer of `parting` says
abbrev pub IsParting : Option (List Part) → Value → Value → Type 0
IsParting None v w = same v w ≡ true
IsParting (Some path) v w = (same v w ≡ false) × IsPath path v w

-- Steps of `parting`.
use Rattle.std.specs.Prelude.{ℕ, List, [], ◌∷◌, ◌++◌, ◌≡◌, ◌≤◌, length, take, drop, true, false, Option, Some, None}
use Rattle.std.specs.declared.cmp.Ordering.{Ordering}
use Rattle.std.specs.declared.cmp.Ordering.TheVariants.{Less, Equal, Greater}
use lib.Pointwise.{pointwise}
use Rattle.ion_model.specs.Order.{field_cmp, order}
use Rattle.ion_model.specs.Parting.{FieldsPart, IsPath, ItemsPart}
use Rattle.ion_model.specs.Same.{same}
use Rattle.ion_model.specs.declared.path.Part.{Part}
use Rattle.ion_model.specs.declared.value.Field.{Field}
use Rattle.ion_model.specs.declared.value.Value.{Value}

-- the list with a path put behind it
pub record Extends (P : List Part → Type 0) (old new : List Part) : Type 0 where
  pub rest : List Part
  pub is : new ≡ old ++ rest
  pub path : P rest

-- the path of two lists of items, from their number on
abbrev pub ItemsPath : List Value → List Value → List Part → Type 0
ItemsPath vs ws (Part.Item n ∷ rest) = ItemsPart rest (IsPath rest) n vs ws
ItemsPath vs ws _ = ⊥

-- the path of two lists of fields, from the name on
abbrev pub FieldsPath : List Field → List Field → List Part → Type 0
FieldsPath fs gs (Part.Name s ∷ rest) = FieldsPart rest (IsPath rest) s fs gs
FieldsPath fs gs _ = ⊥

-- one list ends, or the first items left differ
abbrev pub EndOrDiffer : List Value → List Value → Type 0
EndOrDiffer (v ∷ vs) (w ∷ ws) = same v w ≡ false
EndOrDiffer _ _ = Unit {0}

-- the first k items agree, and no more
pub record AgreeTo (vs ws : List Value) (k : ℕ) : Type 0 where
  pub within : k ≤ length vs
  pub agree : pointwise same (take k vs) (take k ws) ≡ true
  pub further : EndOrDiffer (drop k vs) (drop k ws)

-- of two fields that don't tie the name of the lesser
abbrev pub lesser : Ordering → Option (List ℕ) → Option (List ℕ) → Option (Option (List ℕ)) → Option (Option (List ℕ))
lesser Less s t rest = Some s
lesser Equal s t rest = rest
lesser Greater s t rest = Some t

-- at the first place where two lists don't tie
abbrev pub first_untied : List Field → List Field → Option (Option (List ℕ))
first_untied [] [] = None
first_untied [] (g ∷ gs) = Some g.name
first_untied (f ∷ fs) [] = Some f.name
first_untied (f ∷ fs) (g ∷ gs) = lesser (field_cmp order f g) f.name g.name (first_untied fs gs)

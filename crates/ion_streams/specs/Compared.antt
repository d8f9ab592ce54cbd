-- What comparing two documents answers.
use Rattle.std.specs.Prelude.{◌≡◌, ℕ, ◌+◌, ◌-◌, List, [], ◌∷◌, ◌++◌, length, slice_get, Bool, true, if◌then◌else◌, Option, Some, None, option_map}
use lib.Pointwise.{pointwise}
use Rattle.ion_streams.specs.Names.{Format, Heard, Inlet, IsPath, IsRefused, Left, MayFollow, Part, Right, Value, Verdict, same}
use Rattle.ion_streams.specs.declared.comparison.Verdict.TheVariants.{Different, Equivalent, Refused}

-- the first place, from 1, where the values aren't the same or only one stream has ended
abbrev pub parts : List Value → List Value → Option ℕ
parts [] [] = None
parts [] (w ∷ ws) = Some 1
parts (v ∷ vs) [] = Some 1
parts (v ∷ vs) (w ∷ ws) = if same v w then option_map (λ n. n + 1) (parts vs ws) else Some 1

-- the path to where two values part; an empty one where one of them isn't there
abbrev pub IsPathOf : List Part → Option Value → Option Value → Type 0
IsPathOf path (Some v) (Some w) = IsPath path v w
IsPathOf path _ _ = path ≡ []

-- the streams part at this place, and within the two values there at this path
pub record PartAt (index : ℕ) (path : List Part) (s t : List Value) : Type 0 where
  pub first : parts s t ≡ Some index
  pub within : IsPathOf path (slice_get s (index - 1)) (slice_get t (index - 1))

module _ (F G : Format) where
  -- both are documents, of streams s and t
  pub record AreDocuments (l r : List ℕ) (P : List Value → List Value → Type 0) : Type 0 where
    pub s : List Value
    pub t : List Value
    pub left : F.denotes l s
    pub right : G.denotes r t
    pub streams : P s t

  -- the verdict on two octet strings
  abbrev pub IsVerdict : List ℕ → List ℕ → Verdict → Type 0
  IsVerdict l r (Equivalent values) = AreDocuments l r (λ s t. (pointwise same s t ≡ true) × (length s ≡ values))
  IsVerdict l r (Different index path) = AreDocuments l r (PartAt index path)
  IsVerdict l r (Refused Left refusal) = (s : List Value) × IsRefused F l s refusal
  IsVerdict l r (Refused Right refusal) = ((s : List Value) × F.denotes l s) × ((t : List Value) × IsRefused G r t refusal)

-- Two devices handed over l and r. The verdict is right about whatever octet strings begin so, and end there where the device answered its end.
pub record IsCompared {S T : Type 0} (L : Inlet S) (R : Inlet T) (F G : Format) (left left_now : S) (right right_now : T) (verdict : Verdict) : Type 0 where
  pub l : List ℕ
  pub left_ended : Bool
  pub heard_left : Heard L left left_now l left_ended
  pub r : List ℕ
  pub right_ended : Bool
  pub heard_right : Heard R right right_now r right_ended
  pub decided : (more_l more_r : List ℕ) → MayFollow left_ended more_l → MayFollow right_ended more_r → IsVerdict F G (l ++ more_l) (r ++ more_r) verdict

-- What sources give under names, and which names they were asked for.
use Rattle.std.specs.Prelude.{◌≡◌, ◌⊎◌, List, [], ◌∷◌, ◌++◌, codes, Option, Some, ℕ}
use Rattle.ion_symtab.specs.declared.fault.Fault.{Fault}
use Rattle.ion_symtab.specs.declared.fault.Fault.TheVariants.{Memory, Open}

-- the octets of a name
abbrev pub Name : Type 0
Name = List ℕ

-- Between old and new each name still gives what it gave, but for the standard input (`-`) once that was taken.
pub record Keeps {S X : Type 0} (gives : S → Name → X → Type 0) (refuses : S → Name → Type 0) (old new : S) (taken : Option Name) : Type 0 where
  pub given : (name : Name) (input : X) → (name ≡ codes "-" → taken ≡ Some name → ⊥) → gives new name input → gives old name input
  pub refused : (name : Name) → (name ≡ codes "-" → taken ≡ Some name → ⊥) → refuses new name → refuses old name

-- between old and new just these names were opened, one after another
abbrev pub Opens : List Name → List Name → List Name → Type 0
Opens old new names = new ≡ old ++ names

-- All of these names were opened before a fault; or those up to one that gave no reader, which may give none or lacked memory.
abbrev pub OpensUpTo : (List Name → Type 0) → (Name → Type 0) → List Name → Fault → Type 0
OpensUpTo opens refuses names fault = opens names
    ⊎ ((front : List Name) × (last : Name) × (rest : List Name) × (front ++ last ∷ rest ≡ names) × opens (front ++ last ∷ [])
    × ((fault ≡ Open) × refuses last ⊎ (fault ≡ Memory)))

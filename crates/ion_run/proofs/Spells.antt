-- Names are read off their numbers.
use Rattle.std.proofs.Common.{◌≡◌, ℕ, List, [], ◌∷◌, ◌++◌, map, zero, suc, refl, ap, ap₂}
use Rattle.ion_run.specs.kept.Spelled.{spelled, name_at, names_in}

name_alone : (name : List ℕ) → name_at (map (λ octet. suc octet) name) ≡ name
name_alone [] = refl
name_alone (octet ∷ name) = ap (λ (rest : List ℕ). octet ∷ rest) (name_alone name)

none_within : (name : List ℕ) → names_in (map (λ octet. suc octet) name) ≡ []
none_within [] = refl
none_within (octet ∷ name) = none_within name

name_before : (numbers name : List ℕ) → name_at (numbers ++ spelled name) ≡ name_at numbers
name_before [] name = refl
name_before (zero ∷ numbers) name = refl
name_before (suc octet ∷ numbers) name = ap (λ (rest : List ℕ). octet ∷ rest) (name_before numbers name)

-- a name spelled behind the numbers of others is one more name behind theirs
pub names_more : (numbers name : List ℕ) → names_in (numbers ++ spelled name) ≡ names_in numbers ++ name ∷ []
names_more [] name = ap₂ (λ (first : List ℕ) (rest : List (List ℕ)). first ∷ rest) (name_alone name) (none_within name)
names_more (zero ∷ numbers) name = ap₂ (λ (first : List ℕ) (rest : List (List ℕ)). first ∷ rest) (name_before numbers name) (names_more numbers name)
names_more (suc octet ∷ numbers) name = names_more numbers name

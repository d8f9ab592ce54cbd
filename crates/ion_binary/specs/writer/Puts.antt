-- What a stream's values add to its document, one behind the other.
use Rattle.std.proofs.Common.{◌≡◌, ℕ, List, [], ◌∷◌, ◌++◌, refl, ap, sym, ◌∙◌, append_assoc}
use Rattle.ion_binary.specs.Names.Below.{Value}
use Rattle.ion_binary.specs.Output.{Progress, adds, after, bin_from, opening}

-- what the values add, without the end
abbrev pub puts : Progress → List Value → List ℕ
puts p [] = []
puts p (v ∷ vs) = adds p v ++ puts (after p v) vs

-- what the rest of the document depends on behind the values
abbrev pub behind : Progress → List Value → Progress
behind p [] = p
behind p (v ∷ vs) = behind (after p v) vs

-- the document is what its values add, and a marker where they were none
pub bin_puts : (p : Progress) (s : List Value) → puts p s ++ opening (behind p s).begun ≡ bin_from p s
bin_puts p [] = refl
bin_puts p (v ∷ s) = append_assoc (adds p v) (puts (after p v) s) (opening (behind (after p v) s).begun) ∙ ap (λ w. adds p v ++ w) (bin_puts (after p v) s)

-- values behind values
pub puts_more : (p : Progress) (s t : List Value) → puts p (s ++ t) ≡ puts p s ++ puts (behind p s) t
puts_more p [] t = refl
puts_more p (v ∷ s) t = ap (λ w. adds p v ++ w) (puts_more (after p v) s t) ∙ sym (append_assoc (adds p v) (puts (after p v) s) (puts (behind (after p v) s) t))

-- values, and more values behind them, lead where the latter do behind the former
pub behind_more : (p : Progress) (s t : List Value) → behind p (s ++ t) ≡ behind (behind p s) t
behind_more p [] t = refl
behind_more p (v ∷ s) t = behind_more (after p v) s t

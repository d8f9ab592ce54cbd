-- What a scanner knows behind the tokens that it told.
use Rattle.std.specs.Prelude.{◌≡◌, ℕ, ◌+◌, List, [], ◌∷◌, ◌++◌, length}
use Rattle.ion_tokens.specs.machine.Scanning.{Known, Given, Left, run, initial}
use Rattle.ion_tokens.specs.Lexed.{Placed}

-- What a scanner knows once it has told these tokens, for which it took up these octets; `ahead` is the octet that ended the last of
-- them, where it was left, and must come next.
pub data Stands : Known → List ℕ → List Placed → List ℕ → Type 0 where
  Begun : Stands initial [] [] []
  Gave : (s : Known) (u : List ℕ) (ts : List Placed) (ahead : List ℕ) (t : Placed) (octets more : List ℕ) (s' : Known) → Stands s u ts ahead
      → octets ≡ ahead ++ more
      → run t.place octets s ≡ Given t.lexeme s' → s'.used ≡ s.used + length octets → Stands s' (u ++ octets) (ts ++ t ∷ []) []
  Leaved : (s : Known) (u : List ℕ) (ts : List Placed) (ahead : List ℕ) (t : Placed) (octets more : List ℕ) (x : ℕ) (s' : Known) → Stands s u ts ahead
      → octets ++ x ∷ [] ≡ ahead ++ more
      → run t.place (octets ++ x ∷ []) s ≡ Left t.lexeme s' → s'.used ≡ s.used + length octets → Stands s' (u ++ octets) (ts ++ t ∷ []) (x ∷ [])

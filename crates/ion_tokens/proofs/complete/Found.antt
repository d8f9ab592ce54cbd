-- What the scanner finds in octets.
use Rattle.std.proofs.Common.{◌≡◌, ◌∙◌, ◌⊎◌, inl, inr, ℕ, ◌-◌, Bool, List, [], ◌∷◌, drop, refl, sym, subst}
use Rattle.std.specs.Prelude.{Some, None, Ok, Err}
use Rattle.ion_tokens.specs.Names.{Given, Incomplete, Known, Left, Mode, Next, Outcome, Place, Placed, Refused, TokenKind, at_end, run}

-- in a word that begins at `start`, behind these letters of it
abbrev pub in_word : List ℕ → Bool → ℕ → ℕ → Known
in_word letters colon start used = record { mode = Mode.Word; kept = letters; colon = colon; start = start; used = used }

-- What a scanner that knows this finds in octets: token by token, in the places handed in. `Rests` says what it comes to where no
-- token is left, and an s-expression that ends behind a sign and the front of `inf` isn't closed: `Bare` says that no token follows there.
pub data FindsUpTo (Rests : Known → List ℕ → Type 0) (Bare : Type 0) : Known → List ℕ → List Placed → Type 0 where
  Nothing : (s : Known) (octets : List ℕ) → Rests s octets → FindsUpTo Rests Bare s octets []
  Last : (s : Known) (octets : List ℕ) (t : Placed) (s' : Known) → run t.place octets s ≡ Next s' → at_end t.place s' ≡ Ok (Some t.lexeme)
      → FindsUpTo Rests Bare s octets (t ∷ [])
  Gives : (s : Known) (octets : List ℕ) (t : Placed) (ts : List Placed) (s' : Known) → run t.place octets s ≡ Given t.lexeme s'
      → FindsUpTo Rests Bare s' (drop (s'.used - s.used) octets) ts → FindsUpTo Rests Bare s octets (t ∷ ts)
  Leaves : (s : Known) (octets : List ℕ) (t : Placed) (ts : List Placed) (s' : Known) → run t.place octets s ≡ Left t.lexeme s'
      → FindsUpTo Rests Bare s' (drop (s'.used - s.used) octets) ts → FindsUpTo Rests Bare s octets (t ∷ ts)
  Unclosed : (s : Known) (octets : List ℕ) (t : Placed) (ts : List Placed) (s' : Known) (colon : Bool) (letters : List ℕ) → (ts ≡ [] → Bare)
      → run t.place octets s ≡ Next s'
      → at_end t.place s' ≡ Err Incomplete → t.lexeme.start ≡ s'.start → t.lexeme.kind ≡ TokenKind.Operator
      → FindsUpTo Rests Bare (in_word letters colon t.lexeme.end s'.used) [] ts
      → FindsUpTo Rests Bare s octets (t ∷ ts)

-- the octets up to the end of the input, where it ends in no token
abbrev pub Finds : Known → List ℕ → List Placed → Type 0
Finds = FindsUpTo (λ s octets. (p : Place) → (s' : Known) × (run p octets s ≡ Next s') × (at_end p s' ≡ Ok None)) ⊥

-- what a token that is found is to what comes of a run over the octets
abbrev pub FoundBy : (Known → List ℕ → Type 0) → Type 0 → Known → List ℕ → Placed → List Placed → Outcome → Type 0
FoundBy Rests Bare s octets t ts (Next s') =
    ((ts ≡ []) × (at_end t.place s' ≡ Ok (Some t.lexeme))) ⊎ ((ts ≡ [] → Bare) × (at_end t.place s' ≡ Err Incomplete))
FoundBy Rests Bare s octets t ts (Given l s') = (t.lexeme ≡ l) × FindsUpTo Rests Bare s' (drop (s'.used - s.used) octets) ts
FoundBy Rests Bare s octets t ts (Left l s') = (t.lexeme ≡ l) × FindsUpTo Rests Bare s' (drop (s'.used - s.used) octets) ts
FoundBy Rests Bare s octets t ts (Refused n e) = ⊥

pub found_by : (Rests : Known → List ℕ → Type 0) (Bare : Type 0) (s : Known) (octets : List ℕ) (t : Placed) (ts : List Placed) (x : Outcome)
    → run t.place octets s ≡ x → FindsUpTo Rests Bare s octets (t ∷ ts) → FoundBy Rests Bare s octets t ts x
found_by Rests Bare s octets t ts x e (Last _ _ _ s' f g) = subst (FoundBy Rests Bare s octets t []) (sym f ∙ e) (inl (refl, g))
found_by Rests Bare s octets t ts x e (Gives _ _ _ _ s' f g) = subst (FoundBy Rests Bare s octets t ts) (sym f ∙ e) (refl, g)
found_by Rests Bare s octets t ts x e (Leaves _ _ _ _ s' f g) = subst (FoundBy Rests Bare s octets t ts) (sym f ∙ e) (refl, g)
found_by Rests Bare s octets t ts x e (Unclosed _ _ _ _ s' _ _ m f g _ _ _) = subst (FoundBy Rests Bare s octets t ts) (sym f ∙ e) (inr (m, g))

-- What one octet makes of what a scanner stands for. Crates above cite these names.
use Rattle.std.proofs.Common.{◌≡◌, ℕ, List, [], ◌∷◌, ◌++◌, sym, ap, subst, arith, append-nil, length-append}
use Rattle.ion_tokens.specs.Names.{Continues, Gave, Given, Known, Leaved, Left, Lexeme, Next, Outcome, Passes, Place, Placed, Scanned, Stands, feed, follow, run}
use Rattle.ion_tokens.proofs.histories.Stepped.{behind_since, from_left, goes_on, since_used, told_more}
use Rattle.ion_tokens.proofs.runs.Splits.{given_one, left_one}

-- a token, and the place that it was looked for in
abbrev pub placed : Place → Lexeme → Placed
placed p x = record { place = p; lexeme = x }

module _ (p : Place) (s : Known) (u : List ℕ) (ts : List Placed) (ahead : List ℕ) (h : Scanned p s u ts ahead) (o : ℕ) (c : Continues (o ∷ []) ahead) where
  from : Continues (h.since ++ o ∷ []) h.left
  from = from_left p s u ts ahead h (o ∷ []) (o ∷ []) [] c (sym (append-nil (o ∷ []))) (omega arith)

  ran : (x : Outcome) → feed p s o ≡ x → run p (h.since ++ o ∷ []) h.behind ≡ follow x (λ t. Next t)
  ran x e = behind_since p s u ts ahead h (o ∷ []) _ (ap (λ y. follow y (λ t. Next t)) e)

  -- behind one octet that ends nothing, the same tokens are told
  pub scanned_next : (s' : Known) → feed p s o ≡ Next s' → Scanned p s' (u ++ o ∷ []) ts []
  scanned_next s' e = goes_on p s u ts ahead h (o ∷ []) s' c (ap (λ y. follow y (λ t. Next t)) e)

  -- behind one octet that gives a token, that one is told as well, and the next stands in any place
  pub scanned_given : (s' : Known) (x : Lexeme) → feed p s o ≡ Given x s' → Passes x.kind x.octets → (q : Place)
      → Scanned q s' (u ++ o ∷ []) (ts ++ placed p x ∷ []) []
  scanned_given s' x e pass q = told_more p s u ts ahead h (o ∷ []) (placed p x) s' []
      (Gave h.behind h.front ts h.left (placed p x) (h.since ++ o ∷ []) from.0 s' h.told from.1 (ran (Given x s') e)
      (omega (arith, given_one p o s s' x e, since_used p s u ts ahead h, length-append h.since (o ∷ [])))) pass q

  -- before an octet that ended a token, that one is told as well, and the octet must come next
  pub scanned_left : (s' : Known) (x : Lexeme) → feed p s o ≡ Left x s' → Passes x.kind x.octets → (q : Place) → Scanned q s' u (ts ++ placed p x ∷ []) (o ∷ [])
  scanned_left s' x e pass q = subst (λ v. Scanned q s' v (ts ++ placed p x ∷ []) (o ∷ [])) (append-nil u)
      (told_more p s u ts ahead h [] (placed p x) s' (o ∷ [])
      (subst (λ v. Stands s' (h.front ++ v) (ts ++ placed p x ∷ []) (o ∷ [])) (sym (append-nil h.since))
      (Leaved h.behind h.front ts h.left (placed p x) h.since from.0 o s' h.told from.1 (ran (Left x s') e)
      (omega (arith, left_one p o s s' x e, since_used p s u ts ahead h)))) pass q)

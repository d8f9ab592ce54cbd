-- What stands behind a sign begins with a digit, and has one magnitude.
use Rattle.std.proofs.Common.{◌≡◌, ◌≢◌, ℕ, ◌⊎◌, inl, inr, List, [], ◌∷◌, sym, subst, ◌∙◌, arith}
use Rattle.ion_scalar.specs.Names.{IsDigits, IsMagnitude, IsRadix, IsWholePart, number}
use Rattle.ion_scalar.specs.text.laws.OneRun.{first_digit}

-- a magnitude begins with a digit
pub no_sign : (c : ℕ) (os : List ℕ) (n : ℕ) → IsMagnitude (c ∷ os) n → c ≢ 45
no_sign c os n (inl m) is = elim (m.0) [
  | inl one ↦ (let e : c ≡ 48 = cc in omega arith)
  | inr some ↦ (let P : ℕ → Type 0 = λ x. IsDigits 10 (x ∷ os) in
      absurd (omega (arith, first_digit 10 45 os (subst P is (some.0)))))
]
no_sign c [] n (inr m) is = elim m [ inl r ↦ r | inr r ↦ r ]
no_sign c (d ∷ os) n (inr m) is = elim m [ inl r ↦ (let e = r.0 in omega arith) | inr r ↦ (let e = r.0 in omega arith) ]

not_both : (c x : ℕ) (os : List ℕ) (m n : ℕ) → IsWholePart (c ∷ x ∷ os) × (m ≡ number 10 (c ∷ x ∷ os)) → IsRadix 16 120 88 (c ∷ x ∷ os) n
    ⊎ IsRadix 2 98 66 (c ∷ x ∷ os) n → ⊥
not_both c x os m n a b = (elim (a.0) [ inl one ↦ cc | inr some ↦ some.1 (elim b [ inl r ↦ r.0 | inr r ↦ r.0 ]) ])

-- a body has one magnitude
pub one_magnitude : (os : List ℕ) (m n : ℕ) → IsMagnitude os m → IsMagnitude os n → m ≡ n
one_magnitude os m n (inl a) (inl b) = a.1 ∙ sym (b.1)
one_magnitude [] m n (inr a) b = elim a [ inl r ↦ absurd r | inr r ↦ absurd r ]
one_magnitude (c ∷ []) m n (inr a) b = elim a [ inl r ↦ absurd r | inr r ↦ absurd r ]
one_magnitude (c ∷ x ∷ os) m n (inr (inl a)) (inr (inl b)) = a.3 ∙ sym (b.3)
one_magnitude (c ∷ x ∷ os) m n (inr (inr a)) (inr (inr b)) = a.3 ∙ sym (b.3)
one_magnitude (c ∷ x ∷ os) m n (inr (inl a)) (inr (inr b)) =
    absurd (elim (a.1) [ inl p ↦ elim (b.1) [ inl q ↦ omega arith | inr q ↦ omega arith ] | inr p ↦ elim (b.1) [ inl q ↦ omega arith | inr q ↦ omega arith ] ])
one_magnitude (c ∷ x ∷ os) m n (inr (inr a)) (inr (inl b)) =
    absurd (elim (a.1) [ inl p ↦ elim (b.1) [ inl q ↦ omega arith | inr q ↦ omega arith ] | inr p ↦ elim (b.1) [ inl q ↦ omega arith | inr q ↦ omega arith ] ])
one_magnitude (c ∷ x ∷ os) m n (inr a) (inl b) = absurd (not_both c x os n m b a)
one_magnitude [] m n (inl a) (inr b) = elim b [ inl r ↦ absurd r | inr r ↦ absurd r ]
one_magnitude (c ∷ []) m n (inl a) (inr b) = elim b [ inl r ↦ absurd r | inr r ↦ absurd r ]
one_magnitude (c ∷ x ∷ os) m n (inl a) (inr b) = absurd (not_both c x os m n a b)

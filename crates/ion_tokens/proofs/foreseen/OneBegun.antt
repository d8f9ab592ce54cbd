-- The token that has begun is determined by the octets.
use Rattle.std.proofs.Common.{◌≡◌, ℕ, ◌+◌, ◌≤◌, ◌⊎◌, inl, inr, Bool, false, List, [], ◌∷◌, ◌++◌, length, drop, refl, sym, ap, ◌∙◌, subst, arith, length-append}
use Rattle.std.specs.Prelude.{codes, Option, Some, None}
use Rattle.std.proofs.Math.Seq.{drop-append_seam}
use Rattle.ion_tokens.specs.Names.{Begun, BegunSo, Covers, Form, HasBegun, IsForm, Lexes, LexesTo, LooksIn, MayComment, Place, Placed, ShowsBegun, TokenKind, colon_behind}

-- fronts of one length leave the same
same_rest : (xs ys r q : List ℕ) → xs ++ r ≡ ys ++ q → length xs ≡ length ys → r ≡ q
same_rest xs ys r q e n = sym (drop-append_seam xs r) ∙ ap (λ l. drop (length xs) l) e ∙ ap (λ (i : ℕ). drop i (ys ++ q)) n ∙ drop-append_seam ys q

-- the octets behind tokens are determined
record SameEnd (colon colon' : Bool) (end end' : ℕ) (rest rest' : List ℕ) : Type 0 where
  flag : colon ≡ colon'
  at : end ≡ end'
  octets : rest ≡ rest'

lexes_same : (ts : List Placed) (c c1 c2 : Bool) (k e1 e2 : ℕ) (o o1 o2 : List ℕ) → LexesTo c k o ts c1 e1 o1 → LexesTo c k o ts c2 e2 o2
    → SameEnd c1 c2 e1 e2 o1 o2
lexes_same [] c c1 c2 k e1 e2 o o1 o2 (a, b, d) (a', b', d') = record { flag = sym a ∙ a'; at = sym b ∙ b'; octets = sym d ∙ d' }
lexes_same (t ∷ ts) c c1 c2 k e1 e2 o o1 o2 (r, b, l) (q, b', l') =
    let size : length (b.blank ++ b.token) ≡ length (b'.blank ++ b'.token) =
    omega (arith, b.start, b.end, b'.start, b'.end, length-append b.blank b.token, length-append b'.blank b'.token) in
    let same : r ≡ q = same_rest (b.blank ++ b.token) (b'.blank ++ b'.token) r q (sym b.cut ∙ b'.cut) size in
    lexes_same ts (colon_behind t) c1 c2 t.lexeme.end e1 e2 q o1 o2 (subst (λ x. LexesTo (colon_behind t) t.lexeme.end x ts c1 e1 o1) same l) l'

same_form : (f g : Form) (w : List ℕ) → IsForm f w → IsForm g w → f ≡ g
same_form Form.Quote Form.Other w (inl e) k = absurd (k.0 e)
same_form Form.Quote Form.Other w (inr e) k = absurd (k.1 e)
same_form Form.Other Form.Quote w k (inl e) = absurd (k.0 e)
same_form Form.Other Form.Quote w k (inr e) = absurd (k.1 e)
same_form Form.Long Form.Other w (part, e) k = absurd (k.2 part e)
same_form Form.Other Form.Long w k (part, e) = absurd (k.2 part e)
same_form Form.Quote Form.Long w (inl e) (part, f) = absurd (omega (arith, ap length e, ap length f, length-append (codes "'''") part))
same_form Form.Quote Form.Long w (inr e) (part, f) = absurd (omega (arith, ap length e, ap length f, length-append (codes "'''") part))
same_form Form.Long Form.Quote w (part, f) (inl e) = absurd (omega (arith, ap length e, ap length f, length-append (codes "'''") part))
same_form Form.Long Form.Quote w (part, f) (inr e) = absurd (omega (arith, ap length e, ap length f, length-append (codes "'''") part))
same_form _ _ w h k = refl

-- some document has these tokens and goes on with the octets
abbrev GoesOnAs : Place → List ℕ → List Placed → Type 0
GoesOnAs p u ts = (rest : List ℕ) × (others : List Placed) × LooksIn p others × Lexes false 0 (u ++ rest) (ts ++ others)

module _ (p : Place) (u : List ℕ) (ts : List Placed) (colon : Bool) (end : ℕ) (octets : List ℕ) where
  same_start : (a b : Begun) → HasBegun p u ts colon end octets a → HasBegun p u ts colon end octets b → GoesOnAs p u ts → a.start ≡ b.start
  same_start a b h k (rest, others, looks, lexes) = by others (h.always rest others looks lexes) (k.always rest others looks lexes) where
    by : (others : List Placed) → Covers a.start a.end others → Covers b.start b.end others → a.start ≡ b.start
    by [] x y = absurd x
    by (t ∷ ts) x y = sym x.0 ∙ y.0

  -- what may be a comment isn't part of a token whatever follows
  not_less : (a b : Begun) → HasBegun p u ts colon end octets a → GoesOnAs p u ts → MayComment p u ts b → b.end + 1 ≤ a.end → ⊥
  not_less a b h goes (inr never) less = let (rest, others, looks, lexes) = goes in never rest others looks lexes
  not_less a b h goes (inl (l, start, stop, lexes)) less = by (h.always (codes "/") (record { place = p; lexeme = l } ∷ []) refl lexes).1 where
    by : (a.end ≤ l.end) ⊎ ((l.kind ≡ TokenKind.Operator) × ⊥) → ⊥
    by (inl within) = omega (arith, within, stop, less)
    by (inr (operator, none)) = none

  same_end : (a b : Begun) → HasBegun p u ts colon end octets a → HasBegun p u ts colon end octets b → GoesOnAs p u ts → a.end ≡ b.end
  same_end a b h k goes = by h.reaches k.reaches where
    by : (a.end ≡ end + length octets) ⊎ ((a.end + 1 ≡ end + length octets) × (front : List ℕ) × (h.token ≡ front ++ codes "/") × MayComment p u ts a)
        → (b.end ≡ end + length octets) ⊎ ((b.end + 1 ≡ end + length octets) × (front : List ℕ) × (k.token ≡ front ++ codes "/") × MayComment p u ts b)
        → a.end ≡ b.end
    by (inl e) (inl f) = e ∙ sym f
    by (inl e) (inr (f, front, slash, comment)) = absurd (not_less a b h goes comment (omega (arith, e, f)))
    by (inr (e, front, slash, comment)) (inl f) = absurd (not_less b a k goes comment (omega (arith, e, f)))
    by (inr (e, front, slash, comment)) (inr (f, front', slash', comment')) = omega (arith, e, f)

  same_token : (a b : Begun) (h : HasBegun p u ts colon end octets a) (k : HasBegun p u ts colon end octets b) → a.start ≡ b.start → h.token ≡ k.token
  same_token a b h k e = same_rest h.blank k.blank h.token k.token (sym h.cut ∙ k.cut) (omega (arith, h.start, k.start, e))

  same_begun : (a b : Begun) → HasBegun p u ts colon end octets a → HasBegun p u ts colon end octets b → GoesOnAs p u ts → a ≡ b
  same_begun a b h k goes =
      let start : a.start ≡ b.start = same_start a b h k goes in
      let stop : a.end ≡ b.end = same_end a b h k goes in
      let token = same_token a b h k start in
      let form : a.form ≡ b.form = same_form a.form b.form k.token (subst (λ w. IsForm a.form w) token h.form) k.form in
      λ i. record { start = start i; end = stop i; form = form i }

  same_shown : (a b : Option Begun) → BegunSo p u ts colon end octets a → BegunSo p u ts colon end octets b → GoesOnAs p u ts → a ≡ b
  same_shown None None h k goes = refl
  same_shown None (Some b) (inl (rest, blank)) k goes = absurd (k.no_blank rest blank)
  same_shown None (Some b) (inr colon) k goes = absurd (k.no_colon colon)
  same_shown (Some a) None h (inl (rest, blank)) goes = absurd (h.no_blank rest blank)
  same_shown (Some a) None h (inr colon) goes = absurd (h.no_colon colon)
  same_shown (Some a) (Some b) h k goes = ap Some (same_begun a b h k goes)

-- Where a document goes on so, one answer alone shows what has begun.
pub one_begun : (p : Place) (u : List ℕ) (ts : List Placed) (a b : Option Begun) → ShowsBegun p u ts a → ShowsBegun p u ts b
    → (rest : List ℕ) (others : List Placed) → LooksIn p others → Lexes false 0 (u ++ rest) (ts ++ others) → a ≡ b
one_begun p u ts a b (colon, end, octets, lexes, h) (colon', end', octets', lexes', k) rest others looks goes =
    let same = lexes_same ts false colon colon' 0 end end' u octets octets' lexes lexes' in
    same_shown p u ts colon end octets a b h
    (subst (λ c. BegunSo p u ts c end octets b) (sym same.flag)
    (subst (λ (n : ℕ). BegunSo p u ts colon' n octets b) (sym same.at) (subst (λ o. BegunSo p u ts colon' end' o b) (sym same.octets) k)))
    (rest, others, looks, goes)

-- What was told of octets is so in each input that begins with them.
use Rattle.std.proofs.Common.{◌≡◌, ℕ, ◌+◌, ◌-◌, Bool, false, List, [], ◌∷◌, ◌++◌, length, drop, inl, inr, refl, sym, ap, ◌∙◌, subst, arith, append_assoc, append-nil}
use Rattle.std.specs.Prelude.{Some, None, Ok}
use Rattle.std.proofs.Math.Seq.{drop-append_seam}
use Rattle.ion_tokens.specs.Names.{Gave, Given, IsLastBlank, IsNext, Known, Leaved, Left, Lexeme, Lexes, LexesBefore, LooksIn, Next, Outcome, Place, Placed, Reason, Refused, Stands, at_end, follow, initial, run}
use Rattle.ion_tokens.specs.machine.Told.{Begun}
use Rattle.ion_tokens.proofs.complete.Found.{Finds, FindsUpTo, FoundBy, Nothing, found_by}
use Rattle.ion_tokens.proofs.complete.TakesBlanks.{last_blank}
use Rattle.ion_tokens.proofs.complete.Wholes.{FindsFrom, find_token, goes_on, no_word}
use Rattle.ion_tokens.proofs.runs.Cutting.{run-append}

-- Over octets up to the end of the input, the scanner finds the tokens that they are, and refuses nothing.
pub completes : (ts : List Placed) → FindsFrom (λ colon before octets. IsLastBlank octets) (λ s octets. (p : Place) → (s' : Known) × (run p octets s ≡ Next s')
    × (at_end p s' ≡ Ok None)) ⊥ ts
completes [] = λ colon k octets ahead rest s lexes e reached. Nothing s rest (λ p. let l = last_blank p colon octets k k lexes in
    (l.0, goes_on colon k ahead rest s reached p octets (Next l.0) e l.1, l.2))
completes (t ∷ ts) = find_token (λ colon before octets. IsLastBlank octets) (λ s octets. (p : Place) → (s' : Known) × (run p octets s ≡ Next s')
    × (at_end p s' ≡ Ok None)) ⊥ (λ colon before octets blank word. no_word octets blank word) t ts (completes ts)

-- Over octets that begin with tokens, it finds them.
pub begins_completes : (ts : List Placed) → FindsFrom (λ colon before octets. Unit {0}) (λ s octets. Unit {0}) (Unit {0}) ts
begins_completes [] = λ colon k octets ahead rest s lexes e reached. Nothing s rest tt
begins_completes (t ∷ ts) = find_token (λ colon before octets. Unit {0}) (λ s octets. Unit {0}) (Unit {0}) (λ colon before octets blank word. tt) t ts
    (begins_completes ts)

-- what a run gives or leaves over a front it does over the whole
pub given_front : (p : Place) (xs ys : List ℕ) (s s' : Known) (l : Lexeme) → run p xs s ≡ Given l s' → run p (xs ++ ys) s ≡ Given l s'
given_front p xs ys s s' l e = run-append p xs ys s ∙ ap (λ x. follow x (λ t. run p ys t)) e

-- a token that ends before an octet of a front does so in the whole
pub left_front : (p : Place) (xs ys : List ℕ) (s s' : Known) (l : Lexeme) → run p xs s ≡ Left l s' → run p (xs ++ ys) s ≡ Left l s'
left_front p xs ys s s' l e = run-append p xs ys s ∙ ap (λ x. follow x (λ t. run p ys t)) e

pub refused_front : (p : Place) (xs ys : List ℕ) (s : Known) (n : ℕ) (r : Reason) → run p xs s ≡ Refused n r → run p (xs ++ ys) s ≡ Refused n r
refused_front p xs ys s n r e = run-append p xs ys s ∙ ap (λ x. follow x (λ t. run p ys t)) e

-- what stands behind the octets that were used is the rest
pub behind_front : (octets rest : List ℕ) (used now : ℕ) → now ≡ used + length octets → drop (now - used) (octets ++ rest) ≡ rest
behind_front octets rest used now e = let n : now - used ≡ length octets = omega arith in ap (λ (i : ℕ). drop i (octets ++ rest)) n
    ∙ drop-append_seam octets rest

module _ (Rests : Known → List ℕ → Type 0) (Bare : Type 0) where
  -- behind a token that was given
  after_given : (s s' : Known) (octets rest : List ℕ) (t : Placed) (ts : List Placed) → run t.place octets s ≡ Given t.lexeme s'
      → s'.used ≡ s.used + length octets → FindsUpTo Rests Bare s (octets ++ rest) (t ∷ ts) → FindsUpTo Rests Bare s' rest ts
  after_given s s' octets rest t ts e n found =
      subst (λ l. FindsUpTo Rests Bare s' l ts) (behind_front octets rest s.used s'.used n)
      (found_by Rests Bare s (octets ++ rest) t ts (Given t.lexeme s') (given_front t.place octets rest s s' t.lexeme e) found).1

  -- behind a token that an octet ended which was left
  after_left : (s s' : Known) (octets rest : List ℕ) (x : ℕ) (t : Placed) (ts : List Placed) → run t.place (octets ++ x ∷ []) s ≡ Left t.lexeme s'
      → s'.used ≡ s.used + length octets → FindsUpTo Rests Bare s (octets ++ x ∷ rest) (t ∷ ts) → FindsUpTo Rests Bare s' (x ∷ rest) ts
  after_left s s' octets rest x t ts e n found =
      subst (λ l. FindsUpTo Rests Bare s' l ts) (behind_front octets (x ∷ rest) s.used s'.used n)
      (found_by Rests Bare s (octets ++ x ∷ rest) t ts (Left t.lexeme s') (ap (λ l. run t.place l s) (sym (append_assoc octets (x ∷ []) rest))
      ∙ left_front t.place (octets ++ x ∷ []) rest s s' t.lexeme e) found).1

-- In octets that begin with those taken up, whose first tokens are those told, the scanner finds the others in what is left.
module _ (End : Bool → ℕ → List ℕ → Type 0) (Rests : Known → List ℕ → Type 0) (Bare : Type 0)
    (completed : (ts : List Placed) → FindsFrom End Rests Bare ts) where
  -- in octets that begin with those taken up and the tokens told, the other tokens are found in the rest
  pub stands_found : (s : Known) (u : List ℕ) (ts : List Placed) (ahead rest : List ℕ) (others : List Placed) → Stands s u ts ahead → (more : List ℕ)
      → rest ≡ ahead ++ more → LexesBefore End false 0 (u ++ rest) (ts ++ others) → FindsUpTo Rests Bare s rest others
  stands_found s u ts ahead rest others Begun more cut lexes = completed others false 0 rest [] rest initial lexes refl (λ p. refl)
  stands_found s u ts ahead rest others (Gave s0 u0 ts0 ahead0 t octets more0 s' h e f n) more cut lexes =
      after_given Rests Bare s0 s octets rest t others f n
      (stands_found s0 u0 ts0 ahead0 (octets ++ rest) (t ∷ others) h (more0 ++ rest) (ap (λ l. l ++ rest) e ∙ append_assoc ahead0 more0 rest)
      (subst (λ l. LexesBefore End false 0 l (ts0 ++ t ∷ others)) (append_assoc u0 octets rest)
      (subst (λ l. LexesBefore End false 0 ((u0 ++ octets) ++ rest) l) (append_assoc ts0 (t ∷ []) others) lexes)))
  stands_found s u ts ahead rest others (Leaved s0 u0 ts0 ahead0 t octets more0 x s' h e f n) more cut lexes =
      subst (λ l. FindsUpTo Rests Bare s l others) (sym cut)
      (after_left Rests Bare s0 s octets more x t others f n
      (stands_found s0 u0 ts0 ahead0 (octets ++ x ∷ more) (t ∷ others) h (more0 ++ more) (sym (append_assoc octets (x ∷ []) more) ∙ ap (λ l. l ++ more) e
      ∙ append_assoc ahead0 more0 more)
      (subst (λ l. LexesBefore End false 0 l (ts0 ++ t ∷ others)) (append_assoc u0 octets (x ∷ more))
      (subst (λ l. LexesBefore End false 0 ((u0 ++ octets) ++ x ∷ more) l) (append_assoc ts0 (t ∷ []) others)
      (subst (λ l. LexesBefore End false 0 ((u0 ++ octets) ++ l) ((ts0 ++ t ∷ []) ++ others)) cut lexes)))))

-- In each input that begins with the octets taken up, whose first tokens are those told, the scanner finds the others in what is left.
pub stands_finds : (s : Known) (u : List ℕ) (ts : List Placed) (ahead rest : List ℕ) (others : List Placed) → Stands s u ts ahead → (more : List ℕ)
    → rest ≡ ahead ++ more → Lexes false 0 (u ++ rest) (ts ++ others) → Finds s rest others
stands_finds = stands_found (λ colon before octets. IsLastBlank octets) (λ s octets. (p : Place) → (s' : Known) × (run p octets s ≡ Next s')
    × (at_end p s' ≡ Ok None)) ⊥ completes

-- what the next token is to what a run over all that is left comes to
abbrev FirstBy : Known → List ℕ → List Placed → Outcome → Type 0
FirstBy s octets [] x = (s' : Known) × (x ≡ Next s')
FirstBy s octets (t ∷ ts) x = FoundBy (λ s octets. (p : Place) → (s' : Known) × (run p octets s ≡ Next s') × (at_end p s' ≡ Ok None)) ⊥ s octets t ts x

first_by : (p : Place) (s : Known) (octets : List ℕ) (others : List Placed) (x : Outcome) → LooksIn p others → Finds s octets others → run p octets s ≡ x
    → FirstBy s octets others x
first_by p s octets [] x looks (Nothing _ _ f) e = let g = f p in (g.0, sym e ∙ g.1)
first_by p s octets (t ∷ ts) x looks found e = found_by _ _ s octets t ts x (ap (λ q. run q octets s) looks ∙ e) found

-- no run over all that is left is refused, where tokens are found in it
not_refused : (s : Known) (octets : List ℕ) (others : List Placed) (n : ℕ) (r : Reason) → FirstBy s octets others (Refused n r) → ⊥
not_refused s octets [] n r (s', e) = cc
not_refused s octets (t ∷ ts) n r h = h

-- Where octets are refused, no input has, in the places handed in, the tokens told and goes on with them.
pub refusal_right : (s : Known) (u : List ℕ) (ts : List Placed) (ahead piece more : List ℕ) (p : Place) (n : ℕ) (reason : Reason) → Stands s u ts ahead
    → piece ≡ ahead ++ more → run p piece s ≡ Refused n reason
    → (r : List ℕ) (others : List Placed) → LooksIn p others → Lexes false 0 (u ++ (piece ++ r)) (ts ++ others) → ⊥
refusal_right s u ts ahead piece more p n reason h cut e r others looks lexes =
    not_refused s (piece ++ r) others n reason (first_by p s (piece ++ r) others _ looks (stands_finds s u ts ahead (piece ++ r) others h (more ++ r)
    (ap (λ l. l ++ r) cut ∙ append_assoc ahead more r) lexes) (refused_front p piece r s n reason e))

next_given : (s s' : Known) (octets : List ℕ) (others : List Placed) (l : Lexeme) → FirstBy s octets others (Given l s') → IsNext l others
next_given s s' octets [] l (s'', e) = cc
next_given s s' octets (t ∷ ts) l h = h.0

next_left : (s s' : Known) (octets : List ℕ) (others : List Placed) (l : Lexeme) → FirstBy s octets others (Left l s') → IsNext l others
next_left s s' octets [] l (s'', e) = cc
next_left s s' octets (t ∷ ts) l h = h.0

-- A token told is the next one in each input that has the tokens told before and goes on with these octets: there is no longer one.
pub given_next : (s s' : Known) (u : List ℕ) (ts : List Placed) (ahead piece more : List ℕ) (p : Place) (l : Lexeme) → Stands s u ts ahead
    → piece ≡ ahead ++ more → run p piece s ≡ Given l s'
    → (r : List ℕ) (others : List Placed) → LooksIn p others → Lexes false 0 (u ++ (piece ++ r)) (ts ++ others) → IsNext l others
given_next s s' u ts ahead piece more p l h cut e r others looks lexes =
    next_given s s' (piece ++ r) others l (first_by p s (piece ++ r) others _ looks (stands_finds s u ts ahead (piece ++ r) others h (more ++ r)
    (ap (λ l. l ++ r) cut ∙ append_assoc ahead more r) lexes) (given_front p piece r s s' l e))

-- a token that was left is the next one in each input with those told before and these octets
pub left_next : (s s' : Known) (u : List ℕ) (ts : List Placed) (ahead piece more : List ℕ) (p : Place) (l : Lexeme) → Stands s u ts ahead
    → piece ≡ ahead ++ more → run p piece s ≡ Left l s'
    → (r : List ℕ) (others : List Placed) → LooksIn p others → Lexes false 0 (u ++ (piece ++ r)) (ts ++ others) → IsNext l others
left_next s s' u ts ahead piece more p l h cut e r others looks lexes =
    next_left s s' (piece ++ r) others l (first_by p s (piece ++ r) others _ looks (stands_finds s u ts ahead (piece ++ r) others h (more ++ r)
    (ap (λ l. l ++ r) cut ∙ append_assoc ahead more r) lexes) (left_front p piece r s s' l e))

-- what the end shows, where octets up to the end of the input gave no token
finds_blank : (p : Place) (s s' : Known) (octets : List ℕ) → run p octets s ≡ Next s' → Finds s octets [] → at_end p s' ≡ Ok None
finds_blank p s s' octets e (Nothing _ _ f) = let g = f p in let h : Next g.0 ≡ Next s' = sym g.1 ∙ e in let same : g.0 ≡ s' = cc in
    ap (at_end p) (sym same) ∙ g.2

finds_last : (p : Place) (s s' : Known) (octets : List ℕ) (t : Placed) → t.place ≡ p → FirstBy s octets (t ∷ []) (Next s') → at_end p s' ≡ Ok (Some t.lexeme)
finds_last p s s' octets t looks (inl (only, e)) = ap (λ q. at_end q s') (sym looks) ∙ e
finds_last p s s' octets t looks (inr (m, e)) = absurd (m refl)

-- Where the input ends behind a blank, or behind a blank and one token, its end shows just that.
pub end_blank : (s s' : Known) (u : List ℕ) (ts : List Placed) (ahead rest more : List ℕ) (p : Place) → Stands s u ts ahead → rest ≡ ahead ++ more
    → run p rest s ≡ Next s' → Lexes false 0 (u ++ rest) ts → at_end p s' ≡ Ok None
end_blank s s' u ts ahead rest more p h cut e lexes =
    finds_blank p s s' rest e (stands_finds s u ts ahead rest [] h more cut (subst (λ l. Lexes false 0 (u ++ rest) l) (sym (append-nil ts)) lexes))

-- where the input ends behind one token more, its end shows just that one
pub end_token : (s s' : Known) (u : List ℕ) (ts : List Placed) (t : Placed) (ahead rest more : List ℕ) (p : Place) → Stands s u ts ahead → rest ≡ ahead ++ more
    → run p rest s ≡ Next s' → t.place ≡ p → Lexes false 0 (u ++ rest) (ts ++ t ∷ []) → at_end p s' ≡ Ok (Some t.lexeme)
end_token s s' u ts t ahead rest more p h cut e looks lexes = finds_last p s s' rest t looks
    (first_by p s rest (t ∷ []) (Next s') looks (stands_finds s u ts ahead rest (t ∷ []) h more cut lexes) e)

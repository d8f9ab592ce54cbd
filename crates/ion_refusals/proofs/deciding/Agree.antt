-- Tokens of octets, of which the last one has ended in them, and those of more octets: one list is the front of the other.
use Rattle.std.proofs.Common.{◌≡◌, ℕ, ◌+◌, ◌-◌, ◌≤◌, false, List, [], ◌∷◌, ◌++◌, length, drop, refl, sym, ap, ◌∙◌, subst, arith, append-nil, ◌⊎◌, inl, inr}
use Rattle.std.proofs.lemmas.List.{drop-append-le, length-drop}
use Rattle.ion_refusals.specs.Names.{BeginsLexed, Catalog, Given, Known, Left, Limits, Next, Outcome, Placed, Reading, Value, Walk, initial, place, reads, reads-append, scan as run, stopped, then_walk}
use Rattle.ion_tokens.proofs.complete.Found.{Gives, Last, Leaves, Nothing, Unclosed}
use Rattle.ion_tokens.proofs.histories.Histories.{begins_completes, given_front, left_front}
use Rattle.ion_tokens.proofs.runs.Runs.{given_used, left_used, next_used}
use Rattle.ion_text.specs.machine.TokenLists.{walked}
use Rattle.ion_text.specs.laws.reading.complete.Going.{added}
use Rattle.ion_refusals.proofs.deciding.Fronts.{Any, Came, Either, HasEnded, found_open, last_behind, last_of, origin}
use Rattle.ion_text.specs.laws.reading.complete.Pieces.{walked_now}
use Rattle.ion_text.specs.laws.showing.tokens.Compare.{Found', IsThis, placed_same}
use Rattle.ion_text.specs.laws.showing.tokens.Walks.{walking_said}

module _ (g : Catalog) (l : Limits) where
  -- 1. Tokens that the reader looks for.

  -- each of them stands where the reader looks for it, and each but the last is read
  abbrev Along : Reading → List Placed → Type 0
  Along r [] = Unit {0}
  Along r (t ∷ ts) = (t.place ≡ place r) × ((ts ≡ []) ⊎ ((vs : List Value) × (n : Reading) × (reads g l r (t ∷ []) ≡ walked vs n) × Along n ts))

  along : (before : List Placed) (t : Placed) (r : Reading) (vs : List Value) (n : Reading) → reads g l r before ≡ walked vs n → t.place ≡ place n
      → Along r (before ++ t ∷ [])
  along [] t r vs n e p = (p ∙ ap place (sym (walked_now g l [] vs r n e).1), inl refl)
  along (x ∷ before) t r vs n e p = go (reads g l r (x ∷ [])) refl (λ k ws f. along before t k ws n f p)
    where
      cut : (w : Walk) → reads g l r (x ∷ []) ≡ w → then_walk w (λ k. reads g l k before) ≡ walked vs n
      cut w f = ap (λ y. then_walk y (λ k. reads g l k before)) (sym f) ∙ (sym (reads-append g l (x ∷ []) before r) ∙ e)

      go : (w : Walk) → reads g l r (x ∷ []) ≡ w → ((k : Reading) (ws : List Value) → reads g l k before ≡ walked ws n → Along k (before ++ t ∷ []))
          → Along r (x ∷ (before ++ t ∷ []))
      go (walked xs k) f more =
          let a = added g l xs vs n (reads g l k before) (cut (walked xs k) f) in
          ((walking_said g l r x [] (record { vs = xs; n = k; read = f })).0, inr (xs, k, f, more k a.0 a.1))
      go stopped f more = absurd (let h : stopped ≡ walked vs n = cut stopped f in cc)

  -- 2. Two lists of them.

  -- the last of the tokens, if there is one, is this
  abbrev LastIs : Placed → List Placed → Type 0
  LastIs t [] = Unit {0}
  LastIs t (x ∷ xs) = last_of x xs ≡ t

  last_tail : (t x : Placed) (xs : List Placed) → last_of x xs ≡ t → LastIs t xs
  last_tail t x [] e = tt
  last_tail t x (y ∷ ys) e = e

  -- behind the same token
  joined : (t w : Placed) (ts ws : List Placed) (r : Reading) → t ≡ w → Along r (t ∷ ts) → Along r (w ∷ ws)
      → ((n : Reading) → Along n ts → Along n ws → Either g l ts ws) → Either g l (t ∷ ts) (w ∷ ws)
  joined t w ts ws r same a b more = by a.1 b.1
    where
      one : Either g l ts ws → Either g l (t ∷ ts) (w ∷ ws)
      one (inl (ms, e)) = inl (ms, ap (λ y. y ∷ ws) (sym same) ∙ ap (λ y. t ∷ y) e)
      one (inr (ms, e)) = inr (ms, ap (λ y. y ∷ ts) same ∙ ap (λ y. w ∷ y) e)

      by : ((ts ≡ []) ⊎ ((vs : List Value) × (n : Reading) × (reads g l r (t ∷ []) ≡ walked vs n) × Along n ts))
          → ((ws ≡ []) ⊎ ((vs : List Value) × (n : Reading) × (reads g l r (w ∷ []) ≡ walked vs n) × Along n ws)) → Either g l (t ∷ ts) (w ∷ ws)
      by (inl e) y = one (inl (ws, ap (λ z. z ++ ws) (sym e)))
      by (inr x) (inl e) = one (inr (ts, ap (λ z. z ++ ts) (sym e)))
      by (inr (vs, n, e, x)) (inr (us, m, f, y)) =
          let k = walked_now g l vs us n m (sym e ∙ (ap (λ z. reads g l r (z ∷ [])) same ∙ f)) in
          one (more m (subst (λ z. Along z ts) k.1 x) y)

  module _ (u : List ℕ) (last : Placed) (ended : HasEnded g l u last) (v : List ℕ) where
    abbrev Agree : Known → List ℕ → List Placed → Type 0
    Agree s octets ts = (ws : List Placed) (all : List ℕ) → all ≡ octets ++ v → Found' Any s all ws → (r : Reading) → Along r ts → Along r ws → Either g l ts ws

    -- where the first token is told
    module _ (s s' : Known) (octets : List ℕ) (t : Placed) (ts : List Placed) (within : s'.used - s.used ≤ length octets) (x : Outcome)
        (ran : run t.place (octets ++ v) s ≡ x) (this : IsThis x t.lexeme s') (more : Agree s' (drop (s'.used - s.used) octets) ts) where
      there : (w : Placed) (ws : List Placed) (all : List ℕ) (y : Outcome) (r : Reading) → all ≡ octets ++ v → Along r (t ∷ ts) → Along r (w ∷ ws)
          → run w.place all s ≡ y → IsThis y t.lexeme s'
      there w ws all y r cut a b e =
          let same = sym ran ∙ (ap (λ p. run p (octets ++ v) s) (a.0 ∙ sym b.0) ∙ (ap (λ o. run w.place o s) (sym cut) ∙ e)) in
          subst (λ z. IsThis z t.lexeme s') same this

      matched : (w : Placed) (ws : List Placed) (all : List ℕ) (s'' : Known) (r : Reading) → all ≡ octets ++ v → (w.lexeme ≡ t.lexeme) × (s'' ≡ s')
          → Found' Any s'' (drop (s''.used - s.used) all) ws → Along r (t ∷ ts) → Along r (w ∷ ws) → Either g l (t ∷ ts) (w ∷ ws)
      matched w ws all s'' r cut i f a b =
          joined t w ts ws r (placed_same t w (a.0 ∙ sym b.0) (sym i.0)) a b
          (λ n c d. more ws (drop (s'.used - s.used) octets ++ v) refl
          (subst (λ o. Found' Any s' o ws) (ap (drop (s'.used - s.used)) cut ∙ drop-append-le (s'.used - s.used) octets v within)
          (subst (λ (z : Known). Found' Any z (drop (z.used - s.used) all) ws) i.1 f)) n c d)

      told : Agree s octets (t ∷ ts)
      told ws all cut f r a b = by ws f b
        where
          by : (ws : List Placed) → Found' Any s all ws → Along r ws → Either g l (t ∷ ts) ws
          by _ (Nothing _ _ n) b = inr (t ∷ ts, refl)
          by _ (Last _ _ w s'' e at) b = absurd (there w [] all (Next s'') r cut a b e)
          by _ (Gives _ _ w ws s'' e f) b = matched w ws all s'' r cut (there w ws all (Given w.lexeme s'') r cut a b e) f a b
          by _ (Leaves _ _ w ws s'' e f) b = matched w ws all s'' r cut (there w ws all (Left w.lexeme s'') r cut a b e) f a b
          by _ (Unclosed _ _ w ws s'' colon letters bare e at first operator f) b = absurd (there w ws all (Next s'') r cut a b e)

    -- how many octets are left behind a token
    left_over : (s s' : Known) (octets : List ℕ) → s.used + length octets ≡ length u → s.used ≤ s'.used → s'.used ≤ s.used + length octets
        → s'.used + length (drop (s'.used - s.used) octets) ≡ length u
    left_over s s' octets e h k = omega (arith, e, h, k, length-drop (s'.used - s.used) octets)

    inside : (s s' : Known) (octets : List ℕ) → s'.used ≤ s.used + length octets → s'.used - s.used ≤ length octets
    inside s s' octets h = omega (arith, h)

    agree : (s : Known) (octets : List ℕ) (ts : List Placed) → Found' Any s octets ts → s.used + length octets ≡ length u → LastIs last ts → Agree s octets ts
    agree _ _ _ (Nothing s octets n) used is = λ ws all cut f r a b. inl (ws, refl)
    agree _ _ _ (Last s octets t s' ran at) used is = λ ws all cut f r a b.
        absurd (found_open g l u last ended s s' octets t [] (Last s octets t s' ran at) ran (next_used t.place octets s s' (sym ran) ∙ used) is)
    agree _ _ _ (Gives s octets t ts s' ran f) used is =
        let n = given_used t.place octets s s' t.lexeme (sym ran) in
        told s s' octets t ts (inside s s' octets n.1) (Given t.lexeme s') (given_front t.place octets v s s' t.lexeme ran) (refl, refl)
        (agree s' (drop (s'.used - s.used) octets) ts f (left_over s s' octets used (omega (arith, n.0)) n.1)
        (last_tail last t ts is))
    agree _ _ _ (Leaves s octets t ts s' ran f) used is =
        let n = left_used t.place octets s s' t.lexeme (sym ran) in
        told s s' octets t ts (inside s s' octets (omega (arith, n.1))) (Left t.lexeme s') (left_front t.place octets v s s' t.lexeme ran) (refl, refl)
        (agree s' (drop (s'.used - s.used) octets) ts f (left_over s s' octets used n.0 (omega (arith, n.1))) (last_tail last t ts is))
    agree _ _ _ (Unclosed s octets t ts s' colon letters bare ran at first operator f) used is =
        λ ws all cut k r a b. absurd (found_open g l u last ended s s' octets t ts (Unclosed s octets t ts s' colon letters bare ran at first operator f) ran
        (next_used t.place octets s s' (sym ran) ∙ used) is)

  last_there : (before : List Placed) (t : Placed) → LastIs t (before ++ t ∷ [])
  last_there [] t = refl
  last_there (x ∷ before) t = last_behind before t [] x

  -- One list is the front of the other.
  pub agreed : (u v : List ℕ) (front back : List Placed) (t w : Placed) → HasEnded g l u t → Came g l front t.place → Came g l back w.place
      → BeginsLexed false 0 u (front ++ t ∷ []) → BeginsLexed false 0 (u ++ v) (back ++ w ∷ []) → Either g l (front ++ t ∷ []) (back ++ w ∷ [])
  agreed u v front back t w ended a b lexes more =
      agree u t ended v initial u (front ++ t ∷ []) (begins_completes (front ++ t ∷ []) false 0 u [] u initial lexes refl (λ p. refl)) (omega arith)
      (last_there front t)
      (back ++ w ∷ []) (u ++ v) refl (begins_completes (back ++ w ∷ []) false 0 (u ++ v) [] (u ++ v) initial more refl (λ p. refl))
      (origin g l) (along front t (origin g l) a.values a.now a.read (sym a.here)) (along back w (origin g l) b.values b.now b.read (sym b.here))

  -- Where neither list goes on behind the other, they are one.
  pub one_list : (u v : List ℕ) (ts ws front back : List Placed) (t w : Placed) → ts ≡ front ++ t ∷ [] → ws ≡ back ++ w ∷ [] → HasEnded g l u t
      → Came g l front t.place → Came g l back w.place → BeginsLexed false 0 u ts → BeginsLexed false 0 (u ++ v) ws
      → ((x : Placed) (xs : List Placed) → ws ≡ ts ++ x ∷ xs → ⊥) → ((x : Placed) (xs : List Placed) → ts ≡ ws ++ x ∷ xs → ⊥) → ts ≡ ws
  one_list u v ts ws front back t w is is' ended a b lexes more later earlier =
      by (agreed u v front back t w ended a b (subst (BeginsLexed false 0 u) is lexes) (subst (BeginsLexed false 0 (u ++ v)) is' more))
    where
      by : Either g l (front ++ t ∷ []) (back ++ w ∷ []) → ts ≡ ws
      by (inl ([], i)) = is ∙ (sym (i ∙ append-nil (front ++ t ∷ [])) ∙ sym is')
      by (inl (x ∷ xs, i)) = absurd (later x xs (is' ∙ (i ∙ ap (λ z. z ++ x ∷ xs) (sym is))))
      by (inr ([], i)) = is ∙ (i ∙ append-nil (back ++ w ∷ []) ∙ sym is')
      by (inr (x ∷ xs, i)) = absurd (earlier x xs (is ∙ (i ∙ ap (λ z. z ++ x ∷ xs) (sym is'))))

-- What the scanner meets in the octets of a row, up to its last token.
use Rattle.std.proofs.Common.{◌≡◌, ℕ, ◌+◌, ◌-◌, ◌==◌, Bool, true, false, ◌&&◌, List, [], ◌∷◌, ◌++◌, length, drop, Option, Some, None, refl, sym, ap, ◌∙◌, subst, arith, length-append, codes}
use Rattle.std.proofs.lemmas.Bool.{cond_both}
use Rattle.std.specs.Str.{bytes_eq}
use Rattle.ion_refusals.specs.Names.{Action, Catalog, Given, Known, Left, LexesTo, Limits, Mark, Mode, Next, Outcome, Place, Placed, TokenKind, acts, blob_ends, blob_of, feed, initial, scan as run}
use Rattle.ion_tokens.specs.machine.Table.{next}
use Rattle.ion_tokens.specs.laws.ByRows.{by_rows_where}
use Rattle.ion_tokens.proofs.complete.Found.{FindsUpTo, Gives, Last, Leaves, Nothing, Unclosed, in_word}
use Rattle.ion_tokens.proofs.complete.Moves.{at}
use Rattle.ion_tokens.proofs.complete.Wholes.{FindsFrom, find_token}
use Rattle.ion_tokens.proofs.histories.Histories.{behind_front}
use Rattle.ion_tokens.proofs.runs.Runs.{next_used}
use Rattle.ion_tokens.proofs.runs.Splits.{given_split, left_split}
use Rattle.ion_refusals.proofs.deciding.Fronts.{Any, HasEnded, found_open, last_behind, last_of}
use Rattle.ion_refusals.proofs.deciding.Reaching.{Sees, sees_given, sees_left, sees_on}
use Rattle.ion_refusals.proofs.deciding.Shows.{IsBare}
use Rattle.ion_text.specs.laws.reading.complete.Found.{given_so, left_so}

-- 1. A token that ends with an octet.

-- its end isn't shown by the octet behind it
abbrev gives_shown : Action → Bool
gives_shown (Action.Give TokenKind.Word k) = false
gives_shown (Action.Give TokenKind.KindName k) = false
gives_shown (Action.Give (TokenKind.Mark Mark.FieldsOpen) k) = false
gives_shown _ = true

-- and it ended with the octets used
abbrev pub EndsThere : Outcome → Type 0
EndsThere (Given x s) = (IsBare x.kind → ⊥) × (x.end ≡ s.used)
EndsThere _ = Unit {0}

blob_there : (s : Known) (b : Option (List ℕ)) → EndsThere (blob_ends s b)
blob_there s (Some b) = tt
blob_there s None = tt

acts_there : (p : Place) (s : Known) (o : ℕ) (a : Action) → gives_shown a ≡ true → EndsThere (acts p s o a)
acts_there p s o (Action.Give TokenKind.Word k) h = absurd cc
acts_there p s o (Action.Give TokenKind.KindName k) h = absurd cc
acts_there p s o (Action.Give (TokenKind.Mark Mark.FieldsOpen) k) h = absurd cc
acts_there p s o (Action.Give _ k) h = (λ b. b, refl)
acts_there p s o Action.EndBlob h = blob_there s (blob_of s.kept)
acts_there p s o Action.EndWord h = cond_both ((o == 46) && bytes_eq s.kept (codes "null")) _ _ EndsThere (λ e. tt) (λ e. tt)
acts_there p s o _ h = tt

pub ends_there : (p : Place) (s : Known) (o : ℕ) → EndsThere (feed p s o)
ends_there p s o = acts_there p s o (next p s.colon s.mode o) (by_rows_where (λ m. true) (λ sexp m. gives_shown) (λ c t. refl) p s.colon s.mode o refl)

-- 2. What is left behind tokens.

-- behind tokens that ended there these octets are left, of which the scanner has taken up a front
pub record IsLeft (colon : Bool) (end : ℕ) (left : List ℕ) (s : Known) (rest : List ℕ) : Type 0 where
  pub ahead : List ℕ
  pub cut : left ≡ ahead ++ rest
  pub reached : (p : Place) → run p ahead (at Mode.Blank [] colon end end) ≡ Next s

-- the scanner finds tokens, and what is left behind them
finds_to : (after : Bool) (end : ℕ) (left : List ℕ) (ts : List Placed)
    → FindsFrom (λ c b o. (c ≡ after) × (b ≡ end) × (o ≡ left)) (IsLeft after end left) (Unit {0}) ts
finds_to after end left [] = λ colon k octets ahead rest s lexes e reached. Nothing s rest (record {
  ahead = ahead;
  cut = sym lexes.2 ∙ e;
  reached = λ p. subst (λ c. run p ahead (at Mode.Blank [] c end end) ≡ Next s) lexes.0
      (subst (λ (n : ℕ). run p ahead (at Mode.Blank [] colon n n) ≡ Next s) lexes.1 (reached p));
})
finds_to after end left (t ∷ ts) = find_token (λ c b o. (c ≡ after) × (b ≡ end) × (o ≡ left)) (IsLeft after end left) (Unit {0}) (λ c b o w x. tt) t ts
    (finds_to after end left ts)

pub lexes_found : (u : List ℕ) (ts : List Placed) (after : Bool) (end : ℕ) (left : List ℕ) → LexesTo false 0 u ts after end left
    → FindsUpTo (IsLeft after end left) (Unit {0}) initial u ts
lexes_found u ts after end left lexes = finds_to after end left ts false 0 u [] u initial lexes refl (λ p. refl)

module _ (R : Known → List ℕ → Type 0) where
  -- whatever is so behind the tokens
  pub forget : (s : Known) (octets : List ℕ) (ts : List Placed) → FindsUpTo R (Unit {0}) s octets ts → FindsUpTo Any (Unit {0}) s octets ts
  forget _ _ _ (Nothing s octets w) = Nothing s octets tt
  forget _ _ _ (Last s octets t s' e f) = Last s octets t s' e f
  forget _ _ _ (Gives s octets t ts s' e f) = Gives s octets t ts s' e (forget s' (drop (s'.used - s.used) octets) ts f)
  forget _ _ _ (Leaves s octets t ts s' e f) = Leaves s octets t ts s' e (forget s' (drop (s'.used - s.used) octets) ts f)
  forget _ _ _ (Unclosed s octets t ts s' colon letters bare e f start operator more) =
      Unclosed s octets t ts s' colon letters (λ n. tt) e f start operator (forget (in_word letters colon t.lexeme.end s'.used) [] ts more)

-- 3. Octets of a token.

module _ (ByOctet ByEnd : Type 0) (Rest : Known → List ℕ → Type 0) where
  abbrev S : Known → List ℕ → List Placed → Type 0
  S = Sees ByOctet ByEnd Rest

  -- up to the octet with which it ends
  pub given_sees : (os rest : List ℕ) (s s' : Known) (t : Placed) (ts : List Placed) → run t.place os s ≡ Given t.lexeme s' → s'.used ≡ s.used + length os
      → ((k : Known) (o : ℕ) → feed t.place k o ≡ Given t.lexeme s' → S k (o ∷ rest) (t ∷ ts)) → S s (os ++ rest) (t ∷ ts)
  given_sees os rest s s' t ts e n q = given_so t (λ k us. S k us (t ∷ ts)) (λ k o us k' f. sees_on k o us t ts k' f) os rest s s' e n q

  -- up to the octet before which it ended
  pub left_sees : (os : List ℕ) (x : ℕ) (rest : List ℕ) (s s' : Known) (t : Placed) (ts : List Placed) → run t.place (os ++ x ∷ []) s ≡ Left t.lexeme s'
      → s'.used ≡ s.used + length os → ((k : Known) → feed t.place k x ≡ Left t.lexeme s' → S k (x ∷ rest) (t ∷ ts)) → S s (os ++ x ∷ rest) (t ∷ ts)
  left_sees os x rest s s' t ts e n q = left_so t (λ k us. S k us (t ∷ ts)) (λ k o us k' f. sees_on k o us t ts k' f) os x rest s s' e n q

-- 4. The tokens of a row.

module _ (g : Catalog) (l : Limits) (u : List ℕ) (last : Placed) (ended : HasEnded g l u last) (after : Bool) (end : ℕ) (left : List ℕ)
    (ByOctet ByEnd : Type 0) (Rest : Known → List ℕ → Type 0) where
  abbrev F : Known → List ℕ → List Placed → Type 0
  F = FindsUpTo (IsLeft after end left) (Unit {0})

  abbrev T : Known → List ℕ → List Placed → Type 0
  T = Sees ByOctet ByEnd Rest

  behind_last : (s : Known) (octets rest : List ℕ) → F s octets [] → octets ≡ rest → IsLeft after end left s rest
  behind_last _ _ rest (Nothing s octets w) e = subst (IsLeft after end left s) e w

  -- The scanner meets the tokens in octets in which the last of them has ended, if it meets that one where it ends.
  module _ (given : (k : Known) (o : ℕ) (s : Known) (rest : List ℕ) → feed last.place k o ≡ Given last.lexeme s → IsLeft after end left s rest
      → T k (o ∷ rest) (last ∷ []))
      (leaves : (k : Known) (o : ℕ) (s : Known) (rest : List ℕ) → feed last.place k o ≡ Left last.lexeme s → IsLeft after end left s (o ∷ rest)
      → T k (o ∷ rest) (last ∷ [])) where
    found_sees : (s : Known) (octets : List ℕ) (x : Placed) (xs : List Placed) → F s octets (x ∷ xs) → s.used + length octets ≡ length u
        → last_of x xs ≡ last → T s octets (x ∷ xs)
    found_sees _ _ _ _ (Last s octets x s' ran at) used is =
        absurd (found_open g l u last ended s s' octets x [] (Last s octets x s' ran at) ran (next_used x.place octets s s' (sym ran) ∙ used) is)
    found_sees _ _ _ _ (Unclosed s octets x xs s' colon letters bare ran at first operator f) used is =
        absurd (found_open g l u last ended s s' octets x xs
        (forget (IsLeft after end left) s octets (x ∷ xs) (Unclosed s octets x xs s' colon letters bare ran at first operator f)) ran
        (next_used x.place octets s s' (sym ran) ∙ used) is)
    found_sees _ _ _ _ (Gives s octets x [] s' ran f) used is =
        let d = given_split x.place octets s s' x.lexeme ran in
        let w = behind_last s' (drop (s'.used - s.used) octets) d.rest f
        (ap (drop (s'.used - s.used)) d.cut ∙ behind_front d.octets d.rest s.used s'.used d.used) in
        subst (λ y. T s y (x ∷ [])) (sym d.cut)
        (given_sees ByOctet ByEnd Rest d.octets d.rest s s' x [] d.ran d.used
        (λ k o e. subst (λ y. T k (o ∷ d.rest) (y ∷ [])) (sym is)
        (given k o s' d.rest (subst (λ (y : Placed). feed y.place k o ≡ Given y.lexeme s') is e) w)))
    found_sees _ _ _ _ (Gives s octets x (y ∷ ys) s' ran f) used is =
        let d = given_split x.place octets s s' x.lexeme ran in
        let same : drop (s'.used - s.used) octets ≡ d.rest = ap (drop (s'.used - s.used)) d.cut ∙ behind_front d.octets d.rest s.used s'.used d.used in
        let behind = found_sees s' (drop (s'.used - s.used) octets) y ys f
        (omega (arith, used, ap length same, ap length d.cut, length-append d.octets d.rest, d.used)) is in
        subst (λ z. T s z (x ∷ y ∷ ys)) (sym d.cut)
        (given_sees ByOctet ByEnd Rest d.octets d.rest s s' x (y ∷ ys) d.ran d.used
        (λ k o e. sees_given k o d.rest x (y ∷ ys) s' e (subst (λ z. T s' z (y ∷ ys)) same behind)))
    found_sees _ _ _ _ (Leaves s octets x [] s' ran f) used is =
        let d = left_split x.place octets s s' x.lexeme ran in
        let w = behind_last s' (drop (s'.used - s.used) octets) (d.octet ∷ d.rest) f
        (ap (drop (s'.used - s.used)) d.cut ∙ behind_front d.octets (d.octet ∷ d.rest) s.used s'.used d.used) in
        subst (λ y. T s y (x ∷ [])) (sym d.cut)
        (left_sees ByOctet ByEnd Rest d.octets d.octet d.rest s s' x [] d.ran d.used
        (λ k e. subst (λ y. T k (d.octet ∷ d.rest) (y ∷ [])) (sym is)
        (leaves k d.octet s' d.rest (subst (λ (y : Placed). feed y.place k d.octet ≡ Left y.lexeme s') is e) w)))
    found_sees _ _ _ _ (Leaves s octets x (y ∷ ys) s' ran f) used is =
        let d = left_split x.place octets s s' x.lexeme ran in
        let same : drop (s'.used - s.used) octets ≡ d.octet ∷ d.rest = ap (drop (s'.used - s.used)) d.cut
        ∙ behind_front d.octets (d.octet ∷ d.rest) s.used s'.used d.used in
        let behind = found_sees s' (drop (s'.used - s.used) octets) y ys f
        (omega (arith, used, ap length same, ap length d.cut, length-append d.octets (d.octet ∷ d.rest), d.used)) is in
        subst (λ z. T s z (x ∷ y ∷ ys)) (sym d.cut)
        (left_sees ByOctet ByEnd Rest d.octets d.octet d.rest s s' x (y ∷ ys) d.ran d.used
        (λ k e. sees_left k d.octet d.rest x (y ∷ ys) s' e (subst (λ z. T s' z (y ∷ ys)) same behind)))

    -- It meets all the tokens that the octets are.
    pub tokens_seen : (front : List Placed) → LexesTo false 0 u (front ++ last ∷ []) after end left → T initial u (front ++ last ∷ [])
    tokens_seen [] lexes = found_sees initial u last [] (lexes_found u (last ∷ []) after end left lexes) (omega arith) refl
    tokens_seen (x ∷ xs) lexes = found_sees initial u x (xs ++ last ∷ []) (lexes_found u (x ∷ (xs ++ last ∷ [])) after end left lexes) (omega arith)
        (last_behind xs last [] x)

-- What an octet shows of a token that may go on is so in the words of the grammar.
use Rattle.std.proofs.Common.{◌≡◌, ℕ, ◌+◌, ◌-◌, inl, inr, Bool, true, false, List, [], ◌∷◌, ◌++◌, length, refl, sym, ap, ◌∙◌, subst, arith, append-nil}
use Rattle.std.specs.Prelude.{◌==◌, ◌&&◌, bytes_eq, codes, Some, None, if◌then◌else◌}
use Rattle.std.proofs.lemmas.Bool.{cond_both}
use Rattle.ion_tokens.specs.Names.{Action, Begun, Continues, ForeseenSo, Foresight, Form, Given, IsBlank, Known, Left, Lexeme, Lexes, LexesTo, Mark, Mode, Next, NextIs, Outcome, Place, Placed, Refused, Scanned, ShowsBegun, TokenKind, acts, behind, blob_of, feed, follow, foresight, foresight_at, foresight_behind, foresight_by, form_of, is_idle, run, start_of}
use Rattle.ion_tokens.specs.machine.Table.{next}
use Rattle.ion_tokens.proofs.foreseen.Begins.{begun_holds, begun_right}
use Rattle.ion_tokens.proofs.foreseen.LeftSymbols.{leaves_quotes}
use Rattle.ion_tokens.proofs.histories.Histories.{given_next, left_next}
use Rattle.ion_tokens.proofs.histories.Stepped.{behind_since, from_left, goes_on, scanned_used, there}
use Rattle.ion_tokens.proofs.sound.Holds.{InMode, IsBegun}
use Rattle.ion_tokens.proofs.runs.Runs.{blob_both}

-- the open token, or the one that ended, begins there, and with its last octet it ends there
unfoldable pub Spans : ℕ → ℕ → Outcome → Type 0
Spans n used (Next t) = t.start ≡ n
Spans n used (Given l t) = (l.start ≡ n) × (l.end ≡ used + 1)
Spans n used (Left l t) = l.start ≡ n
Spans n used (Refused k r) = Unit {0}

acts_span : (p : Place) (s : Known) (o : ℕ) (a : Action) → Spans (start_of s.mode s.start s.used) s.used (acts p s o a)
unfolding Spans
acts_span p s o (Action.Give kind k) = (refl, refl)
acts_span p s o Action.EndWord =
    cond_both ((o == 46) && bytes_eq s.kept (codes "null")) _ _ (Spans (start_of s.mode s.start s.used) s.used) (λ _. refl) (λ _. refl)
acts_span p s o Action.EndBlob = blob_both (Spans (start_of s.mode s.start s.used) s.used) s (blob_of s.kept) tt (λ _. refl)
acts_span p s o (Action.Refuse e) = tt
acts_span p s o _ = refl

-- what comes of an octet spans what is open
pub feed_span : (p : Place) (s : Known) (o : ℕ) → Spans (start_of s.mode s.start s.used) s.used (feed p s o)
feed_span p s o = acts_span p s o (next p s.colon s.mode o)

given_end : (p : Place) (s t : Known) (o : ℕ) (l : Lexeme) → feed p s o ≡ Given l t → l.end ≡ s.used + 1
unfolding Spans
given_end p s t o l e = (subst (Spans (start_of s.mode s.start s.used) s.used) e (feed_span p s o)).1

module _ (p : Place) (s : Known) (u : List ℕ) (ts : List Placed) (h : Scanned p s u ts []) (o : ℕ) where
  -- a run over the one octet comes to what the octet does
  pub ran : (x : Outcome) → feed p s o ≡ x → run p (o ∷ []) s ≡ follow x (λ t. Next t)
  ran x e = ap (λ y. follow y (λ t. Next t)) e

  -- the octets since the last token, and this one, begin with what was left
  pub from : Continues (h.since ++ o ∷ []) h.left
  from = from_left p s u ts [] h (o ∷ []) (o ∷ []) [] (o ∷ [], refl) (sym (append-nil (o ∷ []))) (omega arith)

  used : s.used ≡ length u
  used = scanned_used p s u ts [] h

  -- a token that the octet ends as its last is the next one of each document that goes on so
  pub next_given : (t : Known) (l : Lexeme) → feed p s o ≡ Given l t → NextIs p (u ++ o ∷ []) ts l
  next_given t l e = λ rest others looks lexes.
      given_next h.behind t h.front ts h.left (h.since ++ o ∷ []) from.0 p l h.told from.1 (behind_since p s u ts [] h (o ∷ []) (Given l t) (ran (Given l t) e))
      rest others looks
      (subst (λ v. Lexes false 0 v (ts ++ others)) (there p s u ts [] h (o ∷ []) rest) lexes)

  -- a token that ends before the octet is the next one of each document that goes on so
  pub next_left : (t : Known) (l : Lexeme) → feed p s o ≡ Left l t → NextIs p (u ++ o ∷ []) ts l
  next_left t l e = λ rest others looks lexes.
      left_next h.behind t h.front ts h.left (h.since ++ o ∷ []) from.0 p l h.told from.1 (behind_since p s u ts [] h (o ∷ []) (Left l t) (ran (Left l t) e))
      rest others looks
      (subst (λ v. Lexes false 0 v (ts ++ others)) (there p s u ts [] h (o ∷ []) rest) lexes)

  goes : (b : Bool) (f : Form) (begun : Begun) → begun.form ≡ f → ShowsBegun p (u ++ o ∷ []) ts (if b then None else Some begun)
      → ForeseenSo p u ts o (if b then Foresight.Blank else foresight_by f)
  goes true f begun e k = k
  goes false Form.Other begun e k = tt
  goes false _ begun e k = inl (begun, (λ n. cc), k)

  gives : (t : Known) (l : Lexeme) (k : TokenKind) → l.kind ≡ k → feed p s o ≡ Given l t → ForeseenSo p u ts o (foresight_at k)
  gives t l (TokenKind.Mark Mark.Colons) i e = (l, i, (given_end p s t o l e ∙ ap (λ (n : ℕ). n + 1) used), next_given t l e)
  gives t l TokenKind.LongString i e = inr (l, i, (given_end p s t o l e ∙ ap (λ (n : ℕ). n + 1) used), next_given t l e)
  gives t l _ i e = tt

  -- what the octets behind the tokens told are behind `''`
  in_quotes : (colon : Bool) (end : ℕ) (m : Mode) (kept : List ℕ) (start : ℕ) (since : List ℕ) → m ≡ Mode.Quotes → InMode p colon end m kept start since
      → (blank : List ℕ) × IsBlank blank × (since ≡ blank ++ codes "''") × (kept ≡ [])
  in_quotes colon end m kept start since e k =
      let b : IsBegun p colon end Mode.Quotes kept start since = subst (λ x. InMode p colon end x kept start since) e k in
      (b.front, b.blank, b.cut ∙ ap (λ w. b.front ++ w) b.is.0, b.is.1)

  leaves : (t : Known) (l : Lexeme) (k : TokenKind) → l.kind ≡ k → feed p s o ≡ Left l t → ForeseenSo p u ts o (foresight_behind k)
  leaves t l TokenKind.QuotedSymbol i e =
      let q = leaves_quotes p s t o l e i in
      let b = begun_holds p s u ts h in
      let quotes = in_quotes b.colon b.end s.mode s.kept s.start b.since q.mode b.holds.mode in (
        (b.colon, b.end, quotes.0, quotes.1, subst (λ w. LexesTo false 0 u ts b.colon b.end w) quotes.2 b.lexes),
        l,
        i,
        q.octets ∙ quotes.3,
        q.end
            ∙ used,
        next_left t l e,
      )
  leaves t l _ i e = tt

  -- What an octet shows.
  pub foreseen : ForeseenSo p u ts o (foresight (feed p s o))
  foreseen = by (feed p s o) refl
    where
      by : (x : Outcome) → feed p s o ≡ x → ForeseenSo p u ts o (foresight x)
      by (Next t) e =
          let after : Scanned p t (u ++ o ∷ []) ts [] = goes_on p s u ts [] h (o ∷ []) t (o ∷ [], refl) (ran (Next t) e) in
          goes (is_idle t.mode) (form_of t.mode) (record { start = t.start; end = t.used - behind t.mode; form = form_of t.mode }) refl
          (begun_right p t (u ++ o ∷ []) ts after)
      by (Given l t) e = gives t l l.kind refl e
      by (Left l t) e = leaves t l l.kind refl e
      by (Refused n r) e = tt

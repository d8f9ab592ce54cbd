-- Where a token begins that is open behind the next octet.
use Rattle.std.proofs.Common.{◌≡◌, ℕ, Bool, true, false, cond, List, [], ◌∷◌, ◌++◌, refl, sym, ap, ◌∙◌, subst}
use Rattle.std.specs.Prelude.{Option, Some, None}
use Rattle.ion_tokens.specs.Names.{Begun, Covers, Given, IsNext, Known, Left, Lexeme, Lexes, LooksIn, Next, Outcome, Place, Placed, Refused, Scanned, ShowsBegun, feed, is_idle, start_of}
use Rattle.ion_tokens.proofs.foreseen.Begins.{begun_right}
use Rattle.ion_tokens.proofs.foreseen.Foresights.{Spans, feed_span, from, next_given, next_left, ran}
use Rattle.ion_tokens.proofs.foreseen.OneBegun.{one_begun}
use Rattle.ion_tokens.proofs.histories.Histories.{refusal_right}
use Rattle.ion_tokens.proofs.histories.Stepped.{behind_since, goes_on, there}

begun_start : (idle : Bool) (a b : Begun) → cond idle None (Some a) ≡ Some b → b.start ≡ a.start
begun_start true a b e = cc
begun_start false a b e = sym (ap (λ x. start_in x a) e) where
  start_in : Option Begun → Begun → ℕ
  start_in (Some c) d = c.start
  start_in None d = d.start

-- what covers the octets from there on begins with the next token
covers_next : (start end : ℕ) (l : Lexeme) (others : List Placed) → Covers start end others → IsNext l others → start ≡ l.start
covers_next start end l [] c i = absurd c
covers_next start end l (t ∷ ts) c i = sym c.0 ∙ ap (λ (x : Lexeme). x.start) i

-- Where a document goes on with one octet more, and a token has begun then, it begins where the scanner says before.
pub begins_since : (p : Place) (s : Known) (u : List ℕ) (ts : List Placed) → Scanned p s u ts [] → (o : ℕ) (b : Begun) → ShowsBegun p (u ++ o ∷ []) ts (Some b)
    → (rest : List ℕ) (others : List Placed) → LooksIn p others → Lexes false 0 ((u ++ o ∷ []) ++ rest) (ts ++ others)
    → b.start ≡ start_of s.mode s.start s.used
unfolding Spans
begins_since p s u ts h o b (colon, end, octets, to, begun) rest others looks lexes = by (feed p s o) refl (feed_span p s o) where
  next_is : (l : Lexeme) → IsNext l others → b.start ≡ l.start
  next_is l i = covers_next b.start b.end l others (begun.always rest others looks lexes) i

  by : (x : Outcome) → feed p s o ≡ x → Spans (start_of s.mode s.start s.used) s.used x → b.start ≡ start_of s.mode s.start s.used
  by (Next t) e from_there =
      let after : Scanned p t (u ++ o ∷ []) ts [] = goes_on p s u ts [] h (o ∷ []) t (o ∷ [], refl) (ran p s u ts h o (Next t) e) in
      let one = one_begun p (u ++ o ∷ []) ts _ (Some b) (begun_right p t (u ++ o ∷ []) ts after) (colon, end, octets, to, begun) rest others looks lexes in
      begun_start (is_idle t.mode) _ b one ∙ from_there
  by (Given l t) e from_there = next_is l (next_given p s u ts h o t l e rest others looks lexes) ∙ from_there.0
  by (Left l t) e from_there = next_is l (next_left p s u ts h o t l e rest others looks lexes) ∙ from_there
  by (Refused n r) e from_there =
      let c = from p s u ts h o in
      absurd (refusal_right h.behind h.front ts h.left (h.since ++ o ∷ []) c.0 p n r h.told c.1
      (behind_since p s u ts [] h (o ∷ []) (Refused n r) (ran p s u ts h o (Refused n r) e)) rest others looks
      (subst (λ v. Lexes false 0 v (ts ++ others)) (there p s u ts [] h (o ∷ []) rest) lexes))

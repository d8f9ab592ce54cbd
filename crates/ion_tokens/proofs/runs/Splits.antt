-- Where in a piece a token came.
use Rattle.std.proofs.Common.{◌≡◌, ℕ, ◌+◌, List, [], ◌∷◌, ◌++◌, length, subst, arith}
use Rattle.ion_tokens.specs.Names.{Given, Known, Left, Lexeme, Place, feed, run}
use Rattle.ion_tokens.specs.machine.Table.{next}
use Rattle.ion_tokens.proofs.runs.LastOctets.{cut_behind, last_octet, ran_shown, shown, size_shown}
use Rattle.ion_tokens.proofs.runs.Runs.{Between, acts_between}

-- the octets up to the one that ended the token, and the rest
pub record GivenSplit (p : Place) (piece : List ℕ) (s s' : Known) (l : Lexeme) : Type 0 where
  pub octets : List ℕ
  pub rest : List ℕ
  pub cut : piece ≡ octets ++ rest
  pub ran : run p octets s ≡ Given l s'
  pub used : s'.used ≡ s.used + length octets

-- the octets before the one that ended the token, that octet and the rest
pub record LeftSplit (p : Place) (piece : List ℕ) (s s' : Known) (l : Lexeme) : Type 0 where
  pub octets : List ℕ
  pub octet : ℕ
  pub rest : List ℕ
  pub cut : piece ≡ octets ++ octet ∷ rest
  pub ran : run p (octets ++ octet ∷ []) s ≡ Left l s'
  pub used : s'.used ≡ s.used + length octets

-- an octet with which a token is given is used
pub given_one : (p : Place) (o : ℕ) (s s' : Known) (l : Lexeme) → feed p s o ≡ Given l s' → s'.used ≡ s.used + 1
unfolding Between
given_one p o s s' l e = let h = subst (λ x. Between x s.used 1) e (acts_between p s o (next p s.colon s.mode o)) in omega (arith, h.0, h.1)

-- an octet before which a token ended isn't used
pub left_one : (p : Place) (o : ℕ) (s s' : Known) (l : Lexeme) → feed p s o ≡ Left l s' → s'.used ≡ s.used
unfolding Between
left_one p o s s' l e = let h = subst (λ x. Between x s.used 1) e (acts_between p s o (next p s.colon s.mode o)) in omega (arith, h.0, h.1)

-- a piece that gives a token is cut behind the octet that ended it
pub given_split : (p : Place) (piece : List ℕ) (s s' : Known) (l : Lexeme) → run p piece s ≡ Given l s' → GivenSplit p piece s s' l
given_split p piece s s' l e =
    let d = last_octet p piece s (Given l s') tt e in
    record {
      octets = shown d;
      rest = d.rest;
      cut = cut_behind d;
      ran = ran_shown d;
      used = omega (arith, given_one p d.octet d.known s' l d.fed, d.counted, size_shown d);
    }

-- a piece in which a token ended before an octet is cut at that octet
pub left_split : (p : Place) (piece : List ℕ) (s s' : Known) (l : Lexeme) → run p piece s ≡ Left l s' → LeftSplit p piece s s' l
left_split p piece s s' l e =
    let d = last_octet p piece s (Left l s') tt e in
    record {
      octets = d.before;
      octet = d.octet;
      rest = d.rest;
      cut = d.cut;
      ran = ran_shown d;
      used = omega (arith, left_one p d.octet d.known s' l d.fed, d.counted);
    }

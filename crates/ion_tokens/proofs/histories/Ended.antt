-- Where octets show no token, none but those told has ended whatever follows.
use Rattle.std.proofs.Common.{◌≡◌, ℕ, ◌+◌, ◌≤◌, Bool, false, List, [], ◌∷◌, ◌++◌, length, inl, inr, refl, sym, ap, ◌∙◌, subst, arith, append_assoc, length-append}
use Rattle.std.specs.Prelude.{Option, Some, Result, Ok}
use Rattle.ion_tokens.specs.Names.{AllPass, AreOctets, BeginsLexed, End, Gave, Given, Known, Leaved, Lexeme, LexesBefore, Next, Outcome, Place, Placed, Reason, Refused, Stands, end_of, ends_at, run}
use Rattle.ion_tokens.specs.machine.Told.{Begun}
use Rattle.ion_tokens.proofs.complete.Found.{FindsUpTo, FoundBy, found_by}
use Rattle.ion_tokens.proofs.complete.Wholes.{run_behind}
use Rattle.ion_tokens.proofs.histories.Escapes.{Escape, Escapes, Goes, Grows, Refuses, escape}
use Rattle.ion_tokens.proofs.histories.Histories.{begins_completes, stands_found}
use Rattle.ion_tokens.proofs.runs.Runs.{next_used}
use Rattle.ion_tokens.proofs.sound.Holds.{Holds}
use Rattle.ion_tokens.proofs.sound.SoundHistories.{HasTold, stands_tells}
use Rattle.ion_tokens.proofs.sound.Sounds.{RunSound, run_sound}

-- tokens end within the octets
lexes_end : (End : Bool → ℕ → List ℕ → Type 0) (ts : List Placed) (t : Placed) (colon : Bool) (before : ℕ) (octets : List ℕ)
    → LexesBefore End colon before octets (ts ++ t ∷ []) → t.lexeme.end ≤ before + length octets
lexes_end End [] t colon before octets (rest, b, l) = omega (
  arith,
  b.end,
  ap length b.cut,
  length-append (b.blank ++ b.token) rest,
  length-append b.blank b.token,
)
lexes_end End (x ∷ ts) t colon before octets (rest, b, l) = let h = lexes_end End ts t _ x.lexeme.end rest l in
    omega (arith, h, b.end, ap length b.cut, length-append (b.blank ++ b.token) rest, length-append b.blank b.token)

-- the octets used are those taken up
pub stands_used : (s : Known) (u : List ℕ) (ts : List Placed) (ahead : List ℕ) → Stands s u ts ahead → s.used ≡ length u
stands_used s u ts ahead Begun = refl
stands_used s u ts ahead (Gave s0 u0 ts0 ahead0 t octets more0 s' h e f n) = let i = stands_used s0 u0 ts0 ahead0 h in
    omega (arith, i, n, length-append u0 octets)
stands_used s u ts ahead (Leaved s0 u0 ts0 ahead0 t octets more0 x s' h e f n) = let i = stands_used s0 u0 ts0 ahead0 h in
    omega (arith, i, n, length-append u0 octets)

-- a token at the end of the input ends there
end_used : (s : Known) (e : End) (l : Lexeme) → ends_at s e ≡ Ok (Some l) → l.end ≡ s.used
end_used s (End.Token kind k) l h = sym (ap (λ x. end_in x l) h) where
  end_in : Result (Option Lexeme) Reason → Lexeme → ℕ
  end_in (Ok (Some l)) m = l.end
  end_in _ m = m.end
end_used s _ l h = cc

-- what is found over the octets and those behind them ends behind them
not_found : (s : Known) (octets r : List ℕ) (s' : Known) (t : Placed) → run t.place octets s ≡ Next s' → Escapes t.place s' r → t.lexeme.end ≤ s'.used
    → FindsUpTo (λ s octets. Unit {0}) (Unit {0}) s (octets ++ r) (t ∷ []) → ⊥
not_found s octets r s' t e escapes ended found = by escapes where
  -- what is found is so of what the octets lead to
  found_so : (x : Outcome) → run t.place r s' ≡ x → FoundBy (λ s octets. Unit {0}) (Unit {0}) s (octets ++ r) t [] x
  found_so x f = found_by _ _ s (octets ++ r) t [] x (run_behind t.place octets r s s' e ∙ f) found

  by : Escapes t.place s' r → ⊥
  by (Refuses n x f) = found_so (Refused n x) f
  by (Goes z f some more) = elim (found_so (Next z) f) [
    | inl last ↦ absurd (omega (arith, end_used z (end_of t.place z.mode) t.lexeme last.1, next_used t.place r s' z (sym f), some, ended))
    | inr more_comes ↦ more more_comes.1
  ]
  by (Grows l z f later) = absurd (omega (arith, ap (λ (y : Lexeme). y.end) (found_so (Given l z) f).0, later, ended))

-- Where octets show no token, none but those told has ended whatever octets follow.
pub told_all : (s s' : Known) (u : List ℕ) (ts : List Placed) (ahead piece more : List ℕ) (p : Place) → Stands s u ts ahead → AllPass ts → piece ≡ ahead ++ more
    → run p piece s ≡ Next s'
    → (t : Placed) → t.place ≡ p → ((r : List ℕ) → AreOctets r → BeginsLexed false 0 (u ++ (piece ++ r)) (ts ++ t ∷ [])) → ⊥
told_all s s' u ts ahead piece more p h pass cut e t place lexes = by (escape p tells.colon tells.end s' (tells.since ++ piece) holds) where
  tells : HasTold s u ts ahead
  tells = stands_tells s u ts ahead h pass

  holds : Holds p tells.colon tells.end s' (tells.since ++ piece)
  holds = subst (λ x. RunSound p tells.colon tells.end tells.since piece x) e (run_sound p tells.colon tells.end piece tells.since s (tells.holds p))

  ended : t.lexeme.end ≤ s'.used
  ended =
      let within = lexes_end (λ colon before octets. Unit {0}) ts t false 0 (u ++ (piece ++ [])) (lexes [] tt) in
      omega (arith, within, length-append u (piece ++ []), length-append piece [], stands_used s u ts ahead h, next_used p piece s s' (sym e))

  by : Escape p s' → ⊥
  by x =
      let there = stands_found (λ colon before octets. Unit {0}) (λ s octets. Unit {0}) (Unit {0}) begins_completes s u ts ahead (piece ++ x.octets) (t ∷ []) h
      (more ++ x.octets) (ap (λ l. l ++ x.octets) cut ∙ append_assoc ahead more x.octets) (lexes x.octets x.are) in
      not_found s piece x.octets s' t (ap (λ q. run q piece s) place ∙ e) (subst (λ q. Escapes q s' x.octets) (sym place) x.escapes) ended there

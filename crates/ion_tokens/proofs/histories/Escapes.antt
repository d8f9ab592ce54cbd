-- From any state there are octets that show that no token has ended.
use Rattle.std.proofs.Common.{◌≡◌, ℕ, ◌+◌, ◌-◌, ◌<◌, ◌≤◌, ⊎_elim, Bool, true, false, cond, List, [], ◌∷◌, ◌++◌, length, refl, sym, subst, arith}
use Rattle.std.specs.Prelude.{nat_lt, nat_le, ◌||◌, Err}
use Rattle.std.proofs.lemmas.Bool.Decides.{nat_tests}
use Rattle.ion_tokens.specs.Names.{Action, AreOctets, Each, Ending, Given, Known, Lexeme, Lob, Mode, Next, Place, Reason, Refused, Style, Within, acts, add, at_end, follow, run}
use Rattle.ion_tokens.proofs.complete.Moves.{at}
use Rattle.ion_tokens.proofs.sound.Holds.{Holds, InMode, one_to_three}

-- over these octets the scanner refuses; or it goes on to where the end of the input wouldn't say that more must come; or a token ends
-- behind all that came before
pub data Escapes (p : Place) (s : Known) (r : List ℕ) : Type 0 where
  Refuses : (n : ℕ) (e : Reason) → run p r s ≡ Refused n e → Escapes p s r
  Goes : (s' : Known) → run p r s ≡ Next s' → 0 < length r → (at_end p s' ≡ Err Reason.Incomplete → ⊥) → Escapes p s r
  Grows : (l : Lexeme) (s' : Known) → run p r s ≡ Given l s' → s.used < l.end → Escapes p s r

-- octets that show that no token has ended where the scanner stands
pub record Escape (p : Place) (s : Known) : Type 0 where
  pub octets : List ℕ
  pub are : AreOctets octets
  pub escapes : Escapes p s octets

-- numbers that are each tested to be below 256 are octets
pub are_octets : (os : List ℕ) → Each (λ o. nat_lt o 256) os → AreOctets os
are_octets [] h = tt
are_octets (o ∷ os) h = (below o h.0, are_octets os h.1) where
  below : (o : ℕ) → nat_lt o 256 ≡ true → o < 256
  below o h = grind (arith, nat_tests)

one : (o : ℕ) → nat_lt o 256 ≡ true → AreOctets (o ∷ [])
one o h = are_octets (o ∷ []) (h, tt)

two : (o x : ℕ) → nat_lt o 256 ≡ true → nat_lt x 256 ≡ true → AreOctets (o ∷ x ∷ [])
two o x h k = are_octets (o ∷ x ∷ []) (h, (k, tt))

three : (o x y : ℕ) → nat_lt o 256 ≡ true → nat_lt x 256 ≡ true → nat_lt y 256 ≡ true → AreOctets (o ∷ x ∷ y ∷ [])
three o x y h k j = are_octets (o ∷ x ∷ y ∷ []) (h, (k, (j, tt)))

module _ (colon : Bool) (start used : ℕ) (kept : List ℕ) where
  in_operator : (p : Place) (e : Ending) → Escape p (at (Mode.Operator e) kept colon start used)
  in_operator Place.Sexp e = record { octets = 43 ∷ []; are = one 43 refl; escapes = Goes _ refl (omega arith) (λ x. cc) }
  in_operator _ e = record { octets = 43 ∷ []; are = one 43 refl; escapes = Refuses _ _ refl }

  in_operator_slash : (p : Place) → Escape p (at Mode.OperatorSlash kept colon start used)
  in_operator_slash Place.Sexp = record { octets = 43 ∷ []; are = one 43 refl; escapes = Goes _ refl (omega arith) (λ x. cc) }
  in_operator_slash _ = record { octets = 43 ∷ 43 ∷ []; are = two 43 43 refl refl; escapes = Refuses _ _ refl }

  in_infinity : (p : Place) (n : ℕ) → 1 ≤ n → n ≤ 3 → Escape p (at (Mode.Infinity n) kept colon start used)
  in_infinity p n a b = ⊎_elim
      (λ e. subst P (sym e) (record { octets = 110 ∷ 102 ∷ 32 ∷ []; are = three 110 102 32 refl refl refl; escapes = Refuses _ _ refl }))
      (λ m. ⊎_elim (λ e. subst P (sym e) (record { octets = 102 ∷ 32 ∷ []; are = two 102 32 refl refl; escapes = Refuses _ _ refl }))
      (λ e. subst P (sym e) (record { octets = 32 ∷ []; are = one 32 refl; escapes = Refuses _ _ refl })) m) (one_to_three n a b)
    where
      P : ℕ → Type 0
      P n = Escape p (at (Mode.Infinity n) kept colon start used)

  -- the second of two NUL is refused, if the first one isn't
  in_utf8 : (p : Place) (s : Style) (left least most : ℕ) → Escapes p (at (Mode.Text s (Within.Utf8 left least most)) kept colon start used) (0 ∷ 0 ∷ [])
  in_utf8 p s left least most = let h = by (nat_lt 0 least || nat_lt most 0) (nat_le left 1) in Refuses h.0 h.1 h.2 where
    plain : (s : Style) → run p (0 ∷ []) (at (Mode.Text s Within.Plain) (kept ++ 0 ∷ []) colon start (used + 1)) ≡ Refused (used + 1 + 1) Reason.Unexpected
    plain Style.ShortString = refl
    plain _ = refl

    by : (b c : Bool) → (n : ℕ) × (e : Reason) × (follow (acts p (at (Mode.Text s (Within.Utf8 left least most)) kept colon start used) 0
        (cond b (Action.Refuse Reason.BadUtf8) (cond c (add (Mode.Text s Within.Plain) 0) (add (Mode.Text s (Within.Utf8 (left - 1) 0x80 0xbf)) 0))))
        (λ t. run p (0 ∷ []) t) ≡ Refused n e)
    by true c = (used + 1, Reason.BadUtf8, refl)
    by false true = (used + 1 + 1, Reason.Unexpected, plain s)
    by false false = (used + 1 + 1, Reason.BadUtf8, refl)

  in_text : (p : Place) (s : Style) (w : Within) → Escape p (at (Mode.Text s w) kept colon start used)
  in_text p s (Within.Utf8 left least most) = record { octets = 0 ∷ 0 ∷ []; are = two 0 0 refl refl; escapes = in_utf8 p s left least most }
  in_text p Style.ShortString Within.Plain = record { octets = 0 ∷ []; are = one 0 refl; escapes = Refuses _ _ refl }
  in_text p _ Within.Plain = record { octets = 0 ∷ []; are = one 0 refl; escapes = Refuses _ _ refl }
  in_text p Style.ShortString Within.AfterReturn = record { octets = 0 ∷ []; are = one 0 refl; escapes = Refuses _ _ refl }
  in_text p _ Within.AfterReturn = record { octets = 0 ∷ []; are = one 0 refl; escapes = Refuses _ _ refl }
  in_text p Style.ShortString Within.OneQuote = record { octets = 0 ∷ []; are = one 0 refl; escapes = Refuses _ _ refl }
  in_text p _ Within.OneQuote = record { octets = 0 ∷ []; are = one 0 refl; escapes = Refuses _ _ refl }
  in_text p Style.ShortString Within.TwoQuotes = record { octets = 0 ∷ []; are = one 0 refl; escapes = Refuses _ _ refl }
  in_text p _ Within.TwoQuotes = record { octets = 0 ∷ []; are = one 0 refl; escapes = Refuses _ _ refl }
  in_text p s _ = record { octets = 0 ∷ []; are = one 0 refl; escapes = Refuses _ _ refl }

  in_lob : (p : Place) (l : Lob) → Escape p (at (Mode.Lob l) kept colon start used)
  in_lob p Lob.Start = record { octets = 0 ∷ []; are = one 0 refl; escapes = Refuses _ _ refl }
  in_lob p _ = record { octets = 0 ∷ []; are = one 0 refl; escapes = Refuses _ _ refl }

module _ (p : Place) (colon : Bool) (k : ℕ) (start used : ℕ) (since : List ℕ) where
  in_mode : (m : Mode) (kept : List ℕ) → InMode p colon k m kept start since → Escape p (at m kept colon start used)
  in_mode Mode.Blank kept h = record { octets = 32 ∷ []; are = one 32 refl; escapes = Goes _ refl (omega arith) (λ x. cc) }
  in_mode Mode.Slash kept h = record { octets = 47 ∷ []; are = one 47 refl; escapes = Goes _ refl (omega arith) (λ x. cc) }
  in_mode Mode.LineComment kept h = record { octets = 32 ∷ []; are = one 32 refl; escapes = Goes _ refl (omega arith) (λ x. cc) }
  in_mode Mode.BlockComment kept h = record { octets = 42 ∷ 47 ∷ []; are = two 42 47 refl refl; escapes = Goes _ refl (omega arith) (λ x. cc) }
  in_mode Mode.BlockCommentStar kept h = record { octets = 47 ∷ []; are = one 47 refl; escapes = Goes _ refl (omega arith) (λ x. cc) }
  in_mode Mode.Colon kept h = record { octets = 58 ∷ []; are = one 58 refl; escapes = Grows _ _ refl (omega arith) }
  in_mode (Mode.Operator e) kept h = in_operator colon start used kept p e
  in_mode Mode.OperatorSlash kept h = in_operator_slash colon start used kept p
  in_mode (Mode.Infinity n) kept h = let (w, run, a, b) = h.is in in_infinity colon start used kept p n a b
  in_mode Mode.Quote kept h = record { octets = 0 ∷ []; are = one 0 refl; escapes = Refuses _ _ refl }
  in_mode Mode.Quotes kept h = record { octets = 39 ∷ 0 ∷ []; are = two 39 0 refl refl; escapes = Refuses _ _ refl }
  in_mode (Mode.Text s w) kept h = in_text colon start used kept p s w
  in_mode Mode.Brace kept h = record { octets = 123 ∷ 0 ∷ []; are = two 123 0 refl refl; escapes = Refuses _ _ refl }
  in_mode (Mode.Lob l) kept h = in_lob colon start used kept p l
  in_mode _ kept h = record { octets = 48 ∷ []; are = one 48 refl; escapes = Goes _ refl (omega arith) (λ x. cc) }

-- wherever the scanner stands behind the last token, some octets show that no other has ended
pub escape : (p : Place) (colon : Bool) (k : ℕ) (s : Known) (since : List ℕ) → Holds p colon k s since → Escape p s
escape p colon k s since h = subst (λ c. Escape p (at s.mode s.kept c s.start s.used)) (sym h.flag)
    (in_mode p colon k s.start s.used since s.mode s.kept h.mode)

-- What an octet says of a blank, and of a / that is part of no token yet.
use Rattle.std.proofs.Common.{◌≡◌, ℕ, inl, Bool, true, false, List, [], ◌∷◌, refl, ap, ◌∙◌, cond}
use Rattle.std.specs.Prelude.{◌==◌, ◌&&◌, ◌||◌, not}
use Rattle.std.proofs.lemmas.Bool.{and_parts, cond_both, eqb-true, false≢true, not-false}
use Rattle.ion_tokens.specs.Names.{Action, IsLexeme, Mark, MarkEnds, MarkStands, Mode, Place, Style, TokenKind, begins_value, begins_word, give, in_blank, in_slash, is_digit, is_name, is_operator_octet, is_sexp, is_white, kept_after, mark_spelling}
use Rattle.ion_tokens.proofs.sound.Opens.{IsOpen, IsOpenNumber, IsOpenRun, IsUnjudgedToken}
use Rattle.ion_tokens.proofs.sound.TurnsOperators.{digit_no_stop, ends_so, sexp_no_name}
use Rattle.ion_tokens.proofs.texts.TextsRead.{reads_none}

-- what an action at an octet says of a blank before it
abbrev pub First : Place → Bool → ℕ → Action → Type 0
First p colon o (Action.Go Mode.Blank k) = (is_white o ≡ true) × (kept_after k [] ≡ [])
First p colon o (Action.Go Mode.Slash k) = (o ≡ 47) × (kept_after k [] ≡ [])
First p colon o (Action.Go m k) = IsOpen p colon m (o ∷ []) (kept_after k [])
First p colon o (Action.Give kind k) = (r : List ℕ) → IsUnjudgedToken p colon (o ∷ []) r kind (kept_after k [])
First p colon o (Action.Refuse e) = Unit {0}
First p colon o _ = ⊥

digit_open : (p : Place) (o : ℕ) → is_name p ≡ false → is_digit o ≡ true → IsOpenNumber p (o ∷ [])
digit_open p o n h = record { place = n; begun = ap (λ b. b || ((o == 45) && false)) h; each = (ap not (digit_no_stop o h), tt) }

run_open : (o : ℕ) → is_operator_octet o ≡ true → (o == 47) ≡ false → IsOpenRun (o ∷ [])
run_open o h n = record { some = λ e. cc; each = (h, tt); apart = ap (λ b. (b && false) || false) n; last = n }

module _ (p : Place) (colon : Bool) (o : ℕ) where
  -- whichever way a test of the table goes
  on : (test : Bool) (x y : Action) → (test ≡ true → First p colon o x) → (test ≡ false → First p colon o y) → First p colon o (cond test x y)
  on test x y = cond_both test x y (First p colon o)

  mark : (x : ℕ) (m : Mark) → (o == x) ≡ true → x ∷ [] ≡ mark_spelling m → MarkStands p colon m → ((r : List ℕ) → MarkEnds m r) → First p colon o (give m)
  mark x m e f s g = λ r j. ((refl, (λ i. eqb-true o x e i ∷ []) ∙ f, s, g r))

  value_first : is_name p ≡ false → (o == 47) ≡ false → First p colon o (begins_value p o)
  value_first n s =
      on (is_digit o) _ _ (λ e. (refl, digit_open p o n e)) (λ _.
      on (o == 123) _ _ (λ e. ((λ i. eqb-true o 123 e i ∷ []), refl, n)) (λ _.
      on (o == 91) _ _ (λ e. mark 91 Mark.ListOpen e refl n (λ r. tt)) (λ _.
      on (o == 93) _ _ (λ e. mark 93 Mark.ListClose e refl n (λ r. tt)) (λ _.
      on (o == 40) _ _ (λ e. mark 40 Mark.SexpOpen e refl n (λ r. tt)) (λ _.
      on (o == 41) _ _ (λ e. mark 41 Mark.SexpClose e refl n (λ r. tt)) (λ _.
      on (o == 45) _ _ (λ e. let is = eqb-true o 45 e in (refl, n, run_open o (ap is_operator_octet is) s, (λ i. is i ∷ []))) (λ a.
      on (o == 43) _ _ (λ e. (refl, n, run_open o (ap is_operator_octet (eqb-true o 43 e)) s, a)) (λ b.
      on (is_sexp p && is_operator_octet o) _ _ (λ e. let h = and_parts (is_sexp p) (is_operator_octet o) e in
      (refl, n, run_open o h.1 s, (h.0, a, (λ i. b i || a i)))) (λ _. tt)))))))))

  -- what the table does with an octet behind a blank fits the octet
  pub blank_first : First p colon o (in_blank p colon o)
  blank_first =
      on (is_white o) _ _ (λ e. (e, refl)) (λ _.
      on (begins_word o) _ _ (λ e. (refl, (e, (ap (λ b. b || is_digit o) e, tt)))) (λ _.
      on (o == 47) _ _ (λ e. (eqb-true o 47 e, refl)) (λ s.
      on (o == 34) _ _ (λ e. ([], reads_none Style.ShortString, (λ i. eqb-true o 34 e i ∷ []))) (λ _.
      on (o == 39) _ _ (λ e. ((λ i. eqb-true o 39 e i ∷ []), refl)) (λ _.
      on (o == 44) _ _ (λ e. mark 44 Mark.Comma e refl tt (λ r. tt)) (λ _.
      on (o == 125) _ _ (λ e. mark 125 Mark.FieldsClose e refl tt (λ r. tt)) (λ _.
      on (o == 58) _ _ (λ e. on colon _ _ (λ c. ((λ i. eqb-true o 58 e i ∷ []), refl, c)) (λ _. tt)) (λ _.
      on (is_name p) _ _ (λ _. tt) (λ n. value_first n s)))))))))

-- what an action at an octet says of a / before it
abbrev pub Second : Place → Bool → ℕ → Action → Type 0
Second p colon o (Action.Go Mode.LineComment k) = (o ≡ 47) × (kept_after k [] ≡ [])
Second p colon o (Action.Go Mode.BlockComment k) = (o ≡ 42) × (kept_after k [] ≡ [])
Second p colon o (Action.Go m k) = IsOpen p colon m (47 ∷ o ∷ []) (kept_after k [])
Second p colon o (Action.Before kind k Mode.Blank) = (r : List ℕ) → IsUnjudgedToken p colon (47 ∷ []) (o ∷ r) kind (kept_after k [])
Second p colon o (Action.Refuse e) = Unit {0}
Second p colon o _ = ⊥

lone_operator : (p : Place) (colon : Bool) (o : ℕ) → is_sexp p ≡ true → (o == 47) ≡ false → (o == 42) ≡ false → is_operator_octet o ≡ false → (r : List ℕ)
    → IsLexeme p colon (47 ∷ []) (o ∷ r) TokenKind.Operator (47 ∷ [])
lone_operator p colon o s a b n r = (
  refl,
  s,
  record {
    some = λ e. cc;
    each = (refl, tt);
    apart = (λ i. (a i || b i) || false);
    longest = inl n;
    no_number =
        λ e. absurd (false≢true e);
    no_float = λ e. absurd (false≢true e);
  },
)

slashed_open : (o : ℕ) → is_operator_octet o ≡ true → (o == 47) ≡ false → (o == 42) ≡ false → IsOpenRun (47 ∷ o ∷ [])
slashed_open o h a b = record { some = λ e. cc; each = (refl, (h, tt)); apart = (λ i. (a i || b i) || ((a i && false) || false)); last = a }

-- what the table does with an octet behind a `/` fits the two
pub slash_second : (p : Place) (colon : Bool) (o : ℕ) → Second p colon o (in_slash p o)
slash_second p colon o =
    on (o == 47) _ _ (λ e. (eqb-true o 47 e, refl)) (λ a.
    on (o == 42) _ _ (λ e. (eqb-true o 42 e, refl)) (λ b.
    on (not (is_sexp p)) _ _ (λ _. tt) (λ e. let s = not-false (is_sexp p) e in
    on (is_operator_octet o) _ _ (λ f. (refl, sexp_no_name p s, slashed_open o f a b, ends_so p (47 ∷ []) o s))
    (λ f r j. lone_operator p colon o s a b f r))))
  where
    on : (test : Bool) (x y : Action) → (test ≡ true → Second p colon o x) → (test ≡ false → Second p colon o y) → Second p colon o (cond test x y)
    on test x y = cond_both test x y (Second p colon o)

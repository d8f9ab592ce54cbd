-- What an octet says of an open operator, and of a blank.
use Rattle.std.proofs.Common.{◌≡◌, ◌≢◌, ℕ, ◌≤◌, ◌⊎◌, inl, inr, ⊎_elim, Bool, true, false, List, [], ◌∷◌, ◌++◌, refl, sym, ap, ◌∙◌, subst, arith, append_assoc, cond}
use Rattle.std.specs.Prelude.{◌==◌, ◌&&◌, ◌||◌, not, codes, take}
use Rattle.std.proofs.lemmas.Bool.{and_cases, and_parts, cond_both, eqb-true, false≢true, ne_eqb, not-false, or_from, or_parts, true≢false}
use Rattle.std.proofs.lemmas.Bool.Decides.{nat_tests}
use Rattle.ion_tokens.specs.Names.{Action, Ending, IsLexeme, IsOperator, Mode, Place, TokenKind, begins, begins_comment, begins_infinity, comment_within, digit_behind, in_infinity, in_operator, in_operator_slash, is_digit, is_name, is_operator_octet, is_other, is_sexp, is_stop, is_word_octet, refused, run_ending}
use Rattle.ion_tokens.specs.Lexemes.{ends}
use Rattle.ion_tokens.specs.laws.Each.{each_last, not_empty}
use Rattle.ion_tokens.proofs.sound.Opens.{IsOpen, IsOpenNumber, IsOpenRun, RunEndsSo, Turns}
use Rattle.ion_tokens.proofs.complete.TakesOperators.{ends_last}

-- a comment in a whole begins in its front or in its rest
pub comment_append : (w x r : List ℕ) → comment_within (w ++ x) r ≡ comment_within w (x ++ r) || comment_within x r
comment_append [] x r = refl
comment_append (o ∷ w) x r = (λ i. begins_comment (o ∷ append_assoc w x r i) || comment_append w x r i)
    ∙ or_assoc (begins_comment (o ∷ w ++ (x ++ r))) (comment_within w (x ++ r)) (comment_within x r) where
      or_assoc : (a b c : Bool) → (a || (b || c)) ≡ ((a || b) || c)
      or_assoc true b c = refl
      or_assoc false b c = refl

-- what doesn't end in a / has a comment within itself or none
pub apart_more : (w r : List ℕ) → comment_within w [] ≡ false → ends (λ o. o == 47) w ≡ false → comment_within w r ≡ false
apart_more [] r h e = refl
apart_more (o ∷ []) r h e = ap (λ b. (b && begins (λ p. (p == 47) || (p == 42)) r) || false) e
apart_more (o ∷ x ∷ w) r h e = by ((o == 47) && ((x == 47) || (x == 42))) h (apart_more (x ∷ w) r) where
  by : (b : Bool) → (b || comment_within (x ∷ w) []) ≡ false
      → (comment_within (x ∷ w) [] ≡ false → ends (λ o. o == 47) (x ∷ w) ≡ false → comment_within (x ∷ w) r ≡ false) → (b || comment_within (x ∷ w) r) ≡ false
  by true h f = absurd (true≢false h)
  by false h f = f h e

-- one character more
run_more : (w : List ℕ) (o : ℕ) → IsOpenRun w → is_operator_octet o ≡ true → (o == 47) ≡ false → IsOpenRun (w ++ o ∷ [])
run_more w o h e n = record {
  some = not_empty w o;
  each = each_last is_operator_octet w o h.each e;
  apart = comment_append w (o ∷ []) [] ∙ or_from (comment_within w (o ∷ [])) (comment_within (o ∷ []) []) (apart_more w (o ∷ []) h.apart h.last)
      (ap (λ b. (b && false) || false) n);
  last = ends_last (λ o. o == 47) w o ∙ n;
}

-- in an s-expression a run ends as its last octet says
pub ends_so : (p : Place) (w : List ℕ) (o : ℕ) → is_sexp p ≡ true → RunEndsSo p (run_ending o) (w ++ o ∷ [])
ends_so p w o s = by (o == 43) (o == 45) refl refl where
  by : (b c : Bool) → (o == 43) ≡ b → (o == 45) ≡ c → RunEndsSo p (cond b Ending.Plus (cond c Ending.Minus Ending.Other)) (w ++ o ∷ [])
  by true c e f = let is : o ≡ 43 = eqb-true o 43 e in ends_last (λ o. o == 45) w o ∙ ap (λ (x : ℕ). x == 45) is
  by false true e f = s
  by false false e f = (s, ends_last (λ o. o == 45) w o ∙ f, ends_last (λ o. (o == 43) || (o == 45)) w o ∙ or_from (o == 43) (o == 45) e f)

digit_no_operator : (o : ℕ) → is_digit o ≡ true → is_operator_octet o ≡ false
digit_no_operator o h = grind (arith, nat_tests)

-- a digit ends no number
pub digit_no_stop : (o : ℕ) → is_digit o ≡ true → is_stop o ≡ false
digit_no_stop o h = grind (arith, nat_tests)

digit_no_i : (o : ℕ) (r : List ℕ) → is_digit o ≡ true → begins_infinity (o ∷ r) ≡ false
digit_no_i o r h = no_i o r (λ e. true≢false (sym (subst (λ (x : ℕ). is_digit x ≡ true) e h))) where
  no_i : (o : ℕ) (r : List ℕ) → o ≢ 105 → begins_infinity (o ∷ r) ≡ false
  no_i o [] n = refl
  no_i o (x ∷ []) n = refl
  no_i o (x ∷ y ∷ r) n = ap (λ b. b && ((x == 110) && ((y == 102) && not (begins is_word_octet r)))) (ne_eqb o 105 n)

-- an open run before what ends it
pub found_run : (p : Place) (colon : Bool) (w r : List ℕ) → is_sexp p ≡ true → IsOpenRun w → (begins is_operator_octet r ≡ false) ⊎ (begins_comment r ≡ true)
    → (ends (λ o. o == 45) w ≡ true → begins is_digit r ≡ false)
    → (ends (λ o. (o == 43) || (o == 45)) w ≡ true → begins_infinity r ≡ false) → IsLexeme p colon w r TokenKind.Operator w
found_run p colon w r s h l n f = (
  refl,
  s,
  record {
    some = h.some;
    each = h.each;
    apart = apart_more w r h.apart h.last;
    longest = l;
    no_number = n;
    no_float = f;
  },
)

infinity_first : (o : ℕ) (r : List ℕ) → (o == 105) ≡ false → begins_infinity (o ∷ r) ≡ false
infinity_first o [] n = refl
infinity_first o (x ∷ []) n = refl
infinity_first o (x ∷ y ∷ r) n = ap (λ b. b && ((x == 110) && ((y == 102) && not (begins is_word_octet r)))) n

digit_turns : (p : Place) (colon : Bool) (e : Ending) (w : List ℕ) (o : ℕ) → is_name p ≡ false → IsOpenRun w → RunEndsSo p e w → is_digit o ≡ true
    → Turns p colon w w o (digit_behind p e o)
digit_turns p colon Ending.LoneMinus w o n h s d = (
  refl,
  subst (λ l. IsOpenNumber p (l ++ o ∷ [])) (sym s) (record { place = n; begun = d; each = (refl, (ap not (digit_no_stop o d), tt)) }),
)
digit_turns p colon Ending.Minus w o n h s d = tt
digit_turns p colon Ending.Plus w o n h s d = cond_both (is_sexp p) _ _ (Turns p colon w w o)
    (λ f r j. found_run p colon w (o ∷ r) f h (inl (digit_no_operator o d)) (λ m. absurd (true≢false (sym m ∙ s))) (λ m. digit_no_i o r d)) (λ f. tt)
digit_turns p colon Ending.Other w o n h s d = λ r j. (found_run p colon w (o ∷ r) s.0 h (inl (digit_no_operator o d)) (λ m. absurd (true≢false (sym m ∙ s.1)))
    (λ m. digit_no_i o r d))

no_sign : (p : Place) (e : Ending) (w : List ℕ) → RunEndsSo p e w → is_other e ≡ true → ends (λ o. (o == 43) || (o == 45)) w ≡ false
no_sign p Ending.Other w s o = s.2
no_sign p _ w s o = absurd (false≢true o)

-- what the table does with an octet behind an open operator fits the operator
pub operator_turns : (p : Place) (colon : Bool) (e : Ending) (w kept : List ℕ) (o : ℕ) → IsOpen p colon (Mode.Operator e) w kept
    → Turns p colon w kept o (in_operator p e o)
operator_turns p colon e w kept o (k, n, h, s) = subst (λ l. Turns p colon w l o (in_operator p e o)) (sym k)
    (on (is_digit o) _ _ (λ d. digit_turns p colon e w o n h s d) (λ d.
    on ((o == 105) && not (is_other e)) _ _ (λ f. let is = eqb-true o 105 (and_parts (o == 105) _ f).0 in
    ((λ j. w ++ is j ∷ []), h, omega arith, omega arith)) (λ i.
    on (not (is_sexp p)) _ _ (λ f. tt) (λ f. let x = not-false (is_sexp p) f in
    on (o == 47) _ _ (λ f. ((λ j. w ++ eqb-true o 47 f j ∷ []), x, h)) (λ c.
    on (is_operator_octet o) _ _ (λ f. (refl, n, run_more w o h f c, ends_so p w o x))
    (λ f r j. found_run p colon w (o ∷ r) x h (inl f) (λ m. d) (λ m. no_letter r m (and_cases (o == 105) (not (is_other e)) i))))))))
  where
    on : (test : Bool) (x y : Action) → (test ≡ true → Turns p colon w w o x) → (test ≡ false → Turns p colon w w o y) → Turns p colon w w o (cond test x y)
    on test x y = cond_both test x y (Turns p colon w w o)

    no_letter : (r : List ℕ) → ends (λ o. (o == 43) || (o == 45)) w ≡ true → ((o == 105) ≡ false) ⊎ (not (is_other e) ≡ false) → begins_infinity (o ∷ r) ≡ false
    no_letter r m (inl i) = infinity_first o r i
    no_letter r m (inr other) = absurd (true≢false (sym m ∙ no_sign p e w s (not-false (is_other e) other)))

-- in an s-expression no field's name stands
pub sexp_no_name : (p : Place) → is_sexp p ≡ true → is_name p ≡ false
sexp_no_name Place.Name h = absurd (false≢true h)
sexp_no_name _ h = refl

-- a run, a / and a character behind that begin no comment
slashed : (w : List ℕ) (o : ℕ) → IsOpenRun w → ((o == 47) || (o == 42)) ≡ false → (r : List ℕ) → comment_within (w ++ 47 ∷ []) (o ∷ r) ≡ false
slashed w o h c r = comment_append w (47 ∷ []) (o ∷ r) ∙ or_from (comment_within w (47 ∷ o ∷ r)) (comment_within (47 ∷ []) (o ∷ r))
    (apart_more w (47 ∷ o ∷ r) h.apart h.last) (ap (λ b. b || false) c)

slashed_run : (w : List ℕ) (o : ℕ) → IsOpenRun w → ((o == 47) || (o == 42)) ≡ false → is_operator_octet o ≡ true → IsOpenRun ((w ++ 47 ∷ []) ++ o ∷ [])
slashed_run w o h c e = record {
  some = not_empty (w ++ 47 ∷ []) o;
  each = each_last is_operator_octet (w ++ 47 ∷ []) o (each_last is_operator_octet w 47 h.each refl) e;
  apart = comment_append (w ++ 47 ∷ []) (o ∷ []) [] ∙ or_from (comment_within (w ++ 47 ∷ []) (o ∷ [])) (comment_within (o ∷ []) []) (slashed w o h c [])
      (ap (λ b. (b && false) || false) (or_parts (o == 47) (o == 42) c).0);
  last = ends_last (λ o. o == 47) (w ++ 47 ∷ []) o ∙ (or_parts (o == 47) (o == 42) c).0;
}

-- what the table does with an octet behind an operator and a `/` fits them
pub operator_slash_turns : (p : Place) (colon : Bool) (w kept : List ℕ) (o : ℕ) → IsOpen p colon Mode.OperatorSlash w kept
    → Turns p colon w kept o (in_operator_slash o)
operator_slash_turns p colon w kept o (e, s, h) =
    cond_both ((o == 47) || (o == 42)) _ _ (Turns p colon w kept o)
    (λ c. (kept, e, λ r j. found_run p colon kept (47 ∷ o ∷ r) s h (inr c) (λ m. refl) (λ m. infinity_first 47 (o ∷ r) refl)))
    (λ c. cond_both (is_operator_octet o) _ _ (Turns p colon w kept o)
    (λ f. (ap (λ l. l ++ o ∷ []) (sym e), sexp_no_name p s, subst (λ l. IsOpenRun (l ++ o ∷ [])) (sym e) (slashed_run kept o h c f), ends_so p w o s))
    (λ f r j. (
      sym e,
      s,
      subst (λ l. IsOperator l (o ∷ r)) (sym e) (record {
        some = not_empty kept 47;
        each = each_last is_operator_octet kept 47 h.each refl;
        apart = slashed kept o h c r;
        longest = inl f;
        no_number = λ m. absurd (true≢false (sym m ∙ ends_last (λ o. o == 45) kept 47));
        no_float = λ m. absurd (true≢false (sym m ∙ ends_last (λ o. (o == 43) || (o == 45)) kept 47));
      }),
    )))

-- behind a sign and letters of `inf`
split_turns : (p : Place) (colon : Bool) (w kept : List ℕ) (n o : ℕ) → w ≡ kept ++ take n (codes "inf") → IsOpenRun kept → 1 ≤ n → n ≤ 3
    → ((r : List ℕ) → (begins is_operator_octet (take n (codes "inf") ++ o ∷ r) ≡ false) × (begins is_digit (take n (codes "inf") ++ o ∷ r) ≡ false)
    × (begins_infinity (take n (codes "inf") ++ o ∷ r) ≡ false))
    → Turns p colon w kept o (cond (is_sexp p) (Action.Split n) refused)
split_turns p colon w kept n o e h low high f = cond_both (is_sexp p) _ _ (Turns p colon w kept o)
    (λ s. (low, high, kept, e, λ r. found_run p colon kept (take n (codes "inf") ++ o ∷ r) s h (inl (f r).0) (λ m. (f r).1) (λ m. (f r).2))) (λ s. tt)

infinity_one : (p : Place) (colon : Bool) (w kept : List ℕ) (o : ℕ) → IsOpen p colon (Mode.Infinity 1) w kept → Turns p colon w kept o (in_infinity p 1 o)
infinity_one p colon w kept o (e, h, low, high) = cond_both (o == 110) _ _ (Turns p colon w kept o)
    (λ f. ((λ i. e i ++ eqb-true o 110 f i ∷ []) ∙ append_assoc kept (105 ∷ []) (110 ∷ []), h, omega arith, omega arith))
    (λ f. split_turns p colon w kept 1 o e h low high (λ r. (refl, refl, no_n r f)))
  where
    no_n : (r : List ℕ) → (o == 110) ≡ false → begins_infinity (105 ∷ o ∷ r) ≡ false
    no_n [] f = refl
    no_n (x ∷ r) f = ap (λ b. b && ((x == 102) && not (begins is_word_octet r))) f

infinity_two : (p : Place) (colon : Bool) (w kept : List ℕ) (o : ℕ) → IsOpen p colon (Mode.Infinity 2) w kept → Turns p colon w kept o (in_infinity p 2 o)
infinity_two p colon w kept o (e, h, low, high) = cond_both (o == 102) _ _ (Turns p colon w kept o)
    (λ f. ((λ i. e i ++ eqb-true o 102 f i ∷ []) ∙ append_assoc kept (105 ∷ 110 ∷ []) (102 ∷ []), h, omega arith, omega arith))
    (λ f. split_turns p colon w kept 2 o e h low high (λ r. (refl, refl, ap (λ b. b && not (begins is_word_octet r)) f)))

infinity_three : (p : Place) (colon : Bool) (w kept : List ℕ) (o : ℕ) → IsOpen p colon (Mode.Infinity 3) w kept → Turns p colon w kept o (in_infinity p 3 o)
infinity_three p colon w kept o (e, h, low, high) = cond_both (not (is_word_octet o)) _ _ (Turns p colon w kept o) (λ f. tt)
    (λ f. split_turns p colon w kept 3 o e h low high (λ r. (refl, refl, f)))

-- what the table does with an octet behind a sign and letters of `inf` fits them
pub infinity_turns : (p : Place) (colon : Bool) (n : ℕ) (w kept : List ℕ) (o : ℕ) → IsOpen p colon (Mode.Infinity n) w kept
    → Turns p colon w kept o (in_infinity p n o)
infinity_turns p colon n w kept o h =
    ⊎_elim (λ e. at 1 e (infinity_one p colon w kept o)) (λ m. ⊎_elim (λ e. at 2 e (infinity_two p colon w kept o))
    (λ l. at 3 l (infinity_three p colon w kept o)) m) (three n h.2 h.3)
  where
    at : (m : ℕ) → n ≡ m → (IsOpen p colon (Mode.Infinity m) w kept → Turns p colon w kept o (in_infinity p m o)) → Turns p colon w kept o (in_infinity p n o)
    at m e f = subst (λ (x : ℕ). Turns p colon w kept o (in_infinity p x o)) (sym e) (f (subst (λ (x : ℕ). IsOpen p colon (Mode.Infinity x) w kept) e h))

    three : (n : ℕ) → 1 ≤ n → n ≤ 3 → (n ≡ 1) ⊎ ((n ≡ 2) ⊎ (n ≡ 3))
    three n a b = grind (arith, nat_tests)

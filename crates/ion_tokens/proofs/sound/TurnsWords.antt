-- What an octet says of an open word, number, mark or quote.
use Rattle.std.proofs.Common.{◌≡◌, ℕ, ◌⊎◌, inl, inr, ⊎_elim, Bool, true, false, List, [], ◌∷◌, ◌++◌, refl, sym, ap, ◌∙◌, subst, arith}
use Rattle.std.specs.Prelude.{◌==◌, ◌||◌, not}
use Rattle.std.specs.List.{list_any}
use Rattle.std.proofs.lemmas.Bool.{cond_both, eqb-true, false≢true, or_right, true≢false}
use Rattle.std.proofs.lemmas.Bool.Decides.{nat_tests}
use Rattle.ion_tokens.specs.Names.{Each, IsQuoted, Mode, Place, Style, TokenKind, begins, begins_comment, begins_number, begins_word, in_brace, in_colon, in_kind_name, in_number, in_number_slash, in_word, is_stop, is_word_octet}
use Rattle.ion_tokens.specs.laws.Each.{begins_more, each_last}
use Rattle.ion_tokens.proofs.sound.Opens.{IsOpen, IsOpenNumber, IsUnjudgedToken, Turns}

-- words
pub word_turns : (p : Place) (colon : Bool) (w kept : List ℕ) (o : ℕ) → IsOpen p colon Mode.Word w kept → Turns p colon w kept o (in_word o)
word_turns p colon w kept o (e, h) = cond_both (is_word_octet o) _ _ (Turns p colon w kept o)
    (λ f. (ap (λ l. l ++ o ∷ []) e, (begins_more begins_word w (o ∷ []) h.0, each_last is_word_octet w o h.1 f))) (λ f. (e, h, f))

-- what the table does with an octet of the name behind `null.` fits the name
pub kind_turns : (p : Place) (colon : Bool) (w kept : List ℕ) (o : ℕ) → IsOpen p colon Mode.KindName w kept → Turns p colon w kept o (in_kind_name o)
kind_turns p colon w kept o (e, h) = cond_both (is_word_octet o) _ _ (Turns p colon w kept o)
    (λ f. (ap (λ l. l ++ o ∷ []) e, each_last is_word_octet kept o h f)) (λ f r j. (e, h, f))

-- numbers
no_slash : (w : List ℕ) → Each (λ o. not (is_stop o)) w → (list_any (λ o. o == 47) w ≡ true) ⊎ Each (λ o. not (is_stop o || (o == 47))) w
no_slash [] h = inr tt
no_slash (o ∷ w) h = by (o == 47) (is_stop o) refl h.0 (no_slash w h.1) where
  by : (b c : Bool) → (o == 47) ≡ b → not c ≡ true → (list_any (λ o. o == 47) w ≡ true) ⊎ Each (λ o. not (is_stop o || (o == 47))) w
      → ((b || list_any (λ o. o == 47) w) ≡ true) ⊎ ((not (c || b) ≡ true) × Each (λ o. not (is_stop o || (o == 47))) w)
  by true c e f g = inl refl
  by false c e f (inl g) = inl g
  by false true e f (inr g) = absurd (false≢true f)
  by false false e f (inr g) = inr (refl, g)

-- an open number before what ends it
pub number_found : (p : Place) (colon : Bool) (w r : List ℕ) → IsOpenNumber p w → (r ≡ []) ⊎ ((begins is_stop r ≡ true) ⊎ (begins_comment r ≡ true))
    → IsUnjudgedToken p colon w r TokenKind.Number w
number_found p colon w r n l j = ⊎_elim (λ s. absurd (true≢false (sym s ∙ j))) (λ e. (refl, n.place, record { begun = n.begun; each = e; longest = l }))
    (no_slash w n.each)

-- what ends in a `/` has one
pub slash_in : (w : List ℕ) → list_any (λ o. o == 47) (w ++ 47 ∷ []) ≡ true
slash_in [] = refl
slash_in (o ∷ w) = or_right (o == 47) (list_any (λ o. o == 47) (w ++ 47 ∷ [])) (slash_in w)

number_more : (w more : List ℕ) → begins_number w ≡ true → begins_number (w ++ more) ≡ true
number_more [] more h = absurd (false≢true h)
number_more (o ∷ []) more h = grind (arith, nat_tests)
number_more (o ∷ x ∷ w) more h = h

open_more : (p : Place) (w : List ℕ) (o : ℕ) → IsOpenNumber p w → is_stop o ≡ false → IsOpenNumber p (w ++ o ∷ [])
open_more p w o n e = record { place = n.place; begun = number_more w (o ∷ []) n.begun; each = each_last (λ o. not (is_stop o)) w o n.each (ap not e) }

-- what the table does with an octet of an open number fits the number
pub number_turns : (p : Place) (colon : Bool) (w kept : List ℕ) (o : ℕ) → IsOpen p colon Mode.Number w kept → Turns p colon w kept o (in_number o)
number_turns p colon w kept o (e, n) = cond_both (is_stop o) _ _ (Turns p colon w kept o)
    (λ f r. subst (λ l. IsUnjudgedToken p colon w (o ∷ r) TokenKind.Number l) (sym e) (number_found p colon w (o ∷ r) n (inr (inl f))))
    (λ g. cond_both (o == 47) _ _ (Turns p colon w kept o)
    (λ f. ((λ i. sym e i ++ eqb-true o 47 f i ∷ []), subst (λ l. IsOpenNumber p l) (sym e) n))
    (λ f. (ap (λ l. l ++ o ∷ []) e, open_more p w o n g)))

-- what the table does with an octet behind a number and a `/` fits them
pub number_slash_turns : (p : Place) (colon : Bool) (w kept : List ℕ) (o : ℕ) → IsOpen p colon Mode.NumberSlash w kept
    → Turns p colon w kept o (in_number_slash o)
number_slash_turns p colon w kept o (e, n) = cond_both ((o == 47) || (o == 42)) _ _ (Turns p colon w kept o)
    (λ f. (kept, e, λ r. number_found p colon kept (47 ∷ o ∷ r) n (inr (inr f))))
    (λ _. cond_both (is_stop o) _ _ (Turns p colon w kept o) (λ f r j. absurd (true≢false (sym (slash_in kept) ∙ j)))
    (λ f. (ap (λ l. l ++ o ∷ []) (sym e), open_more p w o (subst (λ l. IsOpenNumber p l) (sym e) (open_more p kept 47 n refl)) f)))

-- marks
pub colon_turns : (p : Place) (colon : Bool) (w kept : List ℕ) (o : ℕ) → IsOpen p colon Mode.Colon w kept → Turns p colon w kept o (in_colon o)
colon_turns p colon w kept o (e, k, c) = cond_both (o == 58) _ _ (Turns p colon w kept o)
    (λ f r j. (k, (λ i. e i ++ eqb-true o 58 f i ∷ []), c, tt)) (λ f r j. (k, e, c, f))

-- what the table does with an octet behind one `{` fits the brace
pub brace_turns : (p : Place) (colon : Bool) (w kept : List ℕ) (o : ℕ) → IsOpen p colon Mode.Brace w kept → Turns p colon w kept o (in_brace o)
brace_turns p colon w kept o (e, k, n) = cond_both (o == 123) _ _ (Turns p colon w kept o)
    (λ f. (n, [], (λ i. e i ++ eqb-true o 123 f i ∷ []), (k, tt))) (λ f r j. (k, e, n, f))

-- the empty symbol, or a long string
pub empty_symbol : IsQuoted Style.QuotedSymbol [] []
empty_symbol = record { elements = []; each = tt; crs = tt; close = λ l. tt; spelled = refl; means = refl }

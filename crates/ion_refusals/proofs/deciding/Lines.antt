-- Tokens of octets are tokens of the same octets with the end of a line behind them.
use Rattle.std.proofs.Common.{◌≡◌, ◌==◌, ℕ, Bool, true, false, ◌&&◌, ◌||◌, not, List, [], ◌∷◌, ◌++◌, refl, sym, ap, ◌∙◌, subst, append_assoc, ◌⊎◌, inl, inr}
use Rattle.ion_refusals.specs.Names.{IsLexeme, LexesTo, Mark, MarkEnds, Place, Placed, TokenKind, asterisk, begins_comment, begins_infinity, colon_behind, comment_within, dot, is_digit, is_operator_octet, is_stop, is_word_octet, line_feed, lower_f, lower_i, lower_n, open_brace, single_quote, slash}
use Rattle.ion_tokens.specs.Ascii as ascii
use Rattle.ion_tokens.specs.Lexemes.{begins}

-- the end of a line, which shows where a word or a number ends
abbrev pub line : List ℕ
line = line_feed ∷ []

begins_line : (class : ℕ → Bool) (r : List ℕ) → class line_feed ≡ false → begins class (r ++ line) ≡ begins class r
begins_line class [] h = h
begins_line class (o ∷ r) h = refl

comment_line : (r : List ℕ) → begins_comment (r ++ line) ≡ begins_comment r
comment_line [] = refl
comment_line (o ∷ r) = ap (λ b. (o == slash) && b) (begins_line (λ p. (p == slash) || (p == asterisk)) r refl)

within_line : (w r : List ℕ) → comment_within w (r ++ line) ≡ comment_within w r
within_line [] r = refl
within_line (o ∷ w) r =
    ap (λ b. b || comment_within w (r ++ line)) (ap (λ z. begins_comment (o ∷ z)) (sym (append_assoc w r line)) ∙ comment_line (o ∷ (w ++ r)))
    ∙ ap (λ b. begins_comment (o ∷ (w ++ r)) || b) (within_line w r)

infinity_line : (r : List ℕ) → begins_infinity (r ++ line) ≡ begins_infinity r
infinity_line [] = refl
infinity_line (i ∷ []) = refl
infinity_line (i ∷ n ∷ []) = go (i == lower_i) (n == lower_n)
  where
    go : (a b : Bool) → (a && (b && false)) ≡ false
    go true true = refl
    go _ _ = refl
infinity_line (i ∷ n ∷ f ∷ r) = ap (λ b. (i == lower_i) && ((n == lower_n) && ((f == lower_f) && not b))) (begins_line is_word_octet r refl)

stop_line : (r : List ℕ) → begins is_stop r ≡ true → begins is_stop (r ++ line) ≡ true
stop_line [] h = refl
stop_line (o ∷ r) h = h

mark_line : (m : Mark) (r : List ℕ) → MarkEnds m r → MarkEnds m (r ++ line)
mark_line Mark.FieldsOpen r h = begins_line (λ o. o == open_brace) r refl ∙ h
mark_line Mark.Colon r h = begins_line (λ o. o == ascii.colon) r refl ∙ h
mark_line _ r h = h

lexeme_line : (p : Place) (colon : Bool) (w r : List ℕ) (k : TokenKind) (kept : List ℕ) → IsLexeme p colon w r k kept → IsLexeme p colon w (r ++ line) k kept
lexeme_line p colon w r TokenKind.Word kept (a, b, c, d) = (a, b, begins_line is_word_octet r refl ∙ c, λ e. begins_line (λ o. o == dot) r refl ∙ d e)
lexeme_line p colon w r TokenKind.KindName kept (a, b, c) = (a, b, begins_line is_word_octet r refl ∙ c)
lexeme_line p colon w r TokenKind.Number kept (a, b, n) = (a, b, record { begun = n.begun; each = n.each; longest = by n.longest })
  where
    by : (r ≡ []) ⊎ ((begins is_stop r ≡ true) ⊎ (begins_comment r ≡ true)) → (r ++ line ≡ [])
        ⊎ ((begins is_stop (r ++ line) ≡ true) ⊎ (begins_comment (r ++ line) ≡ true))
    by (inl e) = inr (inl (subst (λ z. begins is_stop (z ++ line) ≡ true) (sym e) refl))
    by (inr (inl h)) = inr (inl (stop_line r h))
    by (inr (inr h)) = inr (inr (comment_line r ∙ h))
lexeme_line p colon w r TokenKind.Operator kept (a, b, n) = (
  a,
  b,
  record {
    some = n.some;
    each = n.each;
    apart = within_line w r ∙ n.apart;
    longest =
        by n.longest;
    no_number = λ e. begins_line is_digit r refl ∙ n.no_number e;
    no_float = λ e. infinity_line r ∙ n.no_float e;
  },
)
  where
    by : (begins is_operator_octet r ≡ false) ⊎ (begins_comment r ≡ true) → (begins is_operator_octet (r ++ line) ≡ false) ⊎ (begins_comment (r ++ line) ≡ true)
    by (inl h) = inl (begins_line is_operator_octet r refl ∙ h)
    by (inr h) = inr (comment_line r ∙ h)
lexeme_line p colon w r TokenKind.QuotedSymbol kept (c, q, e, h) = (c, q, e, λ i. begins_line (λ o. o == single_quote) r refl ∙ h i)
lexeme_line p colon w r (TokenKind.Mark m) kept (a, b, c, d) = (a, b, c, mark_line m r d)
lexeme_line p colon w r _ kept h = h

-- They end where they did.
pub lexes_line : (ts : List Placed) (colon : Bool) (before : ℕ) (octets : List ℕ) (after : Bool) (end : ℕ) (rest : List ℕ)
    → LexesTo colon before octets ts after end rest → LexesTo colon before (octets ++ line) ts after end (rest ++ line)
lexes_line [] colon before octets after end rest (c, b, o) = (c, b, ap (λ z. z ++ line) o)
lexes_line (t ∷ ts) colon before octets after end rest (q, b, h) = (
  q ++ line,
  record {
    blank = b.blank;
    token = b.token;
    is_blank = b.is_blank;
    cut = ap (λ z. z ++ line) b.cut ∙ append_assoc (b.blank ++ b.token) q line;
    start = b.start;
    end = b.end;
    is = lexeme_line t.place colon b.token q t.lexeme.kind t.lexeme.octets b.is;
  },
  lexes_line ts (colon_behind t) t.lexeme.end q after end rest h,
)

-- What the scanner tells at the end of the octets is so.
use Rattle.std.proofs.Common.{◌≡◌, ℕ, ◌+◌, inl, inr, Bool, List, [], ◌∷◌, ◌++◌, length, refl, sym, ap, ◌∙◌, subst, arith, length-append}
use Rattle.std.specs.Prelude.{Option, Some, None, Result, Ok, Err}
use Rattle.std.proofs.lemmas.Bool.{cond_both, or_from, true≢false}
use Rattle.ion_tokens.specs.Names.{End, IsBlank, IsLastBlank, IsOperator, Keep, Known, Lexeme, Mode, Place, Reason, Style, TokenKind, at_end, comment_within, end_of, ends_at, is_sexp, kept_after, operator_end}
use Rattle.ion_tokens.specs.laws.Each.{each_last, not_empty}
use Rattle.ion_tokens.proofs.complete.Moves.{Stays, at}
use Rattle.ion_tokens.proofs.sound.Holds.{Holds, InMode, IsBegun}
use Rattle.ion_tokens.proofs.sound.Opens.{IsOpen, IsOpenRun, IsUnjudgedToken}
use Rattle.ion_tokens.proofs.sound.TurnsOperators.{apart_more, comment_append, found_run}
use Rattle.ion_tokens.proofs.sound.TurnsWords.{empty_symbol, number_found, slash_in}

-- behind a blank, a token up to the end of the input
pub record IsLastToken (p : Place) (colon : Bool) (k : ℕ) (since : List ℕ) (l : Lexeme) : Type 0 where
  pub front : List ℕ
  pub token : List ℕ
  pub blank : IsBlank front
  pub cut : since ≡ front ++ token
  pub start : l.start ≡ k + length front
  pub end : l.end ≡ (k + length front) + length token
  pub found : IsUnjudgedToken p colon token [] l.kind l.octets

-- what the end shows of the octets behind the last token is so: a blank, or a blank and this token
abbrev pub EndSound : Place → Bool → ℕ → List ℕ → Result (Option Lexeme) Reason → Type 0
EndSound p colon k since (Ok None) = IsLastBlank since
EndSound p colon k since (Ok (Some l)) = IsLastToken p colon k since l
EndSound p colon k since (Err r) = Unit {0}

-- what an end says of an open token
abbrev EndTurns : Place → Bool → List ℕ → List ℕ → End → Type 0
EndTurns p colon w kept End.Blank = ⊥
EndTurns p colon w kept (End.Token kind k) = IsUnjudgedToken p colon w [] kind (kept_after k kept)
EndTurns p colon w kept (End.Refuse r) = Unit {0}

run_ended : (p : Place) (colon : Bool) (w : List ℕ) → IsOpenRun w → EndTurns p colon w w (operator_end p Keep.Nothing)
run_ended p colon w h = cond_both (is_sexp p) _ _ (EndTurns p colon w w)
    (λ s j. found_run p colon w [] s h (inl refl) (λ m. refl) (λ m. refl)) (λ s. tt)

-- a run and a / up to the end
slash_operator : (kept : List ℕ) → IsOpenRun kept → IsOperator (kept ++ 47 ∷ []) []
slash_operator kept h = record {
  some = not_empty kept 47;
  each = each_last _ kept 47 h.each refl;
  apart = comment_append kept (47 ∷ []) [] ∙ or_from (comment_within kept (47 ∷ [])) (comment_within (47 ∷ []) []) (apart_more kept (47 ∷ []) h.apart h.last)
      refl;
  longest = inl refl;
  no_number = λ m. refl;
  no_float = λ m. refl;
}

slash_ended : (p : Place) (colon : Bool) (w kept : List ℕ) → w ≡ kept ++ 47 ∷ [] → IsOpenRun kept → EndTurns p colon w kept (operator_end p (Keep.One 47))
slash_ended p colon w kept e h = cond_both (is_sexp p) _ _ (EndTurns p colon w kept)
    (λ s j. (sym e, s, subst (λ l. IsOperator l []) (sym e) (slash_operator kept h))) (λ s. tt)

token_ends : (p : Place) (colon : Bool) (m : Mode) (w kept : List ℕ) → IsOpen p colon m w kept → EndTurns p colon w kept (end_of p m)
token_ends p colon Mode.Colon w kept (e, k, c) = λ j. (k, e, c, refl)
token_ends p colon Mode.Word w kept (e, h) = λ j. (e, h, refl, λ null. refl)
token_ends p colon Mode.KindName w kept (e, h) = λ j. (e, h, refl)
token_ends p colon Mode.Number w kept (e, n) = subst (λ l. IsUnjudgedToken p colon w [] TokenKind.Number l) (sym e) (number_found p colon w [] n (inl refl))
token_ends p colon Mode.NumberSlash w kept (e, n) = λ j. absurd (true≢false (sym (slash_in kept) ∙ j))
token_ends p colon (Mode.Operator x) w kept (e, n, h, s) = subst (λ l. EndTurns p colon w l (operator_end p Keep.Nothing)) (sym e) (run_ended p colon w h)
token_ends p colon Mode.OperatorSlash w kept (e, s, h) = slash_ended p colon w kept e h
token_ends p colon (Mode.Infinity n) w kept h = tt
token_ends p colon Mode.Quote w kept h = tt
token_ends p colon Mode.Quotes w kept (e, k) = λ j. (
  [],
  subst (λ l. Rattle.ion_tokens.specs.Quoted.IsQuoted Style.QuotedSymbol [] l) (sym k) empty_symbol,
  e,
  λ i. refl,
)
token_ends p colon (Mode.Text s v) w kept h = tt
token_ends p colon Mode.Brace w kept (e, k, n) = λ j. (k, e, n, refl)
token_ends p colon (Mode.Lob l) w kept h = tt
token_ends p colon _ w kept h = absurd h

module _ (p : Place) (colon : Bool) (k : ℕ) (start used : ℕ) (since : List ℕ) (uses : used ≡ k + length since) where
  in_token : (m : Mode) (kept : List ℕ) → Stays m → IsBegun p colon k m kept start since
      → EndSound p colon k since (ends_at (at m kept colon start used) (end_of p m))
  in_token m kept stays b = by (end_of p m) (token_ends p colon m b.token kept b.is) where
    by : (e : End) → EndTurns p colon b.token kept e → EndSound p colon k since (ends_at (at m kept colon start used) e)
    by End.Blank h = absurd h
    by (End.Token kind c) h = record {
      front = b.front;
      token = b.token;
      blank = b.blank;
      cut = b.cut;
      start = stays start used ∙ b.begins;
      end =
          omega (arith, uses, ap length b.cut, length-append b.front b.token);
      found = h;
    }
    by (End.Refuse r) h = tt

  lone_slash : (kept : List ℕ) (front : List ℕ) → kept ≡ [] → IsBlank front → since ≡ front ++ 47 ∷ []
      → EndSound p colon k since (ends_at (at Mode.Slash kept colon start used) (operator_end p (Keep.One 47)))
  lone_slash kept front e b c =
      cond_both (is_sexp p) _ _ (λ x. EndSound p colon k since (ends_at (at Mode.Slash kept colon start used) x))
      (λ s. record {
        front = front;
        token = 47 ∷ [];
        blank = b;
        cut = c;
        start = omega (arith, uses, ap length c, length-append front (47 ∷ []));
        end = omega (arith, uses, ap length c, length-append front (47 ∷ []));
        found = λ j. (
          ap (λ l. l ++ 47 ∷ []) e,
          s,
          record {
            some = λ f. cc;
            each = (refl, tt);
            apart = refl;
            longest = inl refl;
            no_number = λ m. refl;
            no_float = λ m. refl;
          },
        );
      }) (λ s. tt)

  mode_ends : (m : Mode) (kept : List ℕ) → InMode p colon k m kept start since → EndSound p colon k since (at_end p (at m kept colon start used))
  mode_ends Mode.Blank kept (e, b) = inl b
  mode_ends Mode.Slash kept (e, front, b, c) = lone_slash kept front e b c
  mode_ends Mode.LineComment kept (e, c) = inr c
  mode_ends Mode.BlockComment kept b = tt
  mode_ends Mode.BlockCommentStar kept b = tt
  mode_ends Mode.Quote kept b = tt
  mode_ends (Mode.Text s v) kept b = tt
  mode_ends (Mode.Lob l) kept b = tt
  mode_ends m kept b = in_token m kept (λ s u. refl) b

-- What the end of the octets shows is so: they are a blank, or a blank and this token.
pub end_sound : (p : Place) (colon : Bool) (k : ℕ) (s : Known) (since : List ℕ) → Holds p colon k s since → EndSound p colon k since (at_end p s)
end_sound p colon k s since h = subst (λ c. EndSound p colon k since (at_end p (at s.mode s.kept c s.start s.used))) (sym h.flag)
    (mode_ends p colon k s.start s.used since h.used s.mode s.kept h.mode)

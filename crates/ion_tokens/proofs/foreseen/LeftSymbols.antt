-- A quoted symbol that an octet ends which isn't part of it is `''`: others end with their last quote.
use Rattle.std.proofs.Common.{◌≡◌, ℕ, ◌-◌, Bool, true, false, cond, List, [], refl, sym, ap, ◌∙◌, subst, arith, Option, Some, None}
use Rattle.std.specs.Prelude.{◌==◌, ◌&&◌, not, bytes_eq, codes}
use Rattle.ion_tokens.specs.Names.{Action, Given, Keep, Known, Left, Lexeme, Mode, Next, Outcome, Place, Style, TokenKind, Within, acts, before, blob_ends, blob_of, cut, feed, go, go_to, past}
use Rattle.ion_tokens.specs.machine.Table.{next}
use Rattle.ion_tokens.specs.laws.ByRows.{by_rows_where}

-- the action ends no quoted symbol before the octet
abbrev ends_none : Action → Bool
ends_none (Action.Before TokenKind.QuotedSymbol _ _) = false
ends_none _ = true

abbrev is_quotes : Mode → Bool
is_quotes Mode.Quotes = true
is_quotes _ = false

-- The table ends none but where two quotes are open.
table_none : (p : Place) (colon : Bool) (m : Mode) (o : ℕ) → not (is_quotes m) ≡ true → ends_none (next p colon m o) ≡ true
table_none = by_rows_where (λ m. not (is_quotes m)) (λ sexp m. ends_none) (λ c t. refl)

abbrev pub lexeme_or : Lexeme → Outcome → Lexeme
lexeme_or d (Given l s) = l
lexeme_or d (Left l s) = l
lexeme_or d _ = d

other_kind : (kind : TokenKind) (k : Keep) (m : Mode) → ends_none (Action.Before kind k m) ≡ true → kind ≡ TokenKind.QuotedSymbol → ⊥
other_kind kind k m h e = let never : false ≡ true = subst (λ x. ends_none (Action.Before x k m) ≡ true) e h in cc

acts_none : (p : Place) (s t : Known) (o : ℕ) (l : Lexeme) (a : Action) → ends_none a ≡ true → acts p s o a ≡ Left l t → l.kind ≡ TokenKind.QuotedSymbol → ⊥
acts_none p s t o l (Action.Before kind k m) h e i = other_kind kind k m h (ap (λ x. (lexeme_or l x).kind) e ∙ i)
acts_none p s t o l Action.EndWord h e i = by ((o == 46) && bytes_eq s.kept (codes "null")) e where
  by : (b : Bool) → cond b (Next (go_to s Mode.KindName [])) (Left (cut s TokenKind.Word s.kept s.used) (past p TokenKind.Word Mode.Blank [] s.used s.used))
      ≡ Left l t → ⊥
  by true f = cc
  by false f = let same : TokenKind.Word ≡ TokenKind.QuotedSymbol = ap (λ x. (lexeme_or l x).kind) f ∙ i in cc
acts_none p s t o l (Action.Split n) h e i = let same : TokenKind.Operator ≡ TokenKind.QuotedSymbol = ap (λ x. (lexeme_or l x).kind) e ∙ i in cc
acts_none p s t o l Action.EndBlob h e i = by (blob_of s.kept) e where
  by : (b : Option (List ℕ)) → blob_ends s b ≡ Left l t → ⊥
  by None f = cc
  by (Some octets) f = cc
acts_none p s t o l _ h e i = cc

-- A quoted symbol was left before an octet: behind `''`, and nothing more is kept of it.
pub record LeavesQuotes (s : Known) (l : Lexeme) : Type 0 where
  pub mode : s.mode ≡ Mode.Quotes
  pub octets : l.octets ≡ s.kept
  pub end : l.end ≡ s.used

-- a quoted symbol that an octet ends which isn't part of it is `''`
pub leaves_quotes : (p : Place) (s t : Known) (o : ℕ) (l : Lexeme) → feed p s o ≡ Left l t → l.kind ≡ TokenKind.QuotedSymbol → LeavesQuotes s l
leaves_quotes p s t o l e i = by s.mode refl where
  in_quotes_left : s.mode ≡ Mode.Quotes → (b : Bool) → acts p s o (cond b (go (Mode.Text Style.LongString Within.Plain)) (before TokenKind.QuotedSymbol))
      ≡ Left l t → LeavesQuotes s l
  in_quotes_left m true f = cc
  in_quotes_left m false f =
      let whole : s.used - 0 ≡ s.used = omega arith in
      record { mode = m; octets = sym (ap (λ x. (lexeme_or l x).octets) f); end = sym (ap (λ x. (lexeme_or l x).end) f) ∙ whole }

  other : not (is_quotes s.mode) ≡ true → LeavesQuotes s l
  other h = absurd (acts_none p s t o l (next p s.colon s.mode o) (table_none p s.colon s.mode o h) e i)

  by : (m : Mode) → s.mode ≡ m → LeavesQuotes s l
  by Mode.Quotes m = in_quotes_left m (o == 39) (sym (ap (λ x. acts p s o (next p s.colon x o)) m) ∙ e)
  by _ m = other (ap (λ x. not (is_quotes x)) m)

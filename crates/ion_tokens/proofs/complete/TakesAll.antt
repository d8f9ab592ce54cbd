-- Each token is read as it is spelled.
use Rattle.std.proofs.Common.{◌≡◌, ℕ, Bool, List, sym, subst}
use Rattle.ion_tokens.specs.Names.{IsLexeme, Place, TokenKind}
use Rattle.ion_tokens.proofs.complete.Moves.{Takes}
use Rattle.ion_tokens.proofs.complete.TakesLobs.{takes_blob, takes_clob}
use Rattle.ion_tokens.proofs.complete.TakesOperators.{takes_operator}
use Rattle.ion_tokens.proofs.complete.TakesTexts.{takes_long, takes_short, takes_symbol}
use Rattle.ion_tokens.proofs.complete.TakesWords.{takes_kind, takes_mark, takes_number, takes_word}

spelled : {p : Place} {colon : Bool} {w v r : List ℕ} {kind : TokenKind} {kept : List ℕ} → w ≡ v → Takes p colon v r kind kept → Takes p colon w r kind kept
spelled {p = p} {colon = colon} {r = r} {kind = kind} {kept = kept} e h = subst (λ l. Takes p colon l r kind kept) (sym e) h

keeping : {p : Place} {colon : Bool} {w r : List ℕ} {kind : TokenKind} {kept k : List ℕ} → kept ≡ k → Takes p colon w r kind k → Takes p colon w r kind kept
keeping {p = p} {colon = colon} {w = w} {r = r} {kind = kind} e h = subst (λ l. Takes p colon w r kind l) (sym e) h

-- A token is given with its span, its kind and what is kept of it, and isn't refused.
pub takes_lexeme : (p : Place) (colon : Bool) (w r : List ℕ) (kind : TokenKind) (kept : List ℕ) → IsLexeme p colon w r kind kept → Takes p colon w r kind kept
takes_lexeme p colon w r TokenKind.Word kept h = keeping h.0 (takes_word p colon w r h.1 h.2 h.3)
takes_lexeme p colon w r TokenKind.KindName kept h = spelled h.0 (takes_kind p colon kept r h.1 h.2)
takes_lexeme p colon w r TokenKind.Number kept h = keeping h.0 (takes_number p colon w r h.1 h.2)
takes_lexeme p colon w r TokenKind.Operator kept h = keeping h.0 (takes_operator p colon w r h.1 h.2)
takes_lexeme p colon w r TokenKind.QuotedSymbol kept h = spelled h.2 (takes_symbol p colon h.0 kept r h.1 h.3)
takes_lexeme p colon w r TokenKind.ShortString kept h = spelled h.2 (takes_short p colon h.0 kept r h.1)
takes_lexeme p colon w r TokenKind.LongString kept h = spelled h.2 (takes_long p colon h.0 kept r h.1)
takes_lexeme p colon w r TokenKind.Clob kept h = spelled h.3 (takes_clob p colon h.1 kept r h.0 h.2)
takes_lexeme p colon w r TokenKind.Blob kept h = spelled h.3 (takes_blob p colon h.1 kept r h.0 h.2)
takes_lexeme p colon w r (TokenKind.Mark m) kept h = keeping h.0 (spelled h.1 (takes_mark p colon m r h.2 h.3))

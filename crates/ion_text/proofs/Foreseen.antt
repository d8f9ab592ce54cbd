-- What is seen of an octet, and whether what waits goes on with it.
use Rattle.std.proofs.Common.{◌≡◌, Bool, true, false, cond, refl}
use Rattle.std.specs.Prelude.{◌||◌, ◌&&◌}
use Rattle.ion_text.specs.Names.{Foresight, Form, Given, Left, Mark, Next, Outcome, Refused, TokenKind, foresight, foresight_at, foresight_behind, foresight_by, form_of, goes_on_long, goes_on_symbol, is_colons, is_idle, is_long_form, is_quoted, is_segment, long_waits, symbol_waits}

symbol_next : (idle : Bool) (f : Form) → goes_on_symbol (cond idle Foresight.Blank (foresight_by f)) ≡ idle
symbol_next true f = refl
symbol_next false Form.Other = refl
symbol_next _ _ = refl

long_next : (quotes idle : Bool) (f : Form) → goes_on_long quotes (cond idle Foresight.Blank (foresight_by f)) ≡ (idle || is_long_form f)
long_next quotes true f = refl
long_next quotes false Form.Other = refl
long_next quotes _ _ = refl

symbol_given : (k : TokenKind) → goes_on_symbol (foresight_at k) ≡ is_colons k
symbol_given (TokenKind.Mark Mark.Colons) = refl
symbol_given _ = refl

long_given : (quotes : Bool) (k : TokenKind) → goes_on_long quotes (foresight_at k) ≡ is_segment k
long_given quotes (TokenKind.Mark Mark.Colons) = refl
long_given quotes _ = refl

symbol_left : (k : TokenKind) → goes_on_symbol (foresight_behind k) ≡ false
symbol_left (TokenKind.Mark m) = refl
symbol_left _ = refl

long_left : (quotes : Bool) (k : TokenKind) → goes_on_long quotes (foresight_behind k) ≡ (quotes && is_quoted k)
long_left true (TokenKind.Mark m) = refl
long_left false (TokenKind.Mark m) = refl
long_left _ _ = refl

pub symbol_sights : (x : Outcome) → goes_on_symbol (foresight x) ≡ symbol_waits x
symbol_sights (Next s) = symbol_next (is_idle s.mode) (form_of s.mode)
symbol_sights (Given l s) = symbol_given l.kind
symbol_sights (Left l s) = symbol_left l.kind
symbol_sights (Refused n e) = refl

pub long_sights : (quotes : Bool) (x : Outcome) → goes_on_long quotes (foresight x) ≡ long_waits quotes x
long_sights quotes (Next s) = long_next quotes (is_idle s.mode) (form_of s.mode)
long_sights quotes (Given l s) = long_given quotes l.kind
long_sights quotes (Left l s) = long_left quotes l.kind
long_sights quotes (Refused n e) = refl

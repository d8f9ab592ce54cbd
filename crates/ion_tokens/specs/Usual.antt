-- Usual characters of quoted texts.
use Rattle.std.specs.Prelude.{◌≡◌, ◌<◌, ℕ, Bool, true, false, List, length, take, Ok, ◌&&◌, ◌||◌, not, nat_le, nat_lt, ◌==◌}
use Rattle.ion_tokens.specs.Names.{IsFound, Number, Place, ReadsNumber, Rest, TokenKind, is_name}
use Rattle.ion_scalar.specs.text.PlainNumerals.{PlainToken}

-- a character of ASCII that a text in these quotes keeps as it is, no quote and no white space but a space
abbrev pub is_usual : ℕ → ℕ → Bool
is_usual quote o = (nat_le 32 o && nat_lt o 128) && not ((o == 92) || (o == quote))

-- Octets begin with so many of a number, and the octet behind them shows its end.
pub record WholeNumeral (octets : List ℕ) (whole n : ℕ) : Type 0 where
  pub within : n < length octets
  pub reads : (x : Number) × ReadsNumber (take n octets) (Ok x)
  pub digits : PlainToken (take n octets) whole
  pub found : (p : Place) (r : Rest) → is_name p ≡ false → IsFound p r octets TokenKind.Number (take n octets) n true

-- What differs between the sorts of quoted texts.
use Rattle.std.specs.Prelude.{ℕ, Bool, true, false}
use Rattle.ion_tokens.specs.Names.Below.{Style}
use Rattle.ion_tokens.specs.Ascii.{double_quote, single_quote}

-- between three single quotes
abbrev pub is_long : Style → Bool
is_long Style.LongString = true
is_long Style.LongClob = true
is_long _ = false

-- ASCII alone, which stands for octets
abbrev pub is_clob : Style → Bool
is_clob Style.ShortClob = true
is_clob Style.LongClob = true
is_clob _ = false

-- the quote at both ends, one or three of it
abbrev pub quote_of : Style → ℕ
quote_of Style.ShortString = double_quote
quote_of Style.ShortClob = double_quote
quote_of _ = single_quote

-- Texts and symbols: which the types keep, when two are the same, and their order.
use Rattle.std.specs.Prelude.{ℕ, List, [], ◌∷◌, ◌≤◌, length, Bool, false, Option, None, Some, IfSome, nat_eq}
use Rattle.std.specs.Str.{IsUtf8, bytes_eq}
use Rattle.std.specs.Ordering.{nat_cmp}
use Rattle.std.specs.Option.{option_eq, option_cmp}
use Rattle.std.specs.Cmp.Lexicographic.{slice_cmp}
use Rattle.std.specs.declared.cmp.Ordering.{Ordering}
use lib.Pointwise.{pointwise}

-- the text of a symbol, where it is known, is UTF-8
abbrev pub IsText : Option (List ℕ) → Type 0
IsText s = IfSome s IsUtf8

-- each of these symbols is of unknown text, or its text is UTF-8
abbrev pub AreTexts : List (Option (List ℕ)) → Type 0
AreTexts [] = Unit {0}
AreTexts (s ∷ ss) = IsText s × AreTexts ss

-- a symbol that takes no memory: it is unknown, or its text has at most 14 octets
abbrev pub IsFree : Option (List ℕ) → Type 0
IsFree s = IfSome s (λ t. length t ≤ 14)

-- octet by octet
abbrev pub text_same : List ℕ → List ℕ → Bool
text_same = pointwise nat_eq

-- both of unknown text, or both of the same text
abbrev pub symbol_same : Option (List ℕ) → Option (List ℕ) → Bool
symbol_same = option_eq text_same

-- octet by octet, a proper prefix first
abbrev pub text_cmp : List ℕ → List ℕ → Ordering
text_cmp = slice_cmp nat_cmp

-- unknown first, then by the text
abbrev pub symbol_cmp : Option (List ℕ) → Option (List ℕ) → Ordering
symbol_cmp = option_cmp text_cmp

-- whether a symbol has this text; one of unknown text has none
abbrev pub has_text : List ℕ → Option (List ℕ) → Bool
has_text text None = false
has_text text (Some known) = bytes_eq known text

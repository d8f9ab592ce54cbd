-- A line as its words.
use Rattle.std.specs.Prelude.{◌==◌, ℕ, Bool, true, false, List, [], ◌∷◌}
use Rattle.clap.specs.Words.{Text}

-- one more octet in front of the words: a space (32) parts it from them
abbrev pub put_octet : Bool → ℕ → List Text → List Text
put_octet true octet words = [] ∷ words
put_octet false octet [] = (octet ∷ []) ∷ []
put_octet false octet (word ∷ words) = (octet ∷ word) ∷ words

-- the words between the spaces of a line
abbrev pub words_in : Text → List Text
words_in [] = [] ∷ []
words_in (octet ∷ line) = put_octet (octet == 32) octet (words_in line)

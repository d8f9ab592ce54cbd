-- Words that are no symbols (Ion 1.0, "Symbols").
use Rattle.std.specs.Prelude.{ℕ, Bool, ◌||◌, List, codes, bytes_eq}

-- the words that are no symbols without quotes; `nan` is a float
abbrev pub is_keyword : List ℕ → Bool
is_keyword w = (bytes_eq w (codes "null") || bytes_eq w (codes "true")) || (bytes_eq w (codes "false") || bytes_eq w (codes "nan"))

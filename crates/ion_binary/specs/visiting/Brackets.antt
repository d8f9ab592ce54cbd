-- What stands in brackets, and its type code.
use Rattle.std.specs.Prelude.{ℕ}
use Rattle.ion_binary.specs.Names.Below.{Bracket, ListOrSexp}

-- the brackets around the items of a list or an s-expression
abbrev pub bracket_of : ListOrSexp → Bracket
bracket_of ListOrSexp.List = Bracket.List
bracket_of ListOrSexp.Sexp = Bracket.Sexp

-- the type code of what stands in brackets
abbrev pub code_in : Bracket → ℕ
code_in Bracket.List = 11
code_in Bracket.Sexp = 12
code_in Bracket.Fields = 13

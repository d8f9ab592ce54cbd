-- What opens and closes lists, s-expressions and structs, and what stands between their items.
use Rattle.std.specs.Prelude.{ℕ}
use Rattle.ion_spelling.specs.Names.Below.{Bracket}

-- what opens a list, an s-expression or a struct
abbrev pub open_octet : Bracket → ℕ
open_octet Bracket.List = 91
open_octet Bracket.Sexp = 40
open_octet Bracket.Fields = 123

-- what closes it
abbrev pub bracket_close : Bracket → ℕ
bracket_close Bracket.List = 93
bracket_close Bracket.Sexp = 41
bracket_close Bracket.Fields = 125

-- what stands between its items
abbrev pub octet_between : Bracket → ℕ
octet_between Bracket.List = 44
octet_between Bracket.Sexp = 32
octet_between Bracket.Fields = 44

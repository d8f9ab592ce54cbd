-- What differs between the places of tokens.
use Rattle.std.specs.Prelude.{Bool, true, false}
use Rattle.ion_tokens.specs.Names.Below.{Place}

-- in an s-expression, where alone operators may stand
abbrev pub is_sexp : Place → Bool
is_sexp Place.Sexp = true
is_sexp _ = false

-- in a struct, where a field's name may stand
abbrev pub is_name : Place → Bool
is_name Place.Name = true
is_name _ = false
